use Rattle.std.proofs.Common.{map}
use Rattle.std.specs.Prelude.{string_bytes}
use Rattle.cli_arguments.specs.Arguments.{layout_in}
use Rattle.cli_time.specs.Asked.{files_asked}
use Rattle.cli_time.proofs.FilesLacking.{lacks-laid}
use Rattle.cli_time.proofs.reading.read_files.Goals as goal

pub returns-in-Err-clause-reads : goal.returns-in-Err-clause-reads
returns-in-Err-clause-reads g c = record {
  gives = tt;
  lacks = lacks-laid (files_asked c.args.delays.now c.args.program.now (map layout_in (map string_bytes c.args.layouts.now))) _ _ _ _
      c.in-Err.ensures.lacks;
  faults = c.in-Err.ensures.faults;
}
