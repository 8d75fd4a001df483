use Rattle.std.proofs.Common.{rules}
use Rattle.cli_files.specs.Image.{IsRefused}
use Rattle.report_refusals.specs.declared.faults.ProgramErr.TheVariants.{Load}
use Rattle.cli_files.proofs.Excluded.{never-refused}
use Rattle.cli_files.proofs.opening.open_elf.Goals as goal

pub returns-in-Err-load-clause-refused : goal.returns-in-Err-load-clause-refused
returns-in-Err-load-clause-refused c =
    let refused : IsRefused c.args.image.now (Load c.in-Err-load.error) = search rules in
    (refused, never-refused c.args.image.now (Load c.in-Err-load.error) refused)
