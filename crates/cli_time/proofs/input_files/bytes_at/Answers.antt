use Rattle.std.proofs.Common.{inl, refl, ◌+◌, arith}
use Rattle.cli_files.proofs.FileFronts.{file-front}
use Rattle.cli_time.specs.InputFiles.{most_input}
use Rattle.cli_time.proofs.input_files.bytes_at.Goals as goal

pub returns-in-Ok-clause-refused : goal.returns-in-Ok-clause-refused
returns-in-Ok-clause-refused g c =
    inl (record {
      bytes = c.in-Ok.bytes.items;
      front = file-front (most_input + 1) _ _ _ c.in-Ok.bytes c.in-Ok.ensures.bytes;
      long = omega (arith, c.len.ensures, c.if-len-gt-MOST_INPUT.true);
      status_is = refl;
      reports = c.line.ensures;
    })

pub returns-in-Ok-2-clause-ok : goal.returns-in-Ok-2-clause-ok
returns-in-Ok-2-clause-ok g c = record {
  front = file-front (most_input + 1) _ _ _ c.in-Ok.bytes c.in-Ok.ensures.bytes;
  fits = omega (arith, c.len.ensures, c.if-len-gt-MOST_INPUT.false);
}
