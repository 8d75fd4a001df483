use Rattle.std.proofs.Common.{inl, refl, ◌+◌, arith}
use Rattle.std.proofs.lemmas.Grind.{common_steps}
use Rattle.run_scripts.specs.Limits.{most_script}
use Rattle.cli_files.proofs.FileFronts.{file-front}
use Rattle.cli_files.proofs.scripts.script_at.Goals as goal

pub returns-in-Ok : goal.returns-in-Ok
returns-in-Ok g c = record {
  gives = tt;
  lacks = inl (record {
    text = c.in-Ok.text.items;
    front = file-front (most_script + 1) _ _ _ c.in-Ok.text c.in-Ok.ensures.bytes;
    long = omega (arith, c.len.ensures, c.if-len-gt-MOST_BYTES.true);
    status_is = refl;
    reports = c.line.ensures;
  });
  faults = grind (arith, common_steps);
}

pub returns-in-Ok-2 : goal.returns-in-Ok-2
returns-in-Ok-2 g c = record {
  gives = record {
    front = file-front (most_script + 1) _ _ _ c.in-Ok.text c.in-Ok.ensures.bytes;
    fits = omega (arith, c.len.ensures, c.if-len-gt-MOST_BYTES.false);
  };
  lacks = tt;
  faults = grind (arith, common_steps);
}
