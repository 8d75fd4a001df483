use Rattle.std.proofs.Common.{inl, inr, refl}
use Rattle.cli_files.proofs.NoStreams.{no-cause, lacks-layout-says}
use Rattle.cli_check.proofs.check.check_layout.Goals as goal

pub returns-in-Ok : goal.returns-in-Ok
returns-in-Ok g c = record {
  answers = inl (record {
    plan = c.in-Ok.layout;
    named = c.in-Ok.ensures.gives;
    text = c.write_text.ensures.comes;
  });
  files = rw c.write_text.ensures.files c.in-Ok.ensures.faults;
  input = c.write_text.ensures.input;
  output = c.write_text.ensures.output;
}

pub returns-in-Err : goal.returns-in-Err
returns-in-Err g c = record {
  answers = inr (record { lacks = c.in-Err.ensures.lacks; output = refl });
  files = c.in-Err.ensures.faults;
  input = (lacks-layout-says _ _ _ _ _ c.in-Err.ensures.lacks).input;
  output = no-cause _ _ (lacks-layout-says _ _ _ _ _ c.in-Err.ensures.lacks).output;
}
