use Rattle.std.proofs.Common.{◌+◌, arith}
use Rattle.std.proofs.lemmas.Grind.{common_steps}
use Rattle.cli_files.proofs.FileFronts.{file-front}
use Rattle.cf_timed.specs.Limits.{most_delays}
use Rattle.cli_time.proofs.DelaysFound.{delays-found, delays-refused}
use Rattle.cli_time.proofs.delay_files.delays_at.Goals as goal

pub returns-in-Ok : goal.returns-in-Ok
returns-in-Ok g c =
    let front = file-front (most_delays + 1) _ _ _ c.in-Ok.text c.in-Ok.ensures.bytes in
    record {
      gives = delays-found _ _ _ _ c.read_text.result front
          (rw c.as_slice.ensures.value at c.read_text.ensures.fits)
          (rw c.as_slice.ensures.value at c.read_text.ensures.told);
      lacks = delays-refused _ _ _ _ c.read_text.result front (rw c.as_slice.ensures.value at c.read_text.ensures.refused);
      faults = grind (arith, common_steps);
    }
