use Rattle.std.proofs.Common.{◌+◌, arith}
use Rattle.std.proofs.lemmas.Grind.{common_steps}
use Rattle.cli_files.specs.Image.{most_bytes}
use Rattle.cli_files.proofs.FileFronts.{file-front}
use Rattle.cli_files.proofs.LoadedAgain.{images-found, images-refused}
use Rattle.cli_files.proofs.images.images_at.Goals as goal

pub returns-in-Ok-clause-reads : goal.returns-in-Ok-clause-reads
returns-in-Ok-clause-reads g c =
    let front = file-front (most_bytes + 1) _ _ _ c.in-Ok.file c.in-Ok.ensures.bytes in
    record {
      gives = images-found _ _ _ _ c.open_images.result front
          (rw c.as_slice.ensures.value at c.open_images.ensures.program)
          (rw c.as_slice.ensures.value at c.open_images.ensures.machine);
      lacks = images-refused _ _ _ _ c.open_images.result front
          (rw c.as_slice.ensures.value at c.open_images.ensures.refused);
      faults = grind (arith, common_steps);
    }
