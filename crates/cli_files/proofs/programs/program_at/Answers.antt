use Rattle.std.proofs.Common.{◌+◌, arith}
use Rattle.std.proofs.lemmas.Grind.{common_steps}
use Rattle.cli_files.specs.Image.{most_bytes}
use Rattle.cli_files.proofs.FileFronts.{file-front}
use Rattle.cli_files.proofs.ProgramFiles.{program-found, program-refused}
use Rattle.cli_files.proofs.programs.program_at.Goals as goal

pub returns-in-Ok-clause-reads : goal.returns-in-Ok-clause-reads
returns-in-Ok-clause-reads g c =
    let front = file-front (most_bytes + 1) _ _ _ c.in-Ok.image c.in-Ok.ensures.bytes in
    record {
      gives = program-found _ _ _ _ c.open_image.result front
          (rw c.as_slice.ensures.value at c.open_image.ensures.program)
          (rw c.as_slice.ensures.value at c.open_image.ensures.machine);
      lacks = program-refused _ _ _ _ c.open_image.result front
          (rw c.as_slice.ensures.value at c.open_image.ensures.refused);
      faults = grind (arith, common_steps);
    }
