use Rattle.std.proofs.Common.{◌+◌, Err, arith}
use Rattle.std.proofs.lemmas.Grind.{common_steps}
use Rattle.cli_files.specs.Image.{most_bytes}
use Rattle.cli_files.proofs.FileFronts.{file-front}
use Rattle.cli_files.proofs.ProgramFiles.{program-refused}
use Rattle.cli_time.proofs.ProgramFound.{program-read}
use Rattle.cli_time.proofs.reading.image_at.Goals as goal

pub returns-in-Ok-open_image-clause-reads : goal.returns-in-Ok-open_image-clause-reads
returns-in-Ok-open_image-clause-reads g c = record {
  gives = program-read _ _ _ c.in-Ok.image.items
      (file-front (most_bytes + 1) _ _ _ c.in-Ok.image c.in-Ok.ensures.bytes)
      (rw c.as_slice.ensures.value at c.in-Ok-open_image.ensures.program);
  lacks = tt;
  faults = grind (arith, common_steps);
}

pub returns-in-Err-clause-reads : goal.returns-in-Err-clause-reads
returns-in-Err-clause-reads g c = record {
  gives = tt;
  lacks = program-refused _ _ _ _ (Err c.in-Err.answer)
      (file-front (most_bytes + 1) _ _ _ c.in-Ok.image c.in-Ok.ensures.bytes)
      (rw c.as_slice.ensures.value at c.in-Err.ensures.refused);
  faults = grind (arith, common_steps);
}
