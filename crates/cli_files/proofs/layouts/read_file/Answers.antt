use Rattle.std.proofs.Common.{◌+◌, arith}
use Rattle.std.proofs.lemmas.Grind.{common_steps}
use Rattle.layout_file.specs.Limits.{most_layout_bytes}
use Rattle.cli_files.proofs.FileFronts.{file-front}
use Rattle.cli_files.proofs.Named.{layout-described, layout-refused}
use Rattle.cli_files.proofs.layouts.read_file.Goals as goal

pub returns-in-Ok : goal.returns-in-Ok
returns-in-Ok g c =
    let front = file-front (most_layout_bytes + 1) _ _ _ c.in-Ok.file c.in-Ok.ensures.bytes in
    record {
      gives = layout-described _ _ _ _ c.read_content.result front (rw c.as_slice.ensures.value at c.read_content.ensures.ok);
      lacks = layout-refused _ _ _ _ c.read_content.result front (rw c.as_slice.ensures.value at c.read_content.ensures.refused);
      faults = grind (arith, common_steps);
    }
