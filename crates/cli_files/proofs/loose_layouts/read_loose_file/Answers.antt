use Rattle.std.proofs.Common.{◌+◌, arith}
use Rattle.std.proofs.lemmas.Grind.{common_steps}
use Rattle.layout_file.specs.Limits.{most_layout_bytes}
use Rattle.cli_files.proofs.FileFronts.{file-front}
use Rattle.cli_files.proofs.Named.{loosely-described, loosely-refused}
use Rattle.cli_files.proofs.loose_layouts.read_loose_file.Goals as goal

pub returns-in-Ok : goal.returns-in-Ok
returns-in-Ok g c =
    let front = file-front (most_layout_bytes + 1) _ _ _ c.in-Ok.file c.in-Ok.ensures.bytes in
    record {
      gives = loosely-described _ _ _ _ c.read_loosely.result front (rw c.as_slice.ensures.value at c.read_loosely.ensures.ok);
      lacks = loosely-refused _ _ _ _ c.read_loosely.result front (rw c.as_slice.ensures.value at c.read_loosely.ensures.refused);
      faults = grind (arith, common_steps);
    }
