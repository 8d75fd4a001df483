use Rattle.layout_file.proofs.Computed.{asked_computed}
use Rattle.layout_file.proofs.reading.loose_layout_in.Goals as goal

pub check_loosely-requires : goal.check_loosely-requires
check_loosely-requires c = rw c.in_ok-parts.ensures.parts (asked_computed _ _)
