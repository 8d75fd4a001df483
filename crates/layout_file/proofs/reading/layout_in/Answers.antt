use Rattle.layout_file.proofs.Computed.{asked_computed}
use Rattle.layout_file.proofs.reading.layout_in.Goals as goal

pub check-requires : goal.check-requires
check-requires c = rw c.in_ok-parts.ensures.parts (asked_computed _ _)
