use Rattle.std.proofs.Common.{refl, ap}
use Rattle.circular_buffer.specs.Buffer.{Buffer}
use Rattle.cf_core.specs.declared.undo.Undo.{Undo}
use Rattle.cf_debug.proofs.Kept.{popped}
use Rattle.cf_debug.proofs.ring.Ring.pop.Goals as goal

pub returns : goal.returns
returns c = popped _ _ _ _ _ c.pop_back.ensures.value (ap (λ (b : Buffer Undo). b.items) c.pop_back.ensures.items) c.self.view_is refl
