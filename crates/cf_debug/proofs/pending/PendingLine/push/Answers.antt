use Rattle.cf_debug.proofs.Cutting.{pushed, stays-full}
use Rattle.cf_debug.proofs.pending.PendingLine.push.Goals as goal

pub returns-then-not-is_full : goal.returns-then-not-is_full
returns-then-not-is_full c = pushed _ _ _ _ _ _ c.is_full.ensures.value c.is_full.ensures.fits c.if-not-is_full.true c.self.view_is c.push.ensures.items

pub returns-else-not-is_full : goal.returns-else-not-is_full
returns-else-not-is_full c = stays-full _ _ _ _ _ c.is_full.ensures.value c.if-not-is_full.false c.self.view_is
