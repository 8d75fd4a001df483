use Rattle.cf_timed.proofs.SiteTimes.{drawn_within}
use Rattle.cf_timed.proofs.clock.Clock.draw.Goals as goal

pub invariant_of-self : goal.invariant_of-self
invariant_of-self c = let e = c.take_word.ensures in rw e (drawn_within _ c.args.mv c.self.invariant)
