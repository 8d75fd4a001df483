use Rattle.cf_timed.specs.Clocks.{started}
use Rattle.cf_timed.proofs.SiteTimes.{started_within}
use Rattle.cf_timed.proofs.clock.Clock.new.Goals as goal

pub invariant_of-result : goal.invariant_of-result
unfolding started
invariant_of-result c = let e = c.new.ensures in rw e (started_within c.args.layout.now (record { spans = c.args.delays; seed = c.args.seed }))
