use Rattle.std.proofs.Common.{arith}
use Rattle.cf_timed.specs.Arrivals.{timed_at}
use Rattle.cf_timed.proofs.MakingDue.{first_past}
use Rattle.cf_timed.proofs.making_due.make_first.Goals as goal

pub returns-else-reach_kept-time-clause-made : goal.returns-else-reach_kept-time-clause-made
returns-else-reach_kept-time-clause-made c = λ late.
    first_past _ _ (timed_at c.args.core.now c.args.clock.now c.args.tally.now) _ _ c.requires.making c.requires.first
    (omega (arith, c.reach_kept.ensures, c.time.ensures, c.if-reach_kept-time.false))
