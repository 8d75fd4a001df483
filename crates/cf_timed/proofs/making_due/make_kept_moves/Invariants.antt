use Rattle.std.proofs.Common.{length}
use Rattle.cf_timed.specs.Arrivals.{LeadsTimed, timed_at}
use Rattle.cf_timed.specs.MakingDue.{IsMakingDue}
use Rattle.cf_timed.proofs.making_due.make_kept_moves.Given as goal

-- the run has come on to here, and what is left of the kept moves is right
abbrev pub invariant-loop-mv : goal.invariant-loop-mv
invariant-loop-mv l =
    record {
      making : IsMakingDue l.limit l.pace (timed_at l.core l.clock l.tally) l.kept;
      leads : LeadsTimed l.limit l.pace (timed_at l.initial.core l.initial.clock l.initial.tally) (timed_at l.core l.clock l.tally);
    }

abbrev pub decreases-loop-mv : goal.decreases-loop-mv
decreases-loop-mv l = length l.kept.moves
