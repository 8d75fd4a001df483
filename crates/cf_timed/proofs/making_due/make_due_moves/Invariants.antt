use Rattle.std.proofs.Common.{◌-◌}
use Rattle.cf_run.specs.Policies.{most_moves}
use Rattle.cf_timed.specs.Arrivals.{LeadsTimed, timed_at}
use Rattle.cf_timed.specs.MakingDue.{KeepsDue}
use Rattle.cf_timed.proofs.making_due.make_due_moves.Given as goal

-- the run has come on to here, and its kept moves are right
abbrev pub invariant-loop-clock : goal.invariant-loop-clock
invariant-loop-clock l =
    record {
      keeps : KeepsDue l.limit l.pace (timed_at l.core l.clock l.tally) l.kept;
      leads : LeadsTimed l.limit l.pace (timed_at l.initial.core l.initial.clock l.initial.tally) (timed_at l.core l.clock l.tally);
    }

abbrev pub decreases-loop-clock : goal.decreases-loop-clock
decreases-loop-clock l = most_moves l.initial.core.plan l.limit - l.tally.moves
