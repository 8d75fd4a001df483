use Rattle.std.proofs.Common.{◌-◌, Some}
use Rattle.cf_index.specs.PickedFrom.{from_emit}
use Rattle.cf_run.specs.Policies.{most_moves}
use Rattle.cf_run.specs.Sweeps.{SweepsOn, rule_at}
use Rattle.cf_run.proofs.turning_over.sweep_rounds.Given as goal

-- turns of the rule lead here, and it picks the first move of all kinds but Issue next
abbrev pub invariant-loop-gone : goal.invariant-loop-gone
invariant-loop-gone l =
    record {
      on : SweepsOn l.limit from_emit (rule_at l.initial.core (Some l.fn.last) l.initial.pace l.initial.tally)
          (rule_at l.core (Some l.last) l.pace l.tally);
    }

abbrev pub decreases-loop-gone : goal.decreases-loop-gone
decreases-loop-gone l = most_moves l.initial.core.plan l.limit - l.tally.moves
