use Rattle.std.proofs.Common.{ℕ, ◌-◌, Some}
use Rattle.cf_index.specs.Left.{AreLeft}
use Rattle.cf_index.specs.PickedFrom.{left_then}
use Rattle.cf_run.specs.Policies.{most_moves}
use Rattle.cf_run.specs.Sweeps.{IsSweeping, PicksFrom, SweepsTo, rule_at, silent}
use Rattle.cf_run.proofs.sweep.sweep_kind.Given as goal

-- turns of the rule lead here, its next pick is the first of what is left of the kind and of the kinds after it, and the word has the stages
-- above some stage at which the kind is allowed
abbrev pub invariant-loop-stage : goal.invariant-loop-stage
invariant-loop-stage g l =
    record {
      swept : SweepsTo l.limit silent (rule_at l.initial.core (Some l.fn.last) l.pace l.initial.tally) (rule_at l.core (Some l.last) l.pace l.tally);
      ready : IsSweeping l.limit (rule_at l.core (Some l.last) l.pace l.tally);
      picked : PicksFrom l.pace l.core (Some l.last) (left_then g.T.StageKind.at_stage l.left g.T.StageKind.beyond);
      above : ℕ;
      stages : AreLeft l.core.plan l.core.state above g.T.StageKind.at_stage l.left;
    }

abbrev pub decreases-loop-stage : goal.decreases-loop-stage
decreases-loop-stage g l = most_moves l.initial.core.plan l.limit - l.tally.moves
