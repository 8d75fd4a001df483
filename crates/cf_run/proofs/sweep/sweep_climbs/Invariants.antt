use Rattle.std.proofs.Common.{ℕ, ◌-◌, Some}
use Rattle.cf_bind.specs.declared.moves.Move.TheVariants.{Climb}
use Rattle.cf_index.specs.Left.{AreLeft}
use Rattle.cf_index.specs.PickedFrom.{from_fall, left_then}
use Rattle.cf_run.specs.Policies.{most_moves}
use Rattle.cf_run.specs.Sweeps.{IsSweeping, PicksFrom, SweepsTo, rule_at, silent}
use Rattle.cf_run.proofs.sweep.sweep_climbs.Given as goal

-- turns of the rule lead here, its next pick is the first Climb that is left, or the first move of the kinds after Climb, and the word has the
-- stages above some stage at which a Climb is allowed
abbrev pub invariant-loop-stage : goal.invariant-loop-stage
invariant-loop-stage l =
    record {
      swept : SweepsTo l.limit silent (rule_at l.initial.core (Some l.fn.last) l.pace l.initial.tally) (rule_at l.core (Some l.last) l.pace l.tally);
      ready : IsSweeping l.limit (rule_at l.core (Some l.last) l.pace l.tally);
      picked : PicksFrom l.pace l.core (Some l.last) (left_then Climb l.left from_fall);
      above : ℕ;
      stages : AreLeft l.core.plan l.core.state above Climb l.left;
    }

abbrev pub decreases-loop-stage : goal.decreases-loop-stage
decreases-loop-stage l = most_moves l.initial.core.plan l.limit - l.tally.moves
