use Rattle.std.proofs.Common.{◌≡◌, ◌-◌}
use Rattle.cf_sched.specs.Paces.{holds_issue}
use Rattle.cf_run.specs.Policies.{most_moves}
use Rattle.cf_run.specs.Sweeps.{DrawsTo, IsDrawing, policy_at, silent}
use Rattle.cf_run.proofs.drawing.draw_moves.Given as goal

-- turns of the run lead here, and it goes on; the number of stages, the guess rule and whether Issue is held back are what they were
abbrev pub invariant-loop-rule : goal.invariant-loop-rule
invariant-loop-rule l =
    record {
      draws : DrawsTo l.limit silent (policy_at l.initial.core l.initial.drawn l.initial.pace l.initial.tally) (policy_at l.core l.drawn l.pace l.tally);
      ready : IsDrawing l.limit (policy_at l.core l.drawn l.pace l.tally);
      stages : l.stages ≡ l.core.plan.stages;
      rule : l.rule ≡ l.pace.rule;
      held : l.held ≡ holds_issue l.pace;
    }

abbrev pub decreases-loop-rule : goal.decreases-loop-rule
decreases-loop-rule l = most_moves l.initial.core.plan l.limit - l.tally.moves
