use Rattle.std.proofs.Common.{None, refl, sym, ap, subst, ◌∙◌, inr}
use Rattle.cf_layout.specs.Accepted.{IsAccepted}
use Rattle.cf_layout.specs.Layout.{Plan}
use Rattle.cf_debug.proofs.InTurn.{comes-first, comes-more, drives-break, drives-broken, drives-enough, drives-over, steers-plan, steers-stands}
use Rattle.cf_debug.proofs.Standing.{stands-offered}
use Rattle.cf_debug.proofs.driving.drive.Goals as goal

pub loop-made-init : goal.loop-made-init
loop-made-init g c = record {
  comes = comes-first _ _ _ _ _ _ c.new-round.ensures c.new-pace.ensures.2 (c.stages.ensures.stages
      ∙ ap (λ (plan : Plan). plan.stages) c.layout.ensures.layout);
  rule = c.new-pace.ensures.0;
  stages = c.new-pace.ensures.1 ∙ c.stages.ensures.stages ∙ ap (λ (plan : Plan). plan.stages) c.layout.ensures.layout;
  accepted = c.known.ensures.accepted;
  stands = c.requires.stands;
  output = refl;
  report = refl;
}

pub returns-then-not-goes_on-clause-drives : goal.returns-then-not-goes_on-clause-drives
returns-then-not-goes_on-clause-drives g c = drives-over _ _ _ _ _ _ _ _ c.loop-made.auto.made-end c.loop-made.invariant.comes
    (inr (c.goes_on.ensures.no c.if-not-goes_on.true))

pub advance-requires-clause-some : goal.advance-requires-clause-some
advance-requires-clause-some g c = stands-offered c.loop-made.invariant.stands.0 _ _ None None _ c.loop-made.invariant.stands.1 c.loop-made.invariant.accepted
    (c.goes_on.ensures.yes c.if-not-goes_on.false).unended

pub returns-in-Ok-true-clause-drives : goal.returns-in-Ok-true-clause-drives
returns-in-Ok-true-clause-drives g c = drives-break _ _ _ _ _ _ _ _ _ _ _ _ c.in-Ok-true.field-0-test c.loop-made-test.true c.loop-made.invariant.comes
    c.in-Ok-true.ensures.steers

pub returns-in-Err-clause-drives : goal.returns-in-Err-clause-drives
returns-in-Err-clause-drives g c = drives-broken _ _ _ _ _ _ _ _ _ _ _ _ c.loop-made-test.true c.loop-made.invariant.comes c.in-Err.ensures.steers

pub loop-made-preserved : goal.loop-made-preserved
loop-made-preserved g c =
    let same = steers-plan _ _ _ _ _ _ _ _ c.in-Ok-false.ensures.steers in
    record {
      comes = comes-more _ _ _ _ _ _ _ _ _ _ _ c.in-Ok-false.field-0-test c.loop-made.invariant.comes c.in-Ok-false.ensures.steers;
      rule = c.in-Ok-false.ensures.rule ∙ c.loop-made.invariant.rule;
      stages = c.in-Ok-false.ensures.stages ∙ c.loop-made.invariant.stages ∙ ap (λ (plan : Plan). plan.stages) (sym same);
      accepted = subst IsAccepted (sym same) c.loop-made.invariant.accepted;
      stands = steers-stands _ _ _ _ _ _ _ _ c.loop-made.invariant.stands c.in-Ok-false.ensures.steers;
      output = c.in-Ok-false.ensures.output.still ∙ c.loop-made.invariant.output;
      report = c.in-Ok-false.ensures.report.still ∙ c.loop-made.invariant.report;
    }

pub returns-clause-drives : goal.returns-clause-drives
returns-clause-drives g c = drives-enough _ _ _ _ _ _ _ _ c.loop-made.auto.made-end c.loop-made-test.false c.loop-made.invariant.comes
