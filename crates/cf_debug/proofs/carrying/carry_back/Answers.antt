use Rattle.std.proofs.Common.{refl}
use Rattle.cf_debug.proofs.Backwards.{back-all, back-failed, back-short, newest-rose, newest-still, none-rose, taken-more, taken-none}
use Rattle.cf_debug.proofs.carrying.carry_back.Goals as goal

pub loop-taken-init : goal.loop-taken-init
loop-taken-init g c = record { taken = taken-none _ _; stands = c.requires.stands; still = refl }

pub returns-in_err-take_back-clause-puts : goal.returns-in_err-take_back-clause-puts
returns-in_err-take_back-clause-puts g c = back-failed _ _ _ _ _ _ _ _ _ _ _ _ _ c.from_residual.ensures.1 c.in_err-take_back.was c.loop-taken-test.true
    c.loop-taken.invariant.taken c.take_back.ensures.puts

pub returns-in_err-take_back-clause-cause : goal.returns-in_err-take_back-clause-cause
returns-in_err-take_back-clause-cause g c = newest-rose _ _ _ _ _ _ _ _ _ _ c.in_err-take_back.was c.from_residual.ensures.1 c.take_back.ensures.puts
    c.loop-taken.invariant.still

pub returns-then-not-branch-clause-puts : goal.returns-then-not-branch-clause-puts
returns-then-not-branch-clause-puts g c = back-short _ _ _ _ _ _ _ _ _ _ _ _ c.in_ok-take_back.was c.if-not-branch.true c.loop-taken-test.true
    c.loop-taken.invariant.taken c.take_back.ensures.puts

pub returns-then-not-branch-clause-cause : goal.returns-then-not-branch-clause-cause
returns-then-not-branch-clause-cause g c = none-rose _ _ _ refl (newest-still _ _ _ _ _ _ _ _ _ c.in_ok-take_back.was c.take_back.ensures.puts
    c.loop-taken.invariant.still)

pub loop-taken-preserved : goal.loop-taken-preserved
loop-taken-preserved g c = record {
  taken = taken-more _ _ _ _ _ _ _ _ _ _ _ c.in_ok-take_back.was c.if-not-branch.false c.loop-taken.invariant.taken c.take_back.ensures.puts;
  stands = c.take_back.ensures.stands;
  still = newest-still _ _ _ _ _ _ _ _ _ c.in_ok-take_back.was c.take_back.ensures.puts c.loop-taken.invariant.still;
}

pub returns-clause-puts : goal.returns-clause-puts
returns-clause-puts g c = back-all _ _ _ _ _ _ c.loop-taken.auto.taken-end c.loop-taken-test.false c.loop-taken.invariant.taken
