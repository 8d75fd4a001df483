use Rattle.std.proofs.Common.{List, None, subst}
use Rattle.cf_semantics.specs.moves.Kept.{Kept}
use Rattle.cf_debug.specs.Standing.{StandsAfterMoves}
use Rattle.cf_debug.proofs.Backwards.{back-stands, newest-failed, newest-put, none-failed, none-put, none-stands, takes-newest}
use Rattle.cf_debug.proofs.Standing.{stands-after}
use Rattle.cf_debug.proofs.carrying.take_back.Goals as goal

pub back-requires : goal.back-requires
back-requires g c = stands-after c.requires.stands.0 _ _ _ None None
    (subst (λ (ring : List Kept). StandsAfterMoves c.requires.stands.0 c.args.core.now ring None None) c.in-Some.ensures c.requires.stands.1)

pub returns-in_err-put_back-in-Some-clause-puts : goal.returns-in_err-put_back-in-Some-clause-puts
returns-in_err-put_back-in-Some-clause-puts g c = newest-failed _ _ _ _ _ _ _ _ _ _ c.in_err-put_back-in-Some.was c.from_residual.ensures.1
    (takes-newest _ _ _ _ _ _ c.in-Some.ensures c.back.ensures c.moved.ensures) c.put_back.ensures

pub returns-in_err-put_back-in-Some-clause-stands : goal.returns-in_err-put_back-in-Some-clause-stands
returns-in_err-put_back-in-Some-clause-stands g c = back-stands _ _ _ _ _ c.requires.stands c.in-Some.ensures c.back.ensures

pub returns-in_ok-put_back-in-Some-clause-puts : goal.returns-in_ok-put_back-in-Some-clause-puts
returns-in_ok-put_back-in-Some-clause-puts g c = newest-put _ _ _ _ _ _ _ _ _ c.in_ok-put_back-in-Some.was
    (takes-newest _ _ _ _ _ _ c.in-Some.ensures c.back.ensures c.moved.ensures) c.put_back.ensures

pub returns-in_ok-put_back-in-Some-clause-stands : goal.returns-in_ok-put_back-in-Some-clause-stands
returns-in_ok-put_back-in-Some-clause-stands g c = back-stands _ _ _ _ _ c.requires.stands c.in-Some.ensures c.back.ensures

pub returns-in_err-refuse-in-None-clause-puts : goal.returns-in_err-refuse-in-None-clause-puts
returns-in_err-refuse-in-None-clause-puts g c = none-failed _ _ _ _ _ _ _ _ _ _ c.in_err-refuse-in-None.was c.from_residual-in_err-refuse-in-None.ensures.1
    c.in-None.ensures.0 c.in-None.ensures.1 c.refuse.ensures

pub returns-in_err-refuse-in-None-clause-stands : goal.returns-in_err-refuse-in-None-clause-stands
returns-in_err-refuse-in-None-clause-stands g c = none-stands _ _ _ c.requires.stands c.in-None.ensures.0 c.in-None.ensures.1

pub returns-in_ok-refuse-in-None-clause-puts : goal.returns-in_ok-refuse-in-None-clause-puts
returns-in_ok-refuse-in-None-clause-puts g c = none-put _ _ _ _ _ _ _ _ _ c.in_ok-refuse-in-None.was c.in-None.ensures.0 c.in-None.ensures.1 c.refuse.ensures

pub returns-in_ok-refuse-in-None-clause-stands : goal.returns-in_ok-refuse-in-None-clause-stands
returns-in_ok-refuse-in-None-clause-stands g c = none-stands _ _ _ c.requires.stands c.in-None.ensures.0 c.in-None.ensures.1
