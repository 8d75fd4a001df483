use Rattle.std.proofs.Common.{arith}
use Rattle.cf_rounds.proofs.InOrder.{candidate_there, taken_few, taken_last, taken_next}
use Rattle.cf_rounds.proofs.choosing.take_all.Goals as goal

pub take-requires-clause-there : goal.take-requires-clause-there
take-requires-clause-there c = candidate_there _ _ _ _ _ c.layout.ensures.facts c.requires.candidates c.pick.ensures

pub take-requires-clause-few : goal.take-requires-clause-few
take-requires-clause-few c = taken_few _ _ _ _ _ c.layout.ensures.facts c.loop-place.invariant

pub loop-place-preserved : goal.loop-place-preserved
loop-place-preserved c = taken_next _ _ _ _ _ _ c.loop-place.invariant c.pick.ensures (candidate_there _ _ _ _ _ c.layout.ensures.facts c.requires.candidates
    c.pick.ensures) c.take.ensures

pub returns : goal.returns
returns c = taken_last _ _ _ _ c.loop-place.invariant (omega (arith, c.loop-place-test.false, c.len-place-end.ensures))
