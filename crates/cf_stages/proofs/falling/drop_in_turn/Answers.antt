-- Results fall in turn until none can.
use Rattle.std.proofs.Common.{◌∙◌, refl, arith}
use Rattle.std.proofs.lemmas.Bool.Decides.{nat_tests}
use Rattle.cf_stages.proofs.Kept.{few-read}
use Rattle.cf_stages.proofs.InTurn.{all-fell, falls-higher, falls-next, nearer, none-fallen, one-fallen}
use Rattle.cf_stages.proofs.falling.drop_in_turn.Goals as goal

pub loop-rest-init : goal.loop-rest-init
loop-rest-init c = record { parts = c.requires.parts; riding = refl; fallen = none-fallen _ _ _ c.requires.left c.requires.resting }

pub drop_one-words-requires-clause-falls : goal.drop_one-words-requires-clause-falls
drop_one-words-requires-clause-falls c =
    falls-next _ _ _ _ _ _ _ _ c.loop-rest.invariant.fallen c.lowest_of-stage.ensures.numbered c.lowest_of-stage.ensures.here
    c.lowest_of-stage.ensures.first

pub loop-rest-smaller : goal.loop-rest-smaller
loop-rest-smaller c =
    nearer _ _
    (falls-higher _ _ _ _ _ _ _ _ c.loop-rest.invariant.fallen c.lowest_of-stage.ensures.numbered c.lowest_of-stage.ensures.here
    c.lowest_of-stage.ensures.first) c.lowest_of-stage.ensures.within

pub loop-rest-preserved : goal.loop-rest-preserved
loop-rest-preserved c = record {
  parts = c.drop_one-words.ensures.parts;
  riding = c.drop_one-words.ensures.riding ∙ c.loop-rest.invariant.riding;
  fallen = one-fallen _ _ _ _ _ _ _ _ _ _ c.loop-rest.invariant.fallen (few-read _ _ _ _ _ c.loop-rest.invariant.parts)
      c.lowest_of-stage.ensures.numbered c.lowest_of-stage.ensures.here c.lowest_of-stage.ensures.first c.drop_one-words.ensures.cells
      c.moved_up-rest.ensures;
}

pub returns-clause-falls : goal.returns-clause-falls
returns-clause-falls c =
    all-fell _ _ _ _ _ _ _ c.loop-rest.invariant.fallen (let none = c.loop-rest-test.false in grind (arith, nat_tests))
