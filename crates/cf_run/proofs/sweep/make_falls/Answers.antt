use Rattle.std.proofs.Common.{arith}
use Rattle.cf_index.proofs.FallsInTurn.{some-falls}
use Rattle.cf_run.proofs.Falling.{falls-onward}
use Rattle.cf_run.proofs.Turning.{goes_on_so}
use Rattle.cf_run.proofs.sweep.make_falls.Goals as goal

pub fall_on-fallen-requires-clause-left : goal.fall_on-fallen-requires-clause-left
fall_on-fallen-requires-clause-left c =
    some-falls c.args.core.now.plan c.args.core.now.state 0 _ (goes_on_so _ _ c.requires.from.ready) c.layout-layout.ensures.facts.stages c.requires.left

pub overflow_add-tally : goal.overflow_add-tally
overflow_add-tally c =
    let counts = (falls-onward _ _ _ _ _ _ _ _ _ c.requires.from.ready c.requires.from.picked c.layout-layout.ensures.facts.stages c.requires.left
    c.fall_on-fallen.ensures c.ranges.left.fits c.requires.some).counts in
    omega (arith, counts)

pub returns : goal.returns
returns c =
    let falls = falls-onward _ _ _ _ _ _ _ _ _ c.requires.from.ready c.requires.from.picked c.layout-layout.ensures.facts.stages c.requires.left
    c.fall_on-fallen.ensures c.ranges.left.fits c.requires.some in
    record { on = record { swept = falls.swept; from = record { ready = falls.ready; picked = falls.picked } } }
