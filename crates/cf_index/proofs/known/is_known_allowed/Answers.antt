use Rattle.cf_bind.specs.declared.moves.Move.TheVariants.{Climb, Fall, Meet, Execute, Send, Launch}
use Rattle.cf_index.specs.Allowed.{passing_of}
use Rattle.cf_index.proofs.KnownMoves.{known-at}
use Rattle.cf_index.proofs.known.is_known_allowed.Goals as goal

pub returns-in-Climb : goal.returns-in-Climb
unfolding passing_of
returns-in-Climb c = λ set.
    let stage = c.has_stage in
    rw c.in-Climb.is (known-at c.args.core.now.plan c.args.core.now.state Climb c.climbs.result c.in-Climb.i c.climbs.ensures
    (stage.ensures.above set) (stage.ensures.set set))

pub returns-in-Fall : goal.returns-in-Fall
unfolding passing_of
returns-in-Fall c = λ set.
    let stage = c.has_stage-in-Fall in
    rw c.in-Fall.is (known-at c.args.core.now.plan c.args.core.now.state Fall c.falls.result c.in-Fall.i c.falls.ensures
    (stage.ensures.above set) (stage.ensures.set set))

pub returns-in-Meet : goal.returns-in-Meet
unfolding passing_of
returns-in-Meet c = λ set.
    let stage = c.has_stage-in-Meet in
    rw c.in-Meet.is (known-at c.args.core.now.plan c.args.core.now.state Meet c.meets.result c.in-Meet.i c.meets.ensures
    (stage.ensures.above set) (stage.ensures.set set))

pub returns-in-Execute : goal.returns-in-Execute
unfolding passing_of
returns-in-Execute c = λ set.
    let stage = c.has_stage-in-Execute in
    rw c.in-Execute.is (known-at c.args.core.now.plan c.args.core.now.state Execute c.executes.result c.in-Execute.i c.executes.ensures
    (stage.ensures.above set) (stage.ensures.set set))

pub returns-in-Send : goal.returns-in-Send
unfolding passing_of
returns-in-Send c = λ set.
    let stage = c.has_stage-in-Send in
    rw c.in-Send.is (known-at c.args.core.now.plan c.args.core.now.state Send c.sends.result c.in-Send.i c.sends.ensures
    (stage.ensures.above set) (stage.ensures.set set))

pub returns-in-Launch : goal.returns-in-Launch
unfolding passing_of
returns-in-Launch c = λ set.
    let stage = c.has_stage-in-Launch in
    rw c.in-Launch.is (known-at c.args.core.now.plan c.args.core.now.state Launch c.launches.result c.in-Launch.i c.launches.ensures
    (stage.ensures.above set) (stage.ensures.set set))
