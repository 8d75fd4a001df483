-- The first test that holds for the machine's place is the first for the machine.
use Rattle.order_judging.proofs.Judged.{state_judged}
use Rattle.order_judging.proofs.judging.judge_state.Goals as goal

pub returns : goal.returns
returns c = λ isa x mem h a. state_judged isa c.args.image.now x c.args.place.now c.args.s.now mem c.args.changes.now c.args.moves.now c.first_of_state.result
    c.memory.ensures.loaded h a c.first_of_state.ensures
