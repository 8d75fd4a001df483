-- The node at the start.
use Rattle.order_graph.proofs.Answered.{first_stated}
use Rattle.order_graph.proofs.searching.first_of.Goals as goal

pub returns : goal.returns
returns c = first_stated c.args.layout.now c.args.machine.now c.args.image.now c.in_ok-situation.situation c.none.result c.memory.ensures.loaded c.requires
    c.in_ok-situation.ensures c.note_bare.ensures c.none.ensures
