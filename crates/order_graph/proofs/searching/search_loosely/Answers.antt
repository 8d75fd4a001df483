-- The search begins at the key of the start, in the memory as it was loaded.
use Rattle.order_graph.proofs.Answered.{answers_left, start_known}
use Rattle.order_graph.proofs.searching.search_loosely.Goals as goal

pub search-requires-clause-node : goal.search-requires-clause-node
search-requires-clause-node c =
    start_known c.in_ok-trial.trial c.args.away c.args.layout.now c.args.machine c.args.issues c.in_ok-start.start c.in_ok-first.first.items c.args.mem
    c.args.image
    c.in_ok-trial.ensures c.in_ok-start.ensures c.requires.loaded c.requires.again c.in_ok-first.ensures.key c.in_ok-first.ensures.whole

pub answered-requires-clause-answer : goal.answered-requires-clause-answer
answered-requires-clause-answer c = answers_left _ _ c.in_ok-start.start c.in_ok-first.first.items c.args.most c.in_ok-answer.answer
    c.in_ok-answer.ensures.graph
    c.in_ok-first.ensures.key c.in_ok-answer.ensures.answer
