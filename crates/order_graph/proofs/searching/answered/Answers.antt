-- The three answers of the search.
use Rattle.std.proofs.Common.{subst}
use Rattle.order_keys.specs.Keys.{key_of_node}
use Rattle.order_search.specs.SearchAnswers.{AnswersOf}
use Rattle.order_graph.specs.KeyGraph.{IsNodeIn, IsWrongEdge, IsWrongNode, edges_from}
use Rattle.order_graph.proofs.Answered.{found_counted, found_first, found_more}
use Rattle.order_graph.proofs.Shown.{found_shown}
use Rattle.order_graph.proofs.searching.answered.Goals as goal

pub wrong_order-requires-clause-wrong : goal.wrong_order-requires-clause-wrong
wrong_order-requires-clause-wrong c =
    found_first c.args.graph.trial c.args.most c.args.start c.in-Found.labels.items c.in-Found.fault c.note_trial.ensures c.requires.start
    (subst (AnswersOf (IsNodeIn c.args.graph.trial c.args.graph.mem) (edges_from c.args.graph.trial) (IsWrongEdge c.args.graph.trial)
    (IsWrongNode c.args.graph.trial) (key_of_node c.args.start) c.args.most) c.in-Found.is c.requires.answer)

pub returns-in_ok-wrong-in-Found : goal.returns-in_ok-wrong-in-Found
returns-in_ok-wrong-in-Found c =
    found_shown c.args.graph.trial c.args.most c.in-Found.labels.items c.in_ok-wrong-in-Found.wrong.moves.items c.in-Found.fault
    c.in_ok-wrong-in-Found.wrong.kind c.in_ok-wrong-in-Found.wrong.reached c.in_ok-wrong-in-Found.wrong.counts c.in_ok-wrong-in-Found.wrong.seen
    c.in_ok-wrong-in-Found.wrong.wanted
    (found_first c.args.graph.trial c.args.most c.args.start c.in-Found.labels.items c.in-Found.fault c.note_trial.ensures c.requires.start
    (subst (AnswersOf (IsNodeIn c.args.graph.trial c.args.graph.mem) (edges_from c.args.graph.trial) (IsWrongEdge c.args.graph.trial)
    (IsWrongNode c.args.graph.trial) (key_of_node c.args.start) c.args.most) c.in-Found.is c.requires.answer))
    c.in_ok-wrong-in-Found.ensures.moves c.in_ok-wrong-in-Found.ensures.kind c.in_ok-wrong-in-Found.ensures.shows

pub returns-in-Counted : goal.returns-in-Counted
returns-in-Counted c =
    found_counted c.args.graph.trial c.args.graph.mem c.args.most c.args.start c.in-Counted.reached c.note_trial.ensures c.requires.memory c.requires.start
    (subst (AnswersOf (IsNodeIn c.args.graph.trial c.args.graph.mem) (edges_from c.args.graph.trial) (IsWrongEdge c.args.graph.trial)
    (IsWrongNode c.args.graph.trial) (key_of_node c.args.start) c.args.most) c.in-Counted.is c.requires.answer)

pub returns-in-TooMany : goal.returns-in-TooMany
returns-in-TooMany c =
    found_more c.args.graph.trial c.args.most c.args.start c.note_trial.ensures c.requires.start
    (subst (AnswersOf (IsNodeIn c.args.graph.trial c.args.graph.mem) (edges_from c.args.graph.trial) (IsWrongEdge c.args.graph.trial)
    (IsWrongNode c.args.graph.trial) (key_of_node c.args.start) c.args.most) c.in-TooMany.is c.requires.answer)
