-- The memory is turned into that of the node, and back.
use Rattle.std.proofs.Common.{sym, subst}
use Rattle.mem_changes.specs.Differing.{AreChanges}
use Rattle.order_graph.specs.OrderTrial.{OrderTrial}
use Rattle.order_graph.specs.KeyGraph.{memory_loaded}
use Rattle.order_graph.proofs.Facts.{node_changes, order_node}
use Rattle.order_graph.proofs.edges.fault_there.Goals as goal

pub turn_into-requires-clause-lists : goal.turn_into-requires-clause-lists
turn_into-requires-clause-lists c = subst (λ (t : OrderTrial). AreChanges (memory_loaded t) c.args.before.now.changes) (sym c.trial.view_is)
    (node_changes c.args.trial.now c.args.before.now c.note_trial.ensures (order_node c.args.trial.now c.args.before.now c.requires.before))

pub turn_into-requires-clause-other_lists : goal.turn_into-requires-clause-other_lists
turn_into-requires-clause-other_lists c = subst (λ (t : OrderTrial). AreChanges (memory_loaded t) c.args.node.now.changes) (sym c.trial.view_is)
    (node_changes c.args.trial.now c.args.node.now c.note_trial.ensures (order_node c.args.trial.now c.args.node.now c.requires.node))

pub turn_into-requires-2-clause-lists : goal.turn_into-requires-2-clause-lists
turn_into-requires-2-clause-lists c = subst (λ (t : OrderTrial). AreChanges (memory_loaded t) c.args.node.now.changes) (sym c.trial.view_is)
    (node_changes c.args.trial.now c.args.node.now c.note_trial.ensures (order_node c.args.trial.now c.args.node.now c.requires.node))

pub turn_into-requires-2-clause-other_lists : goal.turn_into-requires-2-clause-other_lists
turn_into-requires-2-clause-other_lists c = subst (λ (t : OrderTrial). AreChanges (memory_loaded t) c.args.before.now.changes) (sym c.trial.view_is)
    (node_changes c.args.trial.now c.args.before.now c.note_trial.ensures (order_node c.args.trial.now c.args.before.now c.requires.before))
