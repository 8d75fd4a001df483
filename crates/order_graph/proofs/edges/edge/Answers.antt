-- The edge of a move.
use Rattle.std.proofs.Common.{◌≡◌, sym, subst, ◌∙◌}
use Rattle.mem_changes.specs.Applied.{memory_after}
use Rattle.mem_changes.specs.Differing.{AreChanges}
use Rattle.order_graph.specs.OrderTrial.{OrderTrial}
use Rattle.order_graph.specs.KeyGraph.{memory_loaded}
use Rattle.order_graph.proofs.EdgeFacts.{edge_told, key_told}
use Rattle.order_graph.proofs.Facts.{node_changes, order_node}
use Rattle.order_graph.proofs.edges.edge.Goals as goal

pub turn_into-requires-clause-other_lists : goal.turn_into-requires-clause-other_lists
turn_into-requires-clause-other_lists c = subst (λ (t : OrderTrial). AreChanges (memory_loaded t) c.args.node.now.changes) (sym c.trial.view_is)
    (node_changes c.args.trial.now c.args.node.now c.note_trial.ensures (order_node c.args.trial.now c.args.node.now c.requires.node))

pub returns-clause-kept : goal.returns-clause-kept
returns-clause-kept c = c.in_ok-fault.ensures.kept
    ∙ subst (λ (t : OrderTrial). c.turn_into.new.mem ≡ memory_after c.args.node.now.changes (memory_loaded t)) c.trial.view_is c.turn_into.ensures
    ∙ sym c.requires.memory

pub returns-clause-key : goal.returns-clause-key
returns-clause-key c = key_told c.args.trial.now c.args.node.now c.step_into.new.next c.args.m c.in_ok-fault.fault c.in_ok-key.key.items c.note_trial.ensures
    c.requires.node
    c.requires.leads c.in_ok-step_into.ensures.node c.in_ok-fault.ensures.fault c.in_ok-key.ensures.key c.in_ok-key.ensures.whole

pub returns-clause-fault : goal.returns-clause-fault
returns-clause-fault c = edge_told c.args.trial.now c.args.node.now c.step_into.new.next c.args.m c.in_ok-key.key.items c.note_trial.ensures c.requires.node
    c.requires.leads c.in_ok-step_into.ensures.node c.in_ok-key.ensures.key c.in_ok-fault.fault c.in_ok-fault.ensures.fault
