-- The edges of a key are those of its node.
use Rattle.std.proofs.Common.{ap, sym, subst, ◌∙◌}
use Rattle.mem_changes.specs.Differing.{AreChanges}
use Rattle.order_keys.specs.Keys.{key_of_node}
use Rattle.order_graph.specs.OrderTrial.{OrderTrial}
use Rattle.order_graph.specs.KeyGraph.{memory_loaded}
use Rattle.order_graph.proofs.EdgeFacts.{all_judged, edges_few, edges_of_key}
use Rattle.order_graph.proofs.Facts.{key_node, node_changes, order_node}
use Rattle.order_graph.proofs.graph.edges_at.Goals as goal

pub apply-requires-clause-lists : goal.apply-requires-clause-lists
apply-requires-clause-lists c = subst (λ (t : OrderTrial). AreChanges (memory_loaded t) c.read_node.new.node.changes) (sym c.trial.view_is)
    (node_changes c.args.trial.now c.read_node.new.node c.note_trial.ensures
    (order_node c.args.trial.now c.read_node.new.node c.in_ok-read_node.ensures.right))

pub edges_of-requires-clause-key : goal.edges_of-requires-clause-key
edges_of-requires-clause-key c = c.requires.key.is
    ∙ ap key_of_node (sym (c.in_ok-read_node.ensures.node ∙ key_node c.args.trial.now c.args.key.now c.note_trial.ensures c.requires.key))

pub take_back-requires-clause-lists : goal.take_back-requires-clause-lists
take_back-requires-clause-lists c = subst (λ (t : OrderTrial). AreChanges (memory_loaded t) c.read_node.new.node.changes) (sym c.trial.view_is)
    (node_changes c.args.trial.now c.read_node.new.node c.note_trial.ensures
    (order_node c.args.trial.now c.read_node.new.node c.in_ok-read_node.ensures.right))

pub returns-clause-edges : goal.returns-clause-edges
returns-clause-edges c = edges_of_key c.args.trial.now c.args.key.now c.read_node.new.node c.in_ok-edges.edges.items c.in_ok-read_node.ensures.node
    c.in_ok-edges.ensures.edges

pub returns-clause-few : goal.returns-clause-few
returns-clause-few c = edges_few c.args.trial.now c.read_node.new.node c.in_ok-edges.edges.items c.note_trial.ensures.fits c.in_ok-edges.ensures.edges

pub returns-clause-faults : goal.returns-clause-faults
returns-clause-faults c = all_judged c.args.trial.now c.args.key.now c.read_node.new.node c.in_ok-edges.edges.items c.note_trial.ensures c.requires.key
    c.in_ok-read_node.ensures.node c.in_ok-edges.ensures.faults
