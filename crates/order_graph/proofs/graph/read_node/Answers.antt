-- The key of a node of the graph is read back.
use Rattle.order_graph.proofs.Facts.{key_missing, key_right}
use Rattle.order_graph.proofs.graph.read_node.Goals as goal

pub unreachable-requires : goal.unreachable-requires
unreachable-requires c = key_missing c.args.trial.now c.args.key.now c.in_ok-is_read.is_read c.read.new.self c.note_trial.ensures c.requires
    c.in_ok-is_read.ensures.node c.if-is_read.false

pub returns-clause-right : goal.returns-clause-right
returns-clause-right c = key_right c.args.trial.now c.args.key.now c.in_ok-is_read.is_read c.read.new.self c.note_trial.ensures c.requires
    c.in_ok-is_read.ensures.node c.if-is_read.true
