-- The node after the moves so far, in its memory, and their counts.
use Rattle.std.proofs.Common.{◌≡◌, take}
use Rattle.mem_changes.specs.Applied.{memory_after}
use Rattle.order_graph.specs.CountsMade.{counts_of}
use Rattle.order_graph.specs.KeyGraph.{first_node, memory_loaded, nodes_after}
use Rattle.order_graph.proofs.replaying.replay.Given as goal

abbrev pub invariant-loop-m : goal.invariant-loop-m
invariant-loop-m l = record {
  node : l.node ≡ nodes_after l.trial (first_node l.trial) (take l.m-index l.moves);
  memory : l.mem ≡ memory_after l.node.changes (memory_loaded l.trial);
  counts : l.counts ≡ counts_of l.trial (take l.m-index l.moves);
}
