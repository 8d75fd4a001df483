-- One move after another leads on, and is counted.
use Rattle.std.proofs.Common.{rules, sym, subst}
use Rattle.order_graph.specs.KeyGraph.{IsOrderNode}
use Rattle.order_graph.proofs.Counted.{counted_none, counted_step, counts_room}
use Rattle.order_graph.proofs.Wrongs.{leads_at_step, memory_start, node_at_step, node_start, node_step}
use Rattle.order_graph.proofs.replaying.replay.Goals as goal

pub loop-m-init : goal.loop-m-init
loop-m-init c = record {
  node = node_start c.args.trial.now c.args.start c.requires.start;
  memory = memory_start c.args.trial.now c.args.start c.args.mem.now c.note_trial.ensures c.requires.start c.requires.memory;
  counts = counted_none c.args.trial.now c.none-counts.result c.none-counts.ensures;
}

pub step-requires-clause-node : goal.step-requires-clause-node
step-requires-clause-node c = subst (IsOrderNode c.args.trial.now) (sym c.loop-m.invariant.node)
    (node_at_step c.args.trial.now c.args.moves.now c.loop-m.m-index c.requires.allowed c.loop-m-test.true)

pub step-requires-clause-leads : goal.step-requires-clause-leads
step-requires-clause-leads c = leads_at_step c.args.trial.now c.loop-m.node c.args.moves.now c.loop-m.m-index _ c.note_trial.ensures c.loop-m.invariant.node
    c.requires.allowed c.loop-m-test.true

pub with-counts-requires-clause-few : goal.with-counts-requires-clause-few
with-counts-requires-clause-few c = counts_room c.args.trial.now c.args.moves.now c.loop-m.m-index c.loop-m.counts c.loop-m.invariant.counts (search rules)

pub loop-m-preserved : goal.loop-m-preserved
loop-m-preserved c = record {
  node = node_step c.args.trial.now c.loop-m.node c.in_ok-next.next c.args.moves.now c.loop-m.m-index _ c.loop-m.invariant.node c.loop-m-test.true
      c.in_ok-next.ensures.node;
  memory = c.in_ok-next.ensures.memory.makes;
  counts = counted_step c.args.trial.now c.loop-m.node c.args.moves.now c.loop-m.m-index _ c.loop-m.counts c.with-counts.result c.note_trial.ensures
      c.loop-m.invariant.node c.loop-m.invariant.counts c.loop-m-test.true c.with-counts.ensures;
}
