-- None of the moves before the last is wrong, so the machine has its place there.
use Rattle.std.proofs.Common.{◌≡◌, ◌-◌, Some, None, arith, take, sym, subst}
use Rattle.cf_semantics.specs.runs.Lines.{line_of}
use Rattle.cf_semantics.specs.state.Options.{on}
use Rattle.order_model.specs.RuleMoves.{retires_without}
use Rattle.order_graph.specs.OrderTrial.{OrderTrial, IsTrialOrder}
use Rattle.order_graph.proofs.Counted.{counts_room}
use Rattle.order_graph.proofs.Facts.{node_place, order_node}
use Rattle.order_graph.proofs.Shown.{before_leads, before_right, ends_here, last_inside, shown, some_count}
use Rattle.order_graph.proofs.replaying.wrong_order.Goals as goal

pub overflow_sub-count : goal.overflow_sub-count
overflow_sub-count c = some_count c.args.graph.trial c.args.bound c.args.moves.items c.args.kind c.args.moves.len c.len-count.result c.requires.wrong
    c.args.moves.ok.0 c.len-count.ensures

pub index-last-requires : goal.index-last-requires
index-last-requires c = last_inside c.args.graph.trial c.args.bound c.args.moves.items c.args.kind c.args.moves.len c.len-count.result c.requires.wrong
    c.args.moves.ok.0 c.len-count.ensures

pub replay-requires-clause-allowed : goal.replay-requires-clause-allowed
replay-requires-clause-allowed c =
    let ends = ends_here c.args.graph.trial c.args.bound c.args.moves.items c.args.kind c.args.moves.len c.len-count.result c.requires.wrong
    c.args.moves.ok.0 c.len-count.ensures c.index-last.result.now c.note_trial.ensures c.index-last.ensures in
    subst (λ l. IsTrialOrder c.args.graph.trial (take (c.len-count.result - 1) l)) (sym c.deref.ensures.value) ends.allowed

pub place-requires : goal.place-requires
place-requires c =
    let ends = ends_here c.args.graph.trial c.args.bound c.args.moves.items c.args.kind c.args.moves.len c.len-count.result c.requires.wrong
    c.args.moves.ok.0 c.len-count.ensures c.index-last.result.now c.note_trial.ensures c.index-last.ensures in
    node_place c.args.graph.trial c.in_ok-before.before.node c.note_trial.ensures
    (before_right c.args.graph.trial c.in_ok-before.before.node c.deref.result.now c.args.moves.items (c.len-count.result - 1) c.index-last.result.now ends
    c.deref.ensures.value c.in_ok-before.ensures.node)

pub step-requires-clause-node : goal.step-requires-clause-node
step-requires-clause-node c =
    let ends = ends_here c.args.graph.trial c.args.bound c.args.moves.items c.args.kind c.args.moves.len c.len-count.result c.requires.wrong
    c.args.moves.ok.0 c.len-count.ensures c.index-last.result.now c.note_trial.ensures c.index-last.ensures in
    order_node c.args.graph.trial c.in_ok-before.before.node
    (before_right c.args.graph.trial c.in_ok-before.before.node c.deref.result.now c.args.moves.items (c.len-count.result - 1) c.index-last.result.now ends
    c.deref.ensures.value c.in_ok-before.ensures.node)

pub step-requires-clause-leads : goal.step-requires-clause-leads
step-requires-clause-leads c =
    let ends = ends_here c.args.graph.trial c.args.bound c.args.moves.items c.args.kind c.args.moves.len c.len-count.result c.requires.wrong
    c.args.moves.ok.0 c.len-count.ensures c.index-last.result.now c.note_trial.ensures c.index-last.ensures in
    before_leads c.args.graph.trial c.in_ok-before.before.node c.deref.result.now c.args.moves.items (c.len-count.result - 1) c.index-last.result.now ends
    c.deref.ensures.value c.in_ok-before.ensures.node

pub with-counts-requires-clause-few : goal.with-counts-requires-clause-few
with-counts-requires-clause-few c = counts_room c.args.graph.trial c.deref.result.now (c.len-count.result - 1)
    c.in_ok-before.before.counts c.in_ok-before.ensures.counts
    (omega (arith, c.args.moves.small, c.args.moves.ok.0, c.len-count.ensures))

pub returns-clause-shows : goal.returns-clause-shows
returns-clause-shows c =
    let ends = ends_here c.args.graph.trial c.args.bound c.args.moves.items c.args.kind c.args.moves.len c.len-count.result c.requires.wrong
    c.args.moves.ok.0 c.len-count.ensures c.index-last.result.now c.note_trial.ensures c.index-last.ensures in
    shown c.args.graph.trial c.args.moves.items c.deref.result.now (c.len-count.result - 1) c.index-last.result.now c.in_ok-before.before.node
    c.in_ok-after.after c.in_ok-before.before.counts c.with-counts.result
    c.retiring-seen.result c.next_line-wanted.result c.place.result.now c.note_trial.ensures ends c.deref.ensures.value c.in_ok-before.ensures.node
    c.in_ok-after.ensures.node c.in_ok-before.ensures.counts
    c.with-counts.ensures
    (subst (λ (t : OrderTrial). on c.retiring-seen.result None (λ p. Some (line_of p))
    ≡ retires_without t.away t.plan c.in_ok-before.before.node.situation c.index-last.result.now) c.trial.view_is c.retiring-seen.ensures)
    c.next_line-wanted.ensures c.place.ensures.place
