-- The judge's answer says in which way the move is wrong.
use Rattle.std.proofs.Common.{◌≡◌, sym, subst}
use Rattle.rv_machine.specs.Machine.{Machine}
use Rattle.cf_semantics.specs.state.Layouts.{isa_of}
use Rattle.mem_changes.specs.Differing.{AreChangesOf}
use Rattle.order_model.specs.Situations.{in_memory}
use Rattle.order_judging.specs.FirstTests.{IsMoveJudged, state_reached}
use Rattle.order_judging.specs.Places.{IsPlaceOf}
use Rattle.order_graph.specs.OrderTrial.{OrderTrial}
use Rattle.order_graph.specs.KeyGraph.{memory_loaded}
use Rattle.order_graph.proofs.EdgeFacts.{fault_told, judged_after, judged_changes}
use Rattle.order_graph.proofs.Facts.{node_memory, node_place, order_node}
use Rattle.order_graph.proofs.edges.fault_of_move.Goals as goal

pub place-place-requires : goal.place-place-requires
place-place-requires c = node_place c.args.trial.now c.args.node.now c.note_trial.ensures c.requires.node

pub judge_move-requires-clause-changes : goal.judge_move-requires-clause-changes
judge_move-requires-clause-changes c =
    subst (λ (t : OrderTrial). AreChangesOf (memory_loaded t) c.args.mem.now c.args.node.now.changes) (sym c.trial.view_is)
    (node_memory c.args.trial.now c.args.node.now c.args.mem.now c.note_trial.ensures (order_node c.args.trial.now c.args.node.now c.requires.node)
    c.requires.memory)

pub judge_move-requires-clause-after : goal.judge_move-requires-clause-after
judge_move-requires-clause-after c =
    subst (λ (t : OrderTrial). in_memory c.args.next.now.situation (state_reached t.away t.plan (in_memory c.args.node.now.situation c.args.mem.now)
    c.args.m).mem
    ≡ state_reached t.away t.plan (in_memory c.args.node.now.situation c.args.mem.now) c.args.m) (sym c.trial.view_is)
    (judged_after c.args.trial.now c.args.node.now c.args.m c.args.mem.now c.args.next.now c.note_trial.ensures
    (order_node c.args.trial.now c.args.node.now c.requires.node) c.requires.memory c.requires.next)

pub judge_move-requires-clause-after_changes : goal.judge_move-requires-clause-after_changes
judge_move-requires-clause-after_changes c =
    subst (λ (t : OrderTrial). AreChangesOf (memory_loaded t) (state_reached t.away t.plan (in_memory c.args.node.now.situation c.args.mem.now) c.args.m).mem
    c.args.next.now.changes) (sym c.trial.view_is)
    (judged_changes c.args.trial.now c.args.node.now c.args.m c.args.mem.now c.args.next.now c.note_trial.ensures
    (order_node c.args.trial.now c.args.node.now c.requires.node) c.requires.memory c.requires.next)

pub returns-clause-fault : goal.returns-clause-fault
returns-clause-fault c =
    fault_told c.args.trial.now c.args.node.now c.args.m c.args.mem.now c.place-place.result.now c.in_ok-found.found c.told.result c.requires.memory
    (node_place c.args.trial.now c.args.node.now c.note_trial.ensures c.requires.node) c.place-place.ensures.place
    (subst (λ (t : OrderTrial). (x : Machine) → IsPlaceOf (isa_of t.plan) (memory_loaded t) x c.place-place.result.now →
    IsMoveJudged t.away t.plan x (in_memory c.args.node.now.situation c.args.mem.now) c.args.m c.in_ok-found.found) c.trial.view_is
    c.in_ok-found.ensures.judged)
    c.told.ensures
