-- The judge's answer says in which way the state is wrong.
use Rattle.std.proofs.Common.{subst, ◌∙◌}
use Rattle.mem_regions.specs.Memory.{Memory}
use Rattle.rv_machine.specs.Machine.{Machine}
use Rattle.cf_semantics.specs.state.Layouts.{isa_of}
use Rattle.mem_changes.specs.Differing.{AreChangesOf}
use Rattle.order_model.specs.Situations.{in_memory}
use Rattle.order_judging.specs.FirstTests.{IsStateJudged}
use Rattle.order_judging.specs.Places.{IsPlaceOf}
use Rattle.order_graph.specs.OrderTrial.{OrderTrial}
use Rattle.order_graph.specs.KeyGraph.{memory_loaded}
use Rattle.order_graph.proofs.EdgeFacts.{state_told}
use Rattle.order_graph.proofs.Facts.{node_place, order_node}
use Rattle.order_graph.proofs.Firsts.{listed}
use Rattle.order_graph.proofs.edges.fault_of.Goals as goal

pub place-requires : goal.place-requires
place-requires c = node_place c.args.trial.now c.args.node.now c.note_trial.ensures c.requires.node

pub returns : goal.returns
returns c =
    state_told c.args.trial.now c.args.node.now c.place.result.now c.as_slice.result.now c.judge_state-found.result c.told.result c.note_trial.ensures
    (order_node c.args.trial.now c.args.node.now c.requires.node) (node_place c.args.trial.now c.args.node.now c.note_trial.ensures c.requires.node)
    c.place.ensures.place
    (subst (λ (t : OrderTrial). (x : Machine) (mem : Memory) → IsPlaceOf (isa_of t.plan) (memory_loaded t) x c.place.result.now →
    AreChangesOf (memory_loaded t) mem c.args.node.now.changes → IsStateJudged x c.as_slice.result.now (in_memory c.args.node.now.situation mem)
    c.judge_state-found.result) c.trial.view_is
    (λ x mem. c.judge_state-found.ensures (isa_of c.trial.inside.layout) x mem))
    (listed c.first_move-first.result c.as_slice.result.now c.as_slice.ensures ∙ c.first_move-first.ensures) c.told.ensures
