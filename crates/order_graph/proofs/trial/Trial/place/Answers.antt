-- The machine's place of a state.
use Rattle.std.proofs.Common.{◌≡◌, ◌-◌, Some, sym, subst, arith}
use Rattle.std.specs.Prelude.{slice_get}
use Rattle.rv_machine.specs.After.{after}
use Rattle.rv_machine.specs.Machine.{Machine}
use Rattle.cf_semantics.specs.claims.Refines.{gained}
use Rattle.cf_semantics.specs.state.Layouts.{isa_of}
use Rattle.mem_changes.specs.Differing.{AreChanges}
use Rattle.order_judging.specs.Places.{IsPlaceOf}
use Rattle.order_graph.specs.OrderTrial.{OrderTrial}
use Rattle.order_graph.specs.KeyGraph.{memory_loaded}
use Rattle.order_graph.specs.TrialParts.{HasPlace}
use Rattle.order_graph.proofs.Trials.{changes_here, place_inside, place_is}
use Rattle.order_graph.proofs.trial.Trial.place.Goals as goal

pub nth-requires : goal.nth-requires
nth-requires c =
    let inside = place_inside c.self.inside.away c.self.inside.layout c.self.inside.image c.self.inside.places.items c.self.inside.moves.items
    c.self.inside.issues c.self.inside.retired c.args.s.now c.self.invariant
    (subst (λ (t : OrderTrial). HasPlace t c.args.s.now) (sym c.self.view_is) c.requires) in
    grind arith

pub returns-clause-place : goal.returns-clause-place
returns-clause-place c =
    let there : slice_get c.self.inside.places.items (c.args.s.now.retired - c.self.inside.retired) ≡ Some c.nth.result.now = cc in
    subst (λ (t : OrderTrial). (x : Machine) → after (isa_of t.plan) t.machine (gained t.machine c.args.s.now) ≡ Some x →
    IsPlaceOf (isa_of t.plan) (memory_loaded t) x c.nth.result.now) c.self.view_is
    (λ x f. place_is c.self.inside.away c.self.inside.layout c.self.inside.image c.self.inside.places.items c.self.inside.moves.items
    c.self.inside.issues c.self.inside.retired c.args.s.now c.nth.result.now x c.self.invariant there f)

pub returns-clause-changes : goal.returns-clause-changes
returns-clause-changes c =
    let there : slice_get c.self.inside.places.items (c.args.s.now.retired - c.self.inside.retired) ≡ Some c.nth.result.now = cc in
    subst (λ (t : OrderTrial). AreChanges (memory_loaded t) c.nth.result.now.changes) c.self.view_is
    (changes_here c.self.inside.layout c.self.inside.image c.self.inside.places.items c.self.inside.moves.items
    c.self.inside.issues c.self.inside.retired (c.args.s.now.retired - c.self.inside.retired) c.nth.result.now c.self.invariant there)
