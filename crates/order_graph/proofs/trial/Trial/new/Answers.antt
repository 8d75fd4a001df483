-- The parts of a new trial.
use Rattle.std.proofs.Common.{◌≡◌, ◌+◌, ◌⊎◌, ℕ, length, subst}
use Rattle.std.specs.Prelude.{IsTrue}
use Rattle.rv_inst.specs.declared.isa.Isa.{Isa}
use Rattle.order_machine.specs.Waypoints.{AreWaypoints, ends_at_last, machine_of}
use Rattle.order_graph.proofs.Trials.{new_parts, new_terms}
use Rattle.order_graph.proofs.trial.Trial.new.Goals as goal

pub invariant_of-result : goal.invariant_of-result
invariant_of-result c = new_parts c.args.layout.now c.args.image c.args.machine c.in_ok-places.places.items c.in_ok-moves.moves.items c.args.issues
    c.retired-retired.result
    c.memory.ensures.loaded
    (subst (λ (i : Isa). AreWaypoints i c.args.image (machine_of c.args.machine) 0 c.in_ok-places.places.items) c.isa_of.ensures c.in_ok-places.ensures.places)
    (subst (λ (n : ℕ). (length c.in_ok-places.places.items ≡ n + 1) ⊎ IsTrue (ends_at_last c.in_ok-places.places.items)) c.from.ensures
    c.in_ok-places.ensures.enough)
    c.requires.loaded c.retired-retired.ensures c.in_ok-moves.ensures c.stages.ensures.equipped c.requires.few c.requires.room

pub returns : goal.returns
returns c = new_terms c.args.away c.args.layout.now c.args.image c.args.machine c.in_ok-places.places.items c.args.issues c.retired-retired.result
    (subst (λ (i : Isa). AreWaypoints i c.args.image (machine_of c.args.machine) 0 c.in_ok-places.places.items) c.isa_of.ensures c.in_ok-places.ensures.places)
    (subst (λ (n : ℕ). (length c.in_ok-places.places.items ≡ n + 1) ⊎ IsTrue (ends_at_last c.in_ok-places.places.items)) c.from.ensures
    c.in_ok-places.ensures.enough)
    c.requires.loaded c.retired-retired.ensures
