-- The regions' bounds and flags are the same in all machines of a walk, and in the core's memory.
use Rattle.mem_regions.specs.Memory.{Memory}
use Rattle.std.proofs.Common.{◌≡◌, ℕ, List, [], ◌∷◌, Bool, true, false, refl, sym, ap, ◌∙◌, arith}
use Rattle.std.specs.Prelude.{if◌then◌else◌}
use Rattle.cf_layout.specs.Layout.{Plan}
use Rattle.theory_refinement.proofs.instructions.Steps.{step_bounds}
use Rattle.theory_refinement.proofs.invariant.Invariant.{Sound}
use Rattle.cf_semantics.specs.state.Column.{Down, Item, Up, column}
use Rattle.cf_semantics.specs.moves.Instructions.{after_step, step_at}
use Rattle.cf_semantics.specs.state.Layouts.{isa_of}
use Rattle.cf_semantics.specs.state.State.{State}
use Rattle.cf_semantics.specs.claims.Walks.{walk}
use Rattle.mem_regions.specs.Access.{Bounds, bounds_of}
use Rattle.rv_inst.specs.declared.isa.Isa.{Isa}
use Rattle.rv_machine.specs.Machine.{Machine}
use Rattle.cf_semantics.specs.claims.Ahead as ahead
use Rattle.theory_refinement.proofs.invariant.Port as dock
use Rattle.cf_semantics.specs.claims.Path as trail
use Rattle.theory_refinement.proofs.walks.Order.{past_path}

past_path_bounds : (isa : Isa) (i : Item) (w : trail.Walk) → bounds_of (trail.past isa i w).machine.hart.mem ≡ bounds_of w.machine.hart.mem
unfolding trail.past
past_path_bounds isa i w = grind (arith, step_bounds)

pub path_bounds : (isa : Isa) (xs : List Item) (w : trail.Walk) → bounds_of (walk (trail.past isa) xs w).machine.hart.mem ≡ bounds_of w.machine.hart.mem
path_bounds isa [] w = refl
path_bounds isa (i ∷ xs) w = path_bounds isa xs (trail.past isa i w) ∙ past_path_bounds isa i w

either : (b : Bool) (y m : Memory) (n : List Bounds) → bounds_of y ≡ n → bounds_of m ≡ n → bounds_of (if b then y else m) ≡ n
either true y m n e f = e
either false y m n e f = f

past_port_bounds : (isa : Isa) (i : Item) (w : dock.Dock) (n : List Bounds) → bounds_of w.mem ≡ n → bounds_of w.path.machine.hart.mem ≡ n →
    bounds_of (dock.past isa i w).mem ≡ n
unfolding dock.past
past_port_bounds isa (Up i p) w n e f = either (ahead.has_ported p w.answer) (after_step (step_at isa w.path.machine p.pc) w.path.machine).hart.mem w.mem n
    (step_bounds isa w.path.machine p.pc ∙ f) e
past_port_bounds isa (Down i k) w n e f = e

pub port_bounds : (isa : Isa) (xs : List Item) (w : dock.Dock) (n : List Bounds) → bounds_of w.mem ≡ n → bounds_of w.path.machine.hart.mem ≡ n →
    bounds_of (walk (dock.past isa) xs w).mem ≡ n
port_bounds isa [] w n e f = e
port_bounds isa (i ∷ xs) w n e f = port_bounds isa xs (dock.past isa i w) n (past_port_bounds isa i w n e f)
    (ap (λ (q : trail.Walk). bounds_of q.machine.hart.mem) (past_path isa i w) ∙ past_path_bounds isa i w.path ∙ f)

-- of the core's memory and of a machine on the way
pub core_bounds : {rest out : List ℕ} (l : Plan) (s : State) (x : Machine) (above : List Item) → Sound l s rest out x →
    bounds_of s.mem ≡ bounds_of (walk (trail.past (isa_of l)) above (trail.top s x)).machine.hart.mem
core_bounds {rest} {out} l s x above h = ap bounds_of h.port_ends.is_mem ∙ port_bounds (isa_of l) (column s) (dock.top l s x) (bounds_of x.hart.mem) refl refl
    ∙ sym (path_bounds (isa_of l) above (trail.top s x))
