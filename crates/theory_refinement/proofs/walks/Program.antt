-- If nothing above holds fetch, the core's code is that of the machine after the sure instructions.
use Rattle.cf_semantics.specs.moves.Fetches.{code_of}
use Rattle.std.proofs.Common.{◌≡◌, ℕ, List, [], ◌∷◌, Bool, true, false, arith}
use Rattle.cf_bind.specs.declared.passenger.Passenger.{Passenger}
use Rattle.cf_layout.specs.Layout.{Plan}
use Rattle.theory_refinement.proofs.column.Change.{past_safe}
use Rattle.theory_refinement.proofs.walks.Order.{past_path, walk_open}
use Rattle.theory_refinement.proofs.walks.Port.{served_calm}
use Rattle.theory_refinement.proofs.instructions.Steps.{sure_leaves}
use Rattle.cf_semantics.specs.state.Column.{Down, Item, Up}
use Rattle.cf_semantics.specs.moves.Instructions.{after_step, is_serial, step_at}
use Rattle.cf_semantics.specs.state.Layouts.{isa_of}
use Rattle.cf_semantics.specs.state.Passengers.{kind}
use Rattle.cf_semantics.specs.claims.Walks.{Everywhere, walk}
use Rattle.rv_inst.specs.declared.isa.Isa.{Isa}
use Rattle.cf_semantics.specs.claims.Ahead as ahead
use Rattle.theory_refinement.proofs.invariant.Port as dock
use Rattle.theory_refinement.proofs.invariant.Lone as lone
use Rattle.theory_refinement.proofs.invariant.Sure as sure
use Rattle.cf_semantics.specs.claims.Path as trail
use Rattle.cf_semantics.specs.claims.Soundness.{is_lone}

open_holds : (l : Plan) (i : ℕ) (p : Passenger) (b : Bool) → lone.past l (Up i p) b ≡ false → is_lone p ≡ false
unfolding lone.past
open_holds l i p b e = grind arith

sure_code : (isa : Isa) (p : Passenger) (w : trail.Walk) → sure.SureAt isa p w → is_serial (kind p) ≡ false →
    code_of (after_step (step_at isa w.machine p.pc) w.machine).hart.mem ≡ code_of w.machine.hart.mem
unfolding sure.SureAt
sure_code isa p w h c = (sure_leaves isa p w.machine w.goto h.0 c).code

served_safe : (isa : Isa) (i : ℕ) (p : Passenger) (w : dock.Dock) → dock.Fits isa (Up i p) w → ahead.has_served p ≡ true → w.risky ≡ false
unfolding dock.Fits
served_safe isa i p w h e = served_calm isa p w h e

rider_code : (isa : Isa) (i : ℕ) (p : Passenger) (w : dock.Dock) → is_lone p ≡ false → sure.Fits isa (Up i p) w.path → dock.Fits isa (Up i p) w →
    (w.path.barred ≡ true → w.risky ≡ true) → w.code ≡ code_of w.path.machine.hart.mem → (dock.past isa (Up i p) w).code
    ≡ code_of (dock.past isa (Up i p) w).path.machine.hart.mem
unfolding dock.past trail.past sure.Fits
rider_code isa i p w o f d s e =
    let a = served_safe isa i p w d in
    let b = sure_code isa p w.path in
    grind (arith, a, b, s)

result_code : (isa : Isa) (i : ℕ) (k : _) (w : dock.Dock) → w.code ≡ code_of w.path.machine.hart.mem →
    (dock.past isa (Down i k) w).code ≡ code_of (dock.past isa (Down i k) w).path.machine.hart.mem
unfolding dock.past trail.past
result_code isa i k w e = grind arith

pub code_fresh : (l : Plan) (xs : List Item) (w : dock.Dock) (b : Bool) → walk (lone.past l) xs b ≡ false →
    Everywhere (sure.Fits (isa_of l)) (trail.past (isa_of l)) xs w.path → Everywhere (dock.Fits (isa_of l)) (dock.past (isa_of l)) xs w →
    (w.path.barred ≡ true → w.risky ≡ true) → w.code ≡ code_of w.path.machine.hart.mem → (walk (dock.past (isa_of l)) xs w).code
    ≡ code_of (walk (dock.past (isa_of l)) xs w).path.machine.hart.mem
code_fresh l [] w b o f d s e = e
code_fresh l (Up i p ∷ xs) w b o f d s e =
    let h = open_holds l i p b (walk_open l xs _ o) in
    code_fresh l xs (dock.past (isa_of l) (Up i p) w) (lone.past l (Up i p) b) o (rw (past_path (isa_of l) (Up i p) w) f.1) d.1
    (past_safe (isa_of l) (Up i p) w s) (rider_code (isa_of l) i p w h f.0 d.0 s e)
code_fresh l (Down i k ∷ xs) w b o f d s e =
    code_fresh l xs (dock.past (isa_of l) (Down i k) w) (lone.past l (Down i k) b) o (rw (past_path (isa_of l) (Down i k) w) f.1) d.1
    (past_safe (isa_of l) (Down i k) w s) (result_code (isa_of l) i k w e)
