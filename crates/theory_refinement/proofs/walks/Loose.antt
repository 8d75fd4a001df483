-- Below Memory's launch stage nothing is launched, so that a new risk above does no harm.
use Rattle.std.proofs.Common.{◌≡◌, ℕ, ◌<◌, ◌≤◌, List, [], ◌∷◌, Some, Bool, true, false, ◌||◌, ◌&&◌, refl, arith}
use Rattle.cf_bind.specs.declared.passenger.Passenger.{Passenger}
use Rattle.cf_layout.specs.Layout.{Plan, launch_stage, siding_of}
use Rattle.theory_refinement.proofs.column.Change.{past_safe}
use Rattle.theory_refinement.proofs.column.Sorted.{Riders}
use Rattle.theory_refinement.proofs.invariant.Stands.{Each, Stands}
use Rattle.theory_refinement.proofs.invariant.Suited.{Suits}
use Rattle.cf_semantics.specs.state.Column.{Down, Item, Up}
use Rattle.cf_semantics.specs.moves.Instructions.{is_memory}
use Rattle.cf_semantics.specs.state.Layouts.{port}
use Rattle.cf_semantics.specs.state.Passengers.{kind}
use Rattle.cf_semantics.specs.claims.Walks.{Everywhere, walk}
use Rattle.rv_inst.specs.declared.isa.Isa.{Isa}
use Rattle.cf_semantics.specs.claims.Ahead as ahead
use Rattle.theory_refinement.proofs.invariant.Port as dock
use Rattle.theory_refinement.proofs.walks.Path as paths
use Rattle.theory_refinement.proofs.instructions.Classes.{memory_is}
use Rattle.theory_refinement.proofs.walks.Order.{past_path}

-- none of these is launched or served
abbrev pub Waiting : List Item → Type 0
Waiting [] = Unit {0}
Waiting (Up i p ∷ xs) = ((is_memory (kind p) && (p.launched || p.recovered)) ≡ false) × (ahead.has_served p ≡ false) × Waiting xs
Waiting (Down i k ∷ xs) = Waiting xs

ashore : (l : Plan) (i : ℕ) (p : Passenger) → Suits l → i < launch_stage l (port l) → Stands l i p → (is_memory (kind p) && (p.launched || p.recovered)) ≡ false
ashore l i p acc n h = go (is_memory (kind p)) p.launched p.recovered refl refl refl
  where
    at : is_memory (kind p) ≡ true → siding_of l (kind p) ≡ Some (port l)
    at e = rw (memory_is (kind p) e) acc.memory

    go : (a b c : Bool) → is_memory (kind p) ≡ a → p.launched ≡ b → p.recovered ≡ c → (is_memory (kind p) && (p.launched || p.recovered)) ≡ false
    go false b c e f g = rw e refl
    go true false false e f g = rw (e, f, g) refl
    go true true false e f g = absurd (let w = rw (at e) at (h.out f g) in omega (arith, w.0))
    go true b true e f g = absurd (let w = rw (at e) at (h.back g) in let o = acc.order (kind p) (port l) (at e) in omega arith)

pub waiting : (l : Plan) (n : ℕ) (xs : List Item) → Suits l → n ≤ launch_stage l (port l) → n ≤ l.stages → Riders (λ j. j < n) xs → Each l xs → Waiting xs
waiting l n [] acc a b r h = tt
waiting l n (Up i p ∷ xs) acc a b r h = (ashore l i p acc (omega (arith, r.0)) h.0, here (ahead.has_served p) refl, waiting l n xs acc a b r.1 h.1)
  where
    here : (q : Bool) → ahead.has_served p ≡ q → ahead.has_served p ≡ false
    here false e = e
    here true e = absurd (let z = h.0.served e in omega (arith, r.0))
waiting l n (Down i k ∷ xs) acc a b r h = waiting l n xs acc a b r h

pub record Loose (w v : dock.Dock) : Type 0 where
  pub path : paths.Follows w.path v.path
  pub safe : v.path.barred ≡ true → v.risky ≡ true
  pub mem : v.mem ≡ w.mem
  pub code : v.code ≡ w.code
  pub rest : v.rest ≡ w.rest
  pub out : v.out ≡ w.out
  pub answer : v.answer ≡ w.answer

rider_loose : (isa : Isa) (i : ℕ) (p : Passenger) (w v : dock.Dock) → (is_memory (kind p) && (p.launched || p.recovered)) ≡ false → ahead.has_served p ≡ false →
    paths.Follows (dock.past isa (Up i p) w).path (dock.past isa (Up i p) v).path → ((dock.past isa (Up i p) v).path.barred ≡ true →
    (dock.past isa (Up i p) v).risky ≡ true) → Loose w v → Loose (dock.past isa (Up i p) w) (dock.past isa (Up i p) v)
unfolding dock.past
rider_loose isa i p w v a b q s f =
    let c : ahead.has_ported p w.answer ≡ false = grind arith in
    let d : ahead.has_ported p v.answer ≡ false = grind arith in
    let e : ahead.flies p ≡ false = grind arith in
    record { path = q; safe = s; mem = rw (c, d) f.mem; code = rw b f.code; rest = rw b f.rest; out = rw b f.out; answer = rw e f.answer }

result_loose : (isa : Isa) (i : ℕ) (k : _) (w v : dock.Dock) → paths.Follows (dock.past isa (Down i k) w).path (dock.past isa (Down i k) v).path →
    ((dock.past isa (Down i k) v).path.barred ≡ true → (dock.past isa (Down i k) v).risky ≡ true) → Loose w v →
    Loose (dock.past isa (Down i k) w) (dock.past isa (Down i k) v)
unfolding dock.past
result_loose isa i k w v q s f = record { path = q; safe = s; mem = f.mem; code = f.code; rest = f.rest; out = f.out; answer = f.answer }

rider_fits : (isa : Isa) (i : ℕ) (p : Passenger) (v : dock.Dock) → (is_memory (kind p) && (p.launched || p.recovered)) ≡ false → ahead.has_served p ≡ false →
    dock.Fits isa (Up i p) v
unfolding dock.Fits dock.DockedAt
rider_fits isa i p v a b =
    record {
      live = λ c d. absurd (grind arith);
      order = λ c d. absurd (grind arith);
      served = λ c. absurd (cc);
      permitted = λ c d. absurd (grind arith);
      answered = λ c. absurd (grind arith);
    }

pub result_fits : (isa : Isa) (i : ℕ) (k : _) (w : dock.Dock) → dock.Fits isa (Down i k) w
unfolding dock.Fits
result_fits isa i k w = tt

followed : (isa : Isa) (i : Item) (w v : dock.Dock) → Loose w v → paths.Follows (dock.past isa i w).path (dock.past isa i v).path
followed isa i w v f = rw (past_path isa i w, past_path isa i v) (paths.past_on isa i w.path v.path f.path)

pub loose_fit : (isa : Isa) (xs : List Item) (w v : dock.Dock) → Waiting xs → Loose w v → Everywhere (dock.Fits isa) (dock.past isa) xs v
    × Loose (walk (dock.past isa) xs w) (walk (dock.past isa) xs v)
loose_fit isa [] w v h f = (tt, f)
loose_fit isa (Up i p ∷ xs) w v h f =
    let a = loose_fit isa xs (dock.past isa (Up i p) w) (dock.past isa (Up i p) v) h.2 (rider_loose isa i p w v h.0 h.1 (followed isa (Up i p) w v f)
    (past_safe isa (Up i p) v f.safe) f) in
    ((rider_fits isa i p v h.0 h.1, a.0), a.1)
loose_fit isa (Down i k ∷ xs) w v h f =
    let a = loose_fit isa xs (dock.past isa (Down i k) w) (dock.past isa (Down i k) v) h (result_loose isa i k w v (followed isa (Down i k) w v f)
    (past_safe isa (Down i k) v f.safe) f) in
    ((result_fits isa i k v, a.0), a.1)
