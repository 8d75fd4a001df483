-- If no siding has an operation, no Slide, Access or Recover is allowed.
use Rattle.std.proofs.Common.{◌≡◌, ◌∙◌, sym, refl, ap, ℕ, zero, suc, ◌+◌, ◌-◌, List, [], ◌∷◌, ◌++◌, map, Bool, true, false, Option, Some, None}
use Rattle.std.specs.List.{list_any}
use Rattle.std.specs.Prelude.{◌&&◌, ◌||◌, filter, not, slice_get}
use Rattle.std.proofs.lemmas.List.Elements.{filter-append}
use Rattle.cf_layout.specs.Layout.{Plan, SidingPlan, siding_of}
use Rattle.cf_bind.specs.declared.cell.Cell.{Cell}
use Rattle.cf_bind.specs.declared.cell.Op.{Op}
use Rattle.cf_bind.specs.declared.passenger.Passenger.{Passenger}
use Rattle.cf_bind.specs.declared.moves.Bar.{Bar}
use Rattle.cf_bind.specs.declared.moves.Bar.TheVariants.{AlreadyDone, Failed, Halted, NoPassenger, NoSuchSite, NotDone, NoUnit, Occupied, OpNotThere}
use Rattle.cf_bind.specs.declared.moves.Move.{Move}
use Rattle.cf_bind.specs.declared.moves.Move.TheVariants.{Access, Exit, Leave, Recover, Serve, Slide}
use Rattle.cf_semantics.specs.moves.Bars.{bar, exit_op_bar, first, cell_is_taken, last_op, recover_bar, slide_bar}
use Rattle.cf_semantics.specs.moves.Candidates.{at_stages, counted_from, slides_from}
use Rattle.cf_semantics.specs.moves.Instructions.{is_memory}
use Rattle.cf_semantics.specs.state.Layouts.{port, recovers}
use Rattle.cf_semantics.specs.state.Options.{is_some, on}
use Rattle.cf_semantics.specs.state.Passengers.{kind}
use Rattle.cf_semantics.specs.state.State.{State, cell_at, siding_at}
use Rattle.cf_index.specs.Allowed.{all_leaving, is_allowed}
use Rattle.cf_index.specs.PickedFrom.{from_leave, outward_on}

-- neither of two tests holds if not one of them does
both_false : (a b : Bool) → (a || b) ≡ false → (a ≡ false) × (b ≡ false)
both_false true b e = absurd (cc)
both_false false b e = (refl, e)

-- if no siding has an operation, the one with a number has none, also if there is no such siding
pub all_empty : (s : State) → list_any (list_any is_some) s.sidings ≡ false → (k : ℕ) → list_any is_some (siding_at s k) ≡ false
all_empty s none k = of s.sidings k none
  where
    of : (sidings : List (List (Option Op))) (k : ℕ) → list_any (list_any is_some) sidings ≡ false →
        list_any is_some (on (slice_get sidings k) [] (λ ops. ops)) ≡ false
    of [] k none = refl
    of (ops ∷ sidings) zero none = (both_false (list_any is_some ops) (list_any (list_any is_some) sidings) none).0
    of (ops ∷ sidings) (suc k) none = of sidings k (both_false (list_any is_some ops) (list_any (list_any is_some) sidings) none).1

-- nothing is in its last cell, nor in any other
none_there : (o : Option Op) → is_some o ≡ false → o ≡ None
none_there None e = refl
none_there (Some op) e = absurd (cc)

last_none : (ops : List (Option Op)) → list_any is_some ops ≡ false → last_op ops ≡ None
last_none [] e = refl
last_none (o ∷ []) e = none_there o (both_false (is_some o) false e).0
last_none (o ∷ p ∷ ops) e = last_none (p ∷ ops) (both_false (is_some o) (list_any is_some (p ∷ ops)) e).1

cell_none : (ops : List (Option Op)) (c : ℕ) → list_any is_some ops ≡ false → cell_is_taken (slice_get ops c) ≡ false
cell_none [] c e = refl
cell_none (o ∷ ops) zero e = (both_false (is_some o) (list_any is_some ops) e).0
cell_none (o ∷ ops) (suc c) e = cell_none ops c (both_false (is_some o) (list_any is_some ops) e).1

-- so the moves are barred
pub barred_by : (ended failed : Bool) (b : Option Bar) → is_some b ≡ true → not (is_some (first ended Halted (first failed Failed b))) ≡ false
barred_by true failed b e = refl
barred_by false true b e = refl
barred_by false false b e = rw e refl

slide_row : (ops : List (Option Op)) (c : ℕ) → cell_is_taken (slice_get ops c) ≡ false → is_some (slide_bar ops c) ≡ true
slide_row ops c none = of (slice_get ops (c + 1))
  where
    of : (o : Option (Option Op)) → is_some (on o (Some NoSuchSite)
        (λ p. first (not (cell_is_taken (slice_get ops c))) OpNotThere (first (is_some p) Occupied None))) ≡ true
    of None = refl
    of (Some p) = rw none refl

slide_off : (plan : Plan) (s : State) (k c : ℕ) → list_any is_some (siding_at s k) ≡ false → is_allowed plan s (Slide k c) ≡ false
unfolding bar
slide_off plan s k c none = barred_by (is_some s.ending) s.failed _ (slide_row (siding_at s k) c (cell_none (siding_at s k) c none))

pub access_off : (plan : Plan) (s : State) → list_any is_some (siding_at s (port plan)) ≡ false → is_allowed plan s Access ≡ false
unfolding bar
access_off plan s none = barred_by (is_some s.ending) s.failed _ (rw (last_none (siding_at s (port plan)) none) refl)

back_row : (plan : Plan) (s : State) (p : Passenger) → ((k : ℕ) → list_any is_some (siding_at s k) ≡ false) → is_some (exit_op_bar plan s p) ≡ true
back_row plan s p none = of (siding_of plan (kind p))
  where
    of : (o : Option ℕ) → is_some (on o (Some NoUnit) (λ k. on (last_op (siding_at s k)) (Some OpNotThere) (λ op.
        first (is_memory (kind p) && not (is_some op.answer)) NotDone None))) ≡ true
    of None = refl
    of (Some k) = rw (last_none (siding_at s k) (none k)) refl

either_bar : (a b : Bool) (rest : Option Bar) → is_some rest ≡ true → is_some (first a NoUnit (first b AlreadyDone rest)) ≡ true
either_bar true b rest e = refl
either_bar false true rest e = refl
either_bar false false rest e = e

recover_row : (plan : Plan) (s : State) (c : Cell) (i : ℕ) → ((k : ℕ) → list_any is_some (siding_at s k) ≡ false) → is_some (recover_bar plan s c i) ≡ true
recover_row plan s c i none = of c.passenger
  where
    of : (o : Option Passenger) → is_some (on o (Some NoPassenger) (λ p. first (not (recovers plan (kind p) i)) NoUnit
        (first (not p.launched || p.recovered) AlreadyDone (exit_op_bar plan s p)))) ≡ true
    of None = refl
    of (Some p) = either_bar _ _ (exit_op_bar plan s p) (back_row plan s p none)

recover_off : (plan : Plan) (s : State) (i : ℕ) → ((k : ℕ) → list_any is_some (siding_at s k) ≡ false) → is_allowed plan s (Recover i) ≡ false
unfolding bar
recover_off plan s i none = barred_by (is_some s.ending) s.failed _ (of (cell_at s.cells i))
  where
    of : (o : Option Cell) → is_some (on o (Some NoSuchSite) (λ c. recover_bar plan s c i)) ≡ true
    of None = refl
    of (Some c) = recover_row plan s c i none

-- none of them is among the allowed moves
mapped_off : (q : Move → Bool) (f : ℕ → Move) (ks : List ℕ) → ((k : ℕ) → q (f k) ≡ false) → filter q (map f ks) ≡ []
mapped_off q f [] off = refl
mapped_off q f (k ∷ ks) off = rw (off k) (mapped_off q f ks off)

slides_off : (q : Move → Bool) (k : ℕ) (sidings : List SidingPlan) → ((k c : ℕ) → q (Slide k c) ≡ false) → filter q (slides_from k sidings) ≡ []
slides_off q k [] off = refl
slides_off q k (siding ∷ sidings) off =
    filter-append q (map (Slide k) (counted_from 0 (siding.cells - 1))) (slides_from (suc k) sidings)
    ∙ rw (mapped_off q (Slide k) (counted_from 0 (siding.cells - 1)) (off k)) (slides_off q (suc k) sidings off)

pub no_slides : (plan : Plan) (s : State) → ((k : ℕ) → list_any is_some (siding_at s k) ≡ false) → filter (is_allowed plan s) (slides_from 0 plan.sidings) ≡ []
no_slides plan s none = slides_off (is_allowed plan s) 0 plan.sidings (λ k c. slide_off plan s k c (none k))

pub no_leaving : (plan : Plan) (s : State) → ((k : ℕ) → list_any is_some (siding_at s k) ≡ false) →
    filter (is_allowed plan s) (all_leaving plan) ≡ filter (is_allowed plan s) (Leave ∷ Exit ∷ Serve ∷ [])
no_leaving plan s none =
    let q = is_allowed plan s in
    let ends = Leave ∷ Exit ∷ Serve ∷ [] in
    let recovers : filter q (at_stages plan Recover ++ ends) ≡ filter q ends = filter-append q (at_stages plan Recover) ends
    ∙ ap (λ (l : List Move). l ++ filter q ends) (mapped_off q Recover (counted_from 1 plan.stages) (λ i. recover_off plan s i none)) in
    rw (access_off plan s (none (port plan))) recovers

pub idle_outward : (plan : Plan) (s : State) → ((k : ℕ) → list_any is_some (siding_at s k) ≡ false) → from_leave plan s ≡ outward_on plan s
unfolding from_leave
idle_outward plan s none =
    sym (no_leaving plan s none) ∙ ap (λ (l : List Move). l ++ filter (is_allowed plan s) (all_leaving plan)) (sym (no_slides plan s none))
