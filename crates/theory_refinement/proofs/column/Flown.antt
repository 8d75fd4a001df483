-- The operations of a siding: Launch, Slide and Recover.
use Rattle.std.proofs.Common.{◌≡◌, ℕ, zero, suc, ◌<◌, ◌≤◌, List, [], ◌∷◌, ◌++◌, Option, Some, None, Bool, true, false, ◌==◌, refl, sym, ap, subst, ◌∙◌, arith, append_assoc, append-nil}
use Rattle.std.specs.Prelude.{slice_get, slice_set}
use Rattle.cf_bind.specs.declared.cell.Op.{Op}
use Rattle.cf_bind.specs.declared.passenger.Passenger.{Passenger}
use Rattle.cf_layout.specs.Layout.{Plan, launch_stage, siding_of}
use Rattle.theory_refinement.proofs.invariant.Stands.{Each, Stands}
use Rattle.cf_semantics.specs.moves.Bars.{last_op}
use Rattle.cf_semantics.specs.state.Column.{Down, Item, Up}
use Rattle.cf_semantics.specs.moves.Moves.{set_last}
use Rattle.cf_semantics.specs.state.Passengers.{kind}
use Rattle.cf_semantics.specs.claims.Soundness.{as_launched, in_siding, operations_in, operations_of}

-- Launch: an operation in the first cell comes after all others
pub operations_launch : (l : List (Option Op)) (op : Op) → operations_in (Some op ∷ l) ≡ operations_in (None ∷ l) ++ as_launched (Some op)
operations_launch l op = ap (λ (q : List Op). q ++ as_launched (Some op)) (sym (append-nil (operations_in l)))

-- Slide
pub operations_slide : (l : List (Option Op)) (c : ℕ) (op : Op) → slice_get l c ≡ Some (Some op) → slice_get l (suc c) ≡ Some None →
    operations_in (slice_set (slice_set l c None) (suc c) (Some op)) ≡ operations_in l
operations_slide [] c op e f = absurd (cc)
operations_slide (o ∷ []) zero op e f = absurd (cc)
operations_slide (o ∷ p ∷ l) zero op e f =
    let a : o ≡ Some op = cc in
    let b : p ≡ None = cc in
    rw (a, b) (rw (append-nil (operations_in l ++ as_launched (Some op)), append-nil (operations_in l)))
operations_slide (o ∷ l) (suc c) op e f = ap (λ (q : List Op). q ++ as_launched o) (operations_slide l c op e f)

-- Access, Recover: the last cell is the first operation
pub operations_last : (l : List (Option Op)) (op : Op) → last_op l ≡ Some op → operations_in l ≡ as_launched (Some op) ++ operations_in (set_last l None)
operations_last [] op e = absurd (cc)
operations_last (o ∷ []) op e = rw e
operations_last (o ∷ p ∷ l) op e = ap (λ (q : List Op). q ++ as_launched o) (operations_last (p ∷ l) op e)
    ∙ append_assoc (as_launched (Some op)) (operations_in (set_last (p ∷ l) None)) (as_launched o)

-- below a siding's launch stage none of its instructions has its operation out
abbrev pub Below : ℕ → List Item → Type 0
Below n [] = Unit {0}
Below n (Up i p ∷ xs) = (i < n) × Below n xs
Below n (Down i k ∷ xs) = (i < n) × Below n xs

not_out : (l : Plan) (k i : ℕ) (p : Passenger) → i < launch_stage l k → Stands l i p → in_siding l k p ≡ false
not_out l k i p n h = go p.launched p.recovered (siding_of l (kind p)) refl refl refl
  where
    go : (a b : Bool) (o : Option ℕ) → p.launched ≡ a → p.recovered ≡ b → siding_of l (kind p) ≡ o → in_siding l k p ≡ false
    go false b o e f g = rw e
    go true true o e f g = rw (e, f)
    go true false None e f g = rw (e, f, g)
    go true false (Some j) e f g = let w = rw g at (h.out e f) in rw (e, f, g) (apart w.0)
      where
        apart : launch_stage l j ≤ i → (j == k) ≡ false
        apart q = decide (j == k) refl
          where
            decide : (b : Bool) → (j == k) ≡ b → (j == k) ≡ false
            decide false e = e
            decide true e = let s : j ≡ k = grind arith in let t : launch_stage l k ≤ i = subst (λ (m : ℕ). launch_stage l m ≤ i) s q in absurd (omega arith)

pub flown_below : (l : Plan) (k : ℕ) (xs : List Item) → Below (launch_stage l k) xs → Each l xs → operations_of l k xs ≡ []
flown_below l k [] f h = refl
flown_below l k (Up i p ∷ xs) f h = rw (not_out l k i p f.0 h.0) (flown_below l k xs f.1 h.1)
flown_below l k (Down i q ∷ xs) f h = flown_below l k xs f.1 h
