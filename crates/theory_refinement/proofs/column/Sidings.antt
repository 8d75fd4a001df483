-- Sidings by number, and the operations of instructions by their stages.
use Rattle.std.proofs.Common.{◌≡◌, ◌≢◌, ℕ, zero, suc, ◌≤◌, List, [], ◌∷◌, Option, Some, None, Bool, true, false, ◌==◌, refl, sym, ap, subst, ◌∙◌, arith, length}
use Rattle.std.specs.Prelude.{slice_get, slice_set}
use Rattle.cf_bind.specs.declared.cell.Op.{Op}
use Rattle.cf_bind.specs.declared.passenger.Passenger.{Passenger}
use Rattle.cf_layout.specs.Layout.{Plan, cells_of, launch_stage, recover_stage, siding_of}
use Rattle.theory_refinement.proofs.column.Sorted.{Riders}
use Rattle.theory_refinement.proofs.invariant.Operations.{IsMoored}
use Rattle.theory_refinement.proofs.invariant.Stands.{Each, Stands}
use Rattle.theory_refinement.proofs.invariant.Suited.{Suits}
use Rattle.cf_semantics.specs.moves.Bars.{last_op}
use Rattle.cf_semantics.specs.state.Column.{Down, Item, Up}
use Rattle.cf_semantics.specs.state.Layouts.{port}
use Rattle.cf_semantics.specs.moves.Moves.{set_last}
use Rattle.cf_semantics.specs.state.Options.{on}
use Rattle.cf_semantics.specs.state.Passengers.{kind}
use Rattle.cf_semantics.specs.state.State.{State, siding_at}
use Rattle.cf_semantics.specs.claims.Soundness.{AreUnanswered, IsUnanswered, LastAnswered, in_siding, operations_in, operations_of}
use Rattle.rv_machine.specs.Machine.{Machine}
use Rattle.theory_refinement.proofs.invariant.Port as dock

-- the cells of siding k
abbrev pub cells_in : List (List (Option Op)) → ℕ → List (Option Op)
cells_in ss k = on (slice_get ss k) [] (λ l. l)

pub put_here : (ss : List (List (Option Op))) (k : ℕ) (q : List (Option Op)) (n : ℕ) → length (cells_in ss k) ≡ suc n → cells_in (slice_set ss k q) k ≡ q
put_here [] k q n e = absurd (cc)
put_here (a ∷ ss) zero q n e = refl
put_here (a ∷ ss) (suc k) q n e = put_here ss k q n e

pub put_other : (ss : List (List (Option Op))) (k j : ℕ) (q : List (Option Op)) → j ≢ k → cells_in (slice_set ss k q) j ≡ cells_in ss j
put_other [] k j q e = refl
put_other (a ∷ ss) zero zero q e = absurd (e refl)
put_other (a ∷ ss) zero (suc j) q e = refl
put_other (a ∷ ss) (suc k) zero q e = refl
put_other (a ∷ ss) (suc k) (suc j) q e = put_other ss k j q (λ z. e (ap suc z))

pub set_last_size : (l : List (Option Op)) (o : Option Op) → length (set_last l o) ≡ length l
set_last_size [] o = refl
set_last_size (a ∷ []) o = refl
set_last_size (a ∷ b ∷ l) o = ap suc (set_last_size (b ∷ l) o)

pub last_set : (l : List (Option Op)) (n : ℕ) (o : Option Op) → length l ≡ suc n → last_op (set_last l o) ≡ o
last_set [] n o e = absurd (cc)
last_set (a ∷ []) n o e = refl
last_set (a ∷ b ∷ []) n o e = refl
last_set (a ∷ b ∷ c ∷ l) zero o e = absurd (omega arith)
last_set (a ∷ b ∷ c ∷ l) (suc n) o e = last_set (b ∷ c ∷ l) n o (omega arith)

pub front_set_last : (l : List (Option Op)) (o : Option Op) → LastAnswered l → LastAnswered (set_last l o)
front_set_last [] o h = tt
front_set_last (a ∷ []) o h = tt
front_set_last (a ∷ b ∷ []) o h = (h.0, tt)
front_set_last (a ∷ b ∷ c ∷ l) o h = (h.0, front_set_last (b ∷ c ∷ l) o h.1)

pub plain_set_last : (l : List (Option Op)) → AreUnanswered l → AreUnanswered (set_last l None)
plain_set_last [] h = tt
plain_set_last (a ∷ []) h = (tt, tt)
plain_set_last (a ∷ b ∷ l) h = (h.0, plain_set_last (b ∷ l) h.1)

pub plain_last : (l : List (Option Op)) (op : Op) → AreUnanswered l → last_op l ≡ Some op → op.answer ≡ None
plain_last [] op h e = absurd (cc)
plain_last (a ∷ []) op h e = subst IsUnanswered e h.0
plain_last (a ∷ b ∷ l) op h e = plain_last (b ∷ l) op h.1 e

-- a siding's class and number
pub berthed : (l : Plan) → Suits l → (s : State) (xs : List Item) (k : ℕ) → IsMoored l s xs → (c : _) → siding_of l c ≡ Some k →
    (n : ℕ) × (length (siding_at s k) ≡ suc n)
berthed l acc s xs k h c e = let b = acc.berth c k e in (b.0, h.berths k ∙ b.1)

-- one siding's cells change, the others are unchanged
pub rehung : (l : Plan) (s t : State) (xs ys : List Item) (k : ℕ) (q : List (Option Op)) → t.sidings ≡ slice_set s.sidings k q → (n : ℕ) →
    length (siding_at s k) ≡ suc n → length q ≡ length (siding_at s k) → operations_in q ≡ operations_of l k ys →
    ((j : ℕ) → j ≢ k → operations_of l j xs ≡ operations_of l j ys) → LastAnswered q → (k ≢ (port l) → AreUnanswered q) → IsMoored l s xs → IsMoored l t ys
rehung l s t xs ys k q e n b z f g fr pl h =
    record { operations = λ j. go1 j (j == k) refl; front = λ j. go2 j (j == k) refl; plain = λ j. go3 j (j == k) refl; berths = λ j. go4 j (j == k) refl }
  where
    same : (j : ℕ) → (j == k) ≡ true → j ≡ k
    same j e = grind arith

    apart : (j : ℕ) → (j == k) ≡ false → j ≢ k
    apart j e = λ d. grind arith

    here : (j : ℕ) → (j == k) ≡ true → siding_at t j ≡ q
    here j d = rw (same j d, e) (put_here s.sidings k q n b)

    other : (j : ℕ) → (j == k) ≡ false → siding_at t j ≡ siding_at s j
    other j d = rw e (put_other s.sidings k j q (apart j d))

    go1 : (j : ℕ) (b : Bool) → (j == k) ≡ b → operations_in (siding_at t j) ≡ operations_of l j ys
    go1 j true d = ap operations_in (here j d) ∙ f ∙ ap (λ (m : ℕ). operations_of l m ys) (sym (same j d))
    go1 j false d = ap operations_in (other j d) ∙ h.operations j ∙ g j (apart j d)

    go2 : (j : ℕ) (b : Bool) → (j == k) ≡ b → LastAnswered (siding_at t j)
    go2 j true d = subst LastAnswered (sym (here j d)) fr
    go2 j false d = subst LastAnswered (sym (other j d)) (h.front j)

    go3 : (j : ℕ) (b : Bool) → (j == k) ≡ b → j ≢ (port l) → AreUnanswered (siding_at t j)
    go3 j true d a = subst AreUnanswered (sym (here j d)) (pl (λ z. a (same j d ∙ z)))
    go3 j false d a = subst AreUnanswered (sym (other j d)) (h.plain j a)

    go4 : (j : ℕ) (b : Bool) → (j == k) ≡ b → length (siding_at t j) ≡ cells_of l j
    go4 j true d = ap length (here j d) ∙ z ∙ h.berths k ∙ ap (cells_of l) (sym (same j d))
    go4 j false d = ap length (other j d) ∙ h.berths j

-- outside its siding's stages no instruction has its operation out
out_range : (l : Plan) (k i : ℕ) (p : Passenger) → Stands l i p → ((launch_stage l k ≤ i) → (i ≤ recover_stage l k) → ⊥) → in_siding l k p ≡ false
out_range l k i p h n = go p.launched p.recovered (siding_of l (kind p)) refl refl refl
  where
    apart : (j : ℕ) → (launch_stage l j ≤ i) × (i ≤ recover_stage l j) → (j == k) ≡ false
    apart j q = decide (j == k) refl
      where
        decide : (b : Bool) → (j == k) ≡ b → (j == k) ≡ false
        decide false e = e
        decide true e = let s : j ≡ k = grind arith in let t = subst (λ (m : ℕ). (launch_stage l m ≤ i) × (i ≤ recover_stage l m)) s q in absurd (n t.0 t.1)

    go : (a b : Bool) (o : Option ℕ) → p.launched ≡ a → p.recovered ≡ b → siding_of l (kind p) ≡ o → in_siding l k p ≡ false
    go false b o e f g = rw e refl
    go true true o e f g = rw (e, f) refl
    go true false None e f g = rw (e, f, g) refl
    go true false (Some j) e f g = let w = rw g at (h.out e f) in rw (e, f, g) (apart j w)

pub flown_range : (l : Plan) (k : ℕ) (xs : List Item) → Riders (λ i. (launch_stage l k ≤ i) → (i ≤ recover_stage l k) → ⊥) xs → Each l xs →
    operations_of l k xs ≡ []
flown_range l k [] f h = refl
flown_range l k (Up i p ∷ xs) f h = rw (out_range l k i p h.0 f.0) (flown_range l k xs f.1 h.1)
flown_range l k (Down i q ∷ xs) f h = flown_range l k xs f h

-- the answer in a siding's last cell
abbrev pub last_answer : List (Option Op) → Option ℕ
last_answer l = on (last_op l) None (λ o. o.answer)

pub top_same : (l : Plan) (s t : State) (x : Machine) → t.lane ≡ s.lane → last_answer (siding_at t (port l)) ≡ last_answer (siding_at s (port l)) →
    dock.top l t x ≡ dock.top l s x
top_same l s t x e f = rw (e, f) refl

pub last_cons : (o : Option Op) (l : List (Option Op)) (n : ℕ) → length l ≡ suc n → last_op (o ∷ l) ≡ last_op l
last_cons o [] n e = absurd (cc)
last_cons o (a ∷ l) n e = refl

pub front_cons : (o : Option Op) (l : List (Option Op)) → IsUnanswered o → LastAnswered l → LastAnswered (o ∷ l)
front_cons o [] a h = tt
front_cons o (b ∷ l) a h = (a, h)

pub some_cells : {A : Type 0} → (l : List A) (c : ℕ) (a : A) → slice_get l c ≡ Some a → (n : ℕ) × (length l ≡ suc n)
some_cells [] c a e = absurd (cc)
some_cells (b ∷ l) c a e = (length l, refl)

-- if one siding changes, the port's answer is unchanged if that siding's is
pub answer_here : (l : Plan) (s t : State) (k : ℕ) (q : List (Option Op)) (n : ℕ) → t.sidings ≡ slice_set s.sidings k q → length (siding_at s k) ≡ suc n →
    (k ≡ (port l) → last_answer q ≡ last_answer (siding_at s k)) → last_answer (siding_at t (port l)) ≡ last_answer (siding_at s (port l))
answer_here l s t k q n e b f = go (k == (port l)) refl
  where
    go : (z : Bool) → (k == (port l)) ≡ z → last_answer (siding_at t (port l)) ≡ last_answer (siding_at s (port l))
    go true d =
        let w : k ≡ (port l) = grind arith in
        rw (← w, e) (ap last_answer (put_here s.sidings k q n b) ∙ f w)
    go false d =
        let w : (port l) ≢ k = λ y. grind arith in
        rw e (ap last_answer (put_other s.sidings k (port l) q w))
