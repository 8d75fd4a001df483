-- Slide keeps the invariant.
use Rattle.std.proofs.Common.{◌≡◌, ℕ, zero, suc, List, [], ◌∷◌, Option, Some, None, refl, sym, ap, subst, ◌∙◌, length, length-set, add-one}
use Rattle.std.specs.Prelude.{slice_get, slice_set}
use Rattle.cf_bind.specs.declared.cell.Op.{Op}
use Rattle.cf_bind.specs.declared.moves.Move.TheVariants.{Slide}
use Rattle.cf_layout.specs.Layout.{Plan}
use Rattle.theory_refinement.proofs.column.Flown.{operations_slide}
use Rattle.theory_refinement.proofs.moves.Rows.{bar_row}
use Rattle.theory_refinement.proofs.column.Sidings.{answer_here, front_cons, last_answer, last_cons, rehung, some_cells, top_same}
use Rattle.theory_refinement.proofs.invariant.Invariant.{Sound}
use Rattle.cf_semantics.specs.moves.Bars.{bar, row_bar, slide_bar}
use Rattle.cf_semantics.specs.state.Column.{column}
use Rattle.cf_semantics.specs.state.Layouts.{isa_of}
use Rattle.cf_semantics.specs.moves.Moves.{moved}
use Rattle.cf_semantics.specs.state.Options.{on}
use Rattle.cf_semantics.specs.state.State.{State, siding_at, with_siding}
use Rattle.cf_semantics.specs.claims.Walks.{Everywhere, walk}
use Rattle.cf_semantics.specs.claims.Soundness.{AreUnanswered, IsUnanswered, LastAnswered}
use Rattle.rv_machine.specs.Machine.{Machine}
use Rattle.theory_refinement.proofs.invariant.Port as dock
use Rattle.theory_refinement.proofs.column.Change.{beside}

pub record Slides (s : State) (k c : ℕ) : Type 0 where
  pub what : Op
  pub here : slice_get (siding_at s k) c ≡ Some (Some what)
  pub there : slice_get (siding_at s k) (suc c) ≡ Some None

pub slide_ready : (l : Plan) (s : State) (k c : ℕ) → row_bar l s (Slide k c) ≡ None → Slides s k c
slide_ready l s k c e = go (slice_get (siding_at s k) c) (slice_get (siding_at s k) (suc c)) refl refl e
  where
    go : (a b : Option (Option Op)) → slice_get (siding_at s k) c ≡ a → slice_get (siding_at s k) (suc c) ≡ b → slide_bar (siding_at s k) c ≡ None →
        Slides s k c
    go (Some (Some o)) (Some None) f g e = record { what = o; here = f; there = g }
    go a None f g e = absurd (let e' = rw (add-one, g) at e in cc)
    go None (Some b) f g e = absurd (let e' = rw (add-one, g, f) at e in cc)
    go (Some None) (Some b) f g e = absurd (let e' = rw (add-one, g, f) at e in cc)
    go (Some (Some o)) (Some (Some b)) f g e = absurd (let e' = rw (add-one, g, f) at e in cc)

pub next_slide : (l : Plan) (s : State) (k c : ℕ) (op : Op) → slice_get (siding_at s k) c ≡ Some (Some op) →
    moved l s (Slide k c) ≡ with_siding s k (slice_set (slice_set (siding_at s k) c None) (suc c) (Some op))
unfolding moved
next_slide l s k c op e = rw (e, add-one) refl

pub slide_size : (l : List (Option Op)) (c : ℕ) (op : Op) → length (slice_set (slice_set l c None) (suc c) (Some op)) ≡ length l
slide_size l c op = length-set (slice_set l c None) (suc c) (Some op) ∙ length-set l c None

slide_plain : (l : List (Option Op)) (c : ℕ) (op : Op) → slice_get l c ≡ Some (Some op) → AreUnanswered l →
    AreUnanswered (slice_set (slice_set l c None) (suc c) (Some op))
slide_plain [] c op e h = tt
slide_plain (o ∷ []) zero op e h = (tt, tt)
slide_plain (o ∷ q ∷ l) zero op e h = let z : o ≡ Some op = cc in (tt, (subst IsUnanswered z h.0, h.1.1))
slide_plain (o ∷ l) (suc c) op e h = (h.0, slide_plain l c op e h.1)

slide_front : (l : List (Option Op)) (c : ℕ) (op : Op) → slice_get l c ≡ Some (Some op) → LastAnswered l →
    LastAnswered (slice_set (slice_set l c None) (suc c) (Some op))
slide_front [] c op e h = tt
slide_front (o ∷ []) zero op e h = tt
slide_front (o ∷ q ∷ []) zero op e h = (tt, tt)
slide_front (o ∷ q ∷ r ∷ l) zero op e h = let z : o ≡ Some op = cc in (tt, (subst IsUnanswered z h.0, h.1.1))
slide_front (o ∷ []) (suc c) op e h = tt
slide_front (o ∷ q ∷ l) (suc c) op e h = front_cons o _ h.0 (slide_front (q ∷ l) c op e h.1)

slide_answer : (l : List (Option Op)) (c : ℕ) (op : Op) → slice_get l c ≡ Some (Some op) → slice_get l (suc c) ≡ Some None → LastAnswered l →
    last_answer (slice_set (slice_set l c None) (suc c) (Some op)) ≡ last_answer l
slide_answer [] c op e f h = refl
slide_answer (o ∷ []) zero op e f h = absurd (cc)
slide_answer (o ∷ q ∷ []) zero op e f h = let z : o ≡ Some op = cc in let y : q ≡ None = cc in rw y (subst IsUnanswered z h.0)
slide_answer (o ∷ q ∷ r ∷ l) zero op e f h = refl
slide_answer (o ∷ []) (suc c) op e f h = absurd (cc)
slide_answer (o ∷ q ∷ l) (suc c) op e f h = ap (λ (z : Option Op). on z None (λ p. p.answer)) (last_cons o _ (length l) (slide_size (q ∷ l) c op))
    ∙ slide_answer (q ∷ l) c op e f h.1

pub slide_kept : {rest out : List ℕ} (l : Plan) (s : State) (x : Machine) (k c : ℕ) → bar l s (Slide k c) ≡ None → Sound l s rest out x →
    Sound l (moved l s (Slide k c)) rest out x
slide_kept {rest} {out} l s x k c e h =
    let r = slide_ready l s k c (bar_row l s (Slide k c) e) in
    let old = siding_at s k in
    let new = slice_set (slice_set old c None) (suc c) (Some r.what) in
    let n = some_cells old c (Some r.what) r.here in
    let t : State = with_siding s k new in
    let top = top_same l s t x refl (answer_here l s t k new n.0 refl n.1 (λ _. slide_answer old c r.what r.here r.there (h.moored.front k))) in
    rw (next_slide l s k c r.what r.here) (beside l s x t.sidings t.mem (record {
      fit = subst (λ (w : dock.Dock). Everywhere (dock.Fits (isa_of l)) (dock.past (isa_of l)) (column s) w) (sym top) h.port_fit;
      ends = subst (λ (w : dock.Dock). dock.Ends (walk (dock.past (isa_of l)) (column s) w) s.mem rest out) (sym top) h.port_ends;
    }) (rehung l s t (column s) (column s) k new refl n.0 n.1 (slide_size old c r.what) (operations_slide old c r.what r.here r.there ∙ h.moored.operations k)
    (λ j a. refl) (slide_front old c r.what r.here (h.moored.front k)) (λ a. slide_plain old c r.what r.here (h.moored.plain k a)) h.moored) h)
