-- The Falls of a sweep by the contents of the stages: which is the first above a stage, and that none of them bars a Launch.
use Rattle.std.proofs.Common.{◌≡◌, ◌∙◌, refl, sym, ap, ℕ, zero, suc, ◌+◌, ◌-◌, ◌<◌, ◌≤◌, List, ◌++◌, Bool, true, false, nat_lt, Option, Some, None, length, arith}
use Rattle.std.specs.Prelude.{◌&&◌, IsSome, slice_get}
use Rattle.std.proofs.Math.Bool.{and-false, and-true}
use Rattle.std.proofs.lemmas.Bool.Decides.{nat_tests}
use Rattle.cf_bind.specs.declared.cell.Cell.{Cell}
use Rattle.cf_bind.specs.declared.moves.Move.{Move}
use Rattle.cf_bind.specs.declared.moves.Move.TheVariants.{Fall, Launch}
use Rattle.cf_layout.specs.Layout.{Plan}
use Rattle.cf_layout.specs.Words.{has_bit}
use Rattle.cf_layout.proofs.Words.{no_bits}
use Rattle.cf_semantics.specs.state.Options.{is_some, on}
use Rattle.cf_semantics.specs.state.State.{State, cell_at}
use Rattle.cf_stages.specs.Changes.{falls}
use Rattle.cf_stages.specs.Falling.{AreFalls, AreSomeFalls, IsNextFall}
use Rattle.cf_stages.specs.Words.{word_of}
use Rattle.cf_stages.proofs.Bits.{word-small}
use Rattle.cf_stages.proofs.Lifted.{result-some}
use Rattle.cf_stages.proofs.Neighbours.{falls-low, falls-within}
use Rattle.cf_stages.proofs.Parts.{stage-high}
use Rattle.cf_core.specs.Falling.{BarNoLaunch}
use Rattle.cf_core.specs.Marks.{row_allows}
use Rattle.cf_core.specs.Masks.{masks_of}
use Rattle.cf_core.specs.declared.masks.Masks.{Masks}
use Rattle.cf_core.proofs.FallMarks.{falls-row}
use Rattle.cf_index.specs.Allowed.{word_allowed}
use Rattle.cf_index.specs.Left.{AreLeft, IsLowest}
use Rattle.cf_index.specs.Listed.{at_word}
use Rattle.cf_index.specs.PickedFrom.{from_meet, left_then}
use Rattle.cf_index.specs.Words.{goes_on}
use Rattle.cf_index.proofs.LeftStages.{first_lowest, left_gone}
use Rattle.cf_index.proofs.Places.{places_zero}
use Rattle.cf_index.proofs.Rows.{allowed-has, going_free, launch-stages, packet-has, word-has}

-- Where a result can fall --

-- only from a stage that is there
there : (cells : List Cell) (n k : ℕ) (b : Bool) → length cells ≡ n → (nat_lt k n && (falls cells (k + 1) && b)) ≡ (falls cells (k + 1) && b)
there cells n k b same = by (falls cells (k + 1)) refl
  where
    by : (f : Bool) → falls cells (k + 1) ≡ f → (nat_lt k n && (f && b)) ≡ (f && b)
    by true e =
        let within = falls-within cells (k + 1) e in
        let low : nat_lt k n ≡ true = grind (arith, nat_tests) in
        rw low refl
    by false e = and-false (nat_lt k n)

pub allowed-falls : (plan : Plan) (s : State) (k : ℕ) → goes_on s ≡ true → length s.cells ≡ plan.stages →
    has_bit (word_allowed plan s Fall) k ≡ falls s.cells (k + 1)
allowed-falls plan s k on same =
    allowed-has plan s Fall k
    ∙ ap (λ (b : Bool). nat_lt k plan.stages && b) (going_free plan s (Fall (k + 1)) on ∙ falls-row plan s (k + 1) ∙ sym (and-true (falls s.cells (k + 1))))
    ∙ there s.cells plan.stages k true same ∙ and-true (falls s.cells (k + 1))

pub left-falls : (plan : Plan) (s : State) (a w : ℕ) → goes_on s ≡ true → length s.cells ≡ plan.stages → AreLeft plan s a Fall w →
    (k : ℕ) → has_bit w k ≡ (falls s.cells (k + 1) && nat_lt a (k + 1))
unfolding AreLeft
left-falls plan s a w on same left k = left k ∙ ap (λ (b : Bool). b && nat_lt a (k + 1)) (allowed-falls plan s k on same)

pub some-falls : (plan : Plan) (s : State) (a w : ℕ) → goes_on s ≡ true → length s.cells ≡ plan.stages → AreLeft plan s a Fall w → AreSomeFalls s.cells w
unfolding AreFalls
some-falls plan s a w on same left = (a, left-falls plan s a w on same left)

-- The first above a stage --

-- the Falls that are left above a stage, the first of which is that from stage i
pub record NextFall (plan : Plan) (s : State) (a i : ℕ) : Type 0 where
  pub word : ℕ
  pub left : AreLeft plan s a Fall word
  pub first : slice_get (left_then Fall word from_meet plan s) 0 ≡ Some (Fall i)

pub next-left : (plan : Plan) (s : State) (a i : ℕ) → goes_on s ≡ true → length s.cells ≡ plan.stages → plan.stages ≤ 32 → IsNextFall s.cells a i →
    NextFall plan s a i
unfolding AreLeft
next-left plan s a i on same few next = record {
  word = w;
  left = left;
  first = first_lowest Fall w i (from_meet plan s) (word-small test plan.stages few) least;
}
  where
    test : ℕ → Bool
    test j = falls s.cells j && nat_lt a j

    w : ℕ
    w = word_of test plan.stages

    has : (k : ℕ) → has_bit w k ≡ (falls s.cells (k + 1) && nat_lt a (k + 1))
    has k = word-has test plan.stages k ∙ there s.cells plan.stages k (nat_lt a (k + 1)) same

    left : (k : ℕ) → has_bit w k ≡ (has_bit (word_allowed plan s Fall) k && nat_lt a (k + 1))
    left k = has k ∙ sym (ap (λ (b : Bool). b && nat_lt a (k + 1)) (allowed-falls plan s k on same))

    low : 1 < i
    low = falls-low s.cells i next.free

    first : (k : ℕ) → k < i → (above : Bool) → nat_lt a k ≡ above → (falls s.cells k && above) ≡ false
    first k below true e = let off = next.first k (grind (arith, nat_tests)) below in rw off refl
    first k below false e = and-false (falls s.cells k)

    least : IsLowest w i
    least =
        let z : i - 1 + 1 ≡ i = omega (arith, low) in
        let free = next.free in
        let over = next.above in
        let past : nat_lt a i ≡ true = grind (arith, nat_tests) in
        record {
          numbered = omega (arith, low);
          here = rw z at (has (i - 1)) ∙ rw (free, past) refl;
          first = λ k below. has k ∙ first (k + 1) below (nat_lt a (k + 1)) refl;
        }

-- if none is left, the kinds after it have the first
pub no-falls : (kind : ℕ → Move) (ys : List Move) → at_word kind 0 ++ ys ≡ ys
no-falls kind ys = left_gone kind 0 ys (let e = places_zero 64 in rw e refl)

pub none-left : (plan : Plan) (s : State) (a : ℕ) → goes_on s ≡ true → length s.cells ≡ plan.stages →
    ((k : ℕ) → (falls s.cells k && nat_lt a k) ≡ false) → AreLeft plan s a Fall 0
unfolding AreLeft
none-left plan s a on same none k =
    no_bits k ∙ sym (ap (λ (b : Bool). b && nat_lt a (k + 1)) (allowed-falls plan s k on same) ∙ none (k + 1))

-- Launches that no Fall can bar --

pub quiet-falls : (plan : Plan) (s : State) (m : Masks) (w : ℕ) → goes_on s ≡ true → m ≡ masks_of plan s → length s.cells ≡ plan.stages →
    ((k : ℕ) → has_bit w k ≡ (has_bit m.launch k && has_bit m.packets (k + 1))) → w ≡ 0 → BarNoLaunch plan s
unfolding BarNoLaunch
quiet-falls plan s m w goes e same has is zero some = absurd (cc)
quiet-falls plan s m w goes e same has is (suc zero) some = refl
quiet-falls plan s m w goes e same has is (suc (suc k)) some =
    let z : suc (suc k) - 1 ≡ k + 1 = omega arith in
    let y : suc (suc k) ≡ k + 1 + 1 = omega arith in
    let flies : has_bit m.packets (k + 1) ≡ true = packet-has plan s m (k + 1) e same
    ∙ ap (λ (n : ℕ). on (cell_at s.cells n) false (λ c. is_some c.packet)) (sym y) ∙ result-some (cell_at s.cells (suc (suc k))) some in
    let none : (has_bit m.launch k && has_bit m.packets (k + 1)) ≡ false = sym (has k) ∙ ap (λ (v : ℕ). has_bit v k) is ∙ no_bits k in
    let off : has_bit m.launch k ≡ false = sym (and-true (has_bit m.launch k)) ∙ rw flies at none in
    let free = launch-stages plan s m e k ∙ ap (λ (b : Bool). nat_lt k plan.stages && b) (going_free plan s (Launch (k + 1)) goes) in
    rw z (inside (nat_lt k plan.stages) refl (sym free ∙ off))
  where
    inside : (b : Bool) → nat_lt k plan.stages ≡ b → (b && row_allows plan s (Launch (k + 1))) ≡ false → row_allows plan s (Launch (k + 1)) ≡ false
    inside true f off = off
    inside false f off = absurd (let high = stage_there (cell_at s.cells (suc (suc k))) refl some in grind (arith, nat_tests))
      where
        stage_there : (o : Option Cell) → cell_at s.cells (suc (suc k)) ≡ o → IsSome (on o None (λ c. c.packet)) → suc (suc k) ≤ plan.stages
        stage_there None g h = absurd (cc)
        stage_there (Some c) g h = let within = stage-high s.cells (suc (suc k)) c g in omega (arith, within, same)
