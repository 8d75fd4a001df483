-- The words of all stages once what holds of two of them has changed.
use Rattle.std.proofs.Common.{◌≡◌, ◌≢◌, ◌∙◌, ℕ, zero, suc, ◌-◌, ◌^◌, ◌<◌, ◌≤◌, Bool, true, false, refl, sym, ap, arith}
use Rattle.std.specs.Int.{bit_not, w32}
use Rattle.std.specs.Int.RustNames.{bit_and, bit_or}
use Rattle.std.proofs.lemmas.Nat.Bits.{bit_at_and, bit_at_or, same_from_bits}
use Rattle.std.specs.Prelude.{nat_eq, if◌then◌else◌}
use Rattle.std.proofs.lemmas.Bool.Decides.{nat_tests}
use Rattle.cf_layout.specs.Layout.{Plan}
use Rattle.cf_semantics.specs.state.State.{State}
use Rattle.cf_stages.specs.Words.{with_bit, word_of}
use Rattle.cf_stages.proofs.Bits.{word-with-bit}
use Rattle.cf_core.specs.declared.marks.StageMark.{StageMark}
use Rattle.cf_core.specs.Marks.{mark_at, marked, marks_of, remarked}
use Rattle.cf_core.specs.declared.marks.Marks.{Marks}
use Rattle.cf_core.specs.declared.touching.Touched.{Touched}

-- a test that differs at one stage
pub word_at : (test other : ℕ → Bool) (n i : ℕ) → n ≤ 32 → 0 < i → i ≤ n → ((k : ℕ) → k ≢ i → other k ≡ test k) →
    word_of other n ≡ with_bit (word_of test n) (i - 1) (other i)
word_at test other n zero few low within same = absurd (omega arith)
word_at test other n (suc k) few low within same =
    let z : suc k - 1 ≡ k = omega arith in
    rw z (word-with-bit test other n k few (omega arith) same)

-- a test that is changed at one stage first
between : (ℕ → Bool) → (ℕ → Bool) → ℕ → ℕ → Bool
between test other i k = if nat_eq k i then other k else test k

between_same : (test other : ℕ → Bool) (i k : ℕ) (b : Bool) → nat_eq k i ≡ b → k ≢ i → between test other i k ≡ test k
unfolding between
between_same test other i k true e off = let at : k ≡ i = grind (arith, nat_tests) in absurd (off at)
between_same test other i k false e off = rw e refl

between_here : (test other : ℕ → Bool) (i : ℕ) (b : Bool) → nat_eq i i ≡ b → between test other i i ≡ other i
unfolding between
between_here test other i true e = rw e refl
between_here test other i false e = let off : i ≢ i = grind (arith, nat_tests) in absurd (off refl)

between_rest : (test other : ℕ → Bool) (i j : ℕ) → ((k : ℕ) → k ≢ i → k ≢ j → other k ≡ test k) → (k : ℕ) (b : Bool) → nat_eq k i ≡ b → k ≢ j →
    other k ≡ between test other i k
unfolding between
between_rest test other i j same k true e off = rw e refl
between_rest test other i j same k false e off = let far : k ≢ i = grind (arith, nat_tests) in rw e (same k far off)

-- a test that differs at two stages
pub word-two : (test other : ℕ → Bool) (n i j : ℕ) → n ≤ 32 → 0 < i → i ≤ n → 0 < j → j ≤ n → ((k : ℕ) → k ≢ i → k ≢ j → other k ≡ test k) →
    word_of other n ≡ with_bit (with_bit (word_of test n) (i - 1) (other i)) (j - 1) (other j)
word-two test other n i j few low within low2 within2 same =
    let first = word_at test (between test other i) n i few low within (λ k off. between_same test other i k (nat_eq k i) refl off) in
    let here = between_here test other i (nat_eq i i) refl in
    word_at (between test other i) other n j few low2 within2 (λ k off. between_rest test other i j same k (nat_eq k i) refl off)
    ∙ ap (λ (w : ℕ). with_bit w (j - 1) (other j)) (first ∙ ap (with_bit (word_of test n) (i - 1)) here)

-- the same holds of every stage but two
abbrev pub SameBut : Plan → State → State → ℕ → ℕ → Type 0
SameBut plan s t i j = (k : ℕ) → k ≢ i → k ≢ j → mark_at plan t k ≡ mark_at plan s k

-- so the words have the new bits of the two
pub marks-two : (plan : Plan) (s t : State) (i j : ℕ) → plan.stages ≤ 32 → 0 < i → i ≤ plan.stages → 0 < j → j ≤ plan.stages → SameBut plan s t i j →
    marks_of plan t ≡ marked (marked (marks_of plan s) i (mark_at plan t i)) j (mark_at plan t j)
unfolding marks_of
marks-two plan s t i j few low within low2 within2 same =
    let two = λ (field : StageMark → Bool). word-two (λ k. field (mark_at plan s k)) (λ k. field (mark_at plan t k)) plan.stages i j few low within low2 within2
    (λ k a b. ap field (same k a b)) in
    let owes = two (λ m. m.owes) in
    let stops = two (λ m. m.stops) in
    let execute = two (λ m. m.execute) in
    let launch = two (λ m. m.launch) in
    let recover = two (λ m. m.recover) in
    λ x. record { owes = owes x; stops = stops x; execute = execute x; launch = launch x; recover = recover x }

-- a bit that is set twice
with-bit-twice : (w k : ℕ) (b : Bool) → with_bit (with_bit w k b) k b ≡ with_bit w k b
unfolding with_bit
with-bit-twice w k true = same_from_bits _ _ (λ i. rw (bit_at_or (bit_or w (2 ^ k)) (2 ^ k) i, bit_at_or w (2 ^ k) i) (omega arith))
with-bit-twice w k false =
    same_from_bits _ _ (λ i. rw (bit_at_and (bit_and w (bit_not w32 (2 ^ k))) (bit_not w32 (2 ^ k)) i, bit_at_and w (bit_not w32 (2 ^ k)) i) (omega arith))

-- two bits are cleared in either order
pub clears-commute : (w j k : ℕ) → with_bit (with_bit w j false) k false ≡ with_bit (with_bit w k false) j false
unfolding with_bit
clears-commute w j k = same_from_bits _ _ (λ i. rw (
  bit_at_and (bit_and w (bit_not w32 (2 ^ j))) (bit_not w32 (2 ^ k)) i,
  bit_at_and w (bit_not w32 (2 ^ j)) i,
  bit_at_and (bit_and w (bit_not w32 (2 ^ k))) (bit_not w32 (2 ^ j)) i,
  bit_at_and w (bit_not w32 (2 ^ k)) i,
) (omega arith))

pub marked-once : (plan : Plan) (s : State) (marks : Marks) (t : Touched) → t.low ≡ t.high → marked marks t.low (mark_at plan s t.low) ≡ remarked plan s marks t
marked-once plan s marks t same =
    let m = mark_at plan s t.low in
    let once = λ (w : ℕ) (b : Bool). sym (with-bit-twice w (t.low - 1) b) in
    let owes = once marks.owes m.owes in
    let stops = once marks.stops m.stops in
    let execute = once marks.execute m.execute in
    let launch = once marks.launch m.launch in
    let recover = once marks.recover m.recover in
    let twice : marked marks t.low m ≡ marked (marked marks t.low m) t.low m = λ x. record
    { owes = owes x; stops = stops x; execute = execute x; launch = launch x; recover = recover x } in
    twice ∙ ap (λ (i : ℕ). marked (marked marks t.low m) i (mark_at plan s i)) same

pub ruleset marked_once = (marked-once)
