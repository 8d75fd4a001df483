-- A word by its bits, and with one bit changed.
use Rattle.std.proofs.Common.{◌≡◌, ◌≢◌, ◌∙◌, ℕ, zero, suc, ◌+◌, ◌-◌, ◌*◌, ◌%◌, ◌^◌, ◌<◌, ◌≤◌, inl, inr, Bool, true, false, refl, sym, ap, arith}
use Rattle.std.specs.Prelude.{nat_eq, nat_lt}
use Rattle.std.specs.Int.{bit_at, bit_not, w32}
use Rattle.std.proofs.lemmas.Bool.Decides.{nat_tests}
use Rattle.std.proofs.lemmas.Nat.{one_shl, or_lt, and_le_l}
use Rattle.std.proofs.Math.Pow.{pow-lt}
use Rattle.std.proofs.Math.Nat.{eq-or-lt_of_le, pow-le-pow_right}
use Rattle.std.proofs.lemmas.Nat.Bits.{bit_at-lt, bit_at_set_same, bit_at_set_other, bit_at_clear_same, bit_at_clear_other, bit_at_cat_low, bit_at_cat_high, bit_at_above, same_from_bits_below}
use Rattle.cf_layout.specs.Words.{has_bit}
use Rattle.cf_stages.specs.Words.{flag, word_of, with_bit}

-- the bit that is changed
pub bit-same : (w k : ℕ) (b : Bool) → k < 32 → has_bit (with_bit w k b) k ≡ b
unfolding has_bit with_bit
bit-same w k true small = let s = rw (one_shl k 32 small) at (bit_at_set_same w32 w k small) in rw s refl
bit-same w k false small = let s = rw (one_shl k 32 small) at (bit_at_clear_same w32 w k small) in rw s refl

-- any other bit
pub bit-other : (w k i : ℕ) (b : Bool) → k < 32 → i < 32 → i ≢ k → has_bit (with_bit w k b) i ≡ has_bit w i
unfolding has_bit with_bit
bit-other w k i true small below other = let s = rw (one_shl k 32 small) at (bit_at_set_other w32 w k small i other) in rw s refl
bit-other w k i false small below other = let s = rw (one_shl k 32 small) at (bit_at_clear_other w32 w k small i below other) in rw s refl

-- it is still a word
pub with_bit-lt : (w k : ℕ) (b : Bool) → k < 32 → w < 2 ^ 32 → with_bit w k b < 2 ^ 32
unfolding with_bit
with_bit-lt w k true small less = or_lt 32 w (2 ^ k) less (pow-lt small)
with_bit-lt w k false small less = let e = and_le_l w (bit_not w32 (2 ^ k)) in omega arith

-- no bit is set beyond the stages
pub word-lt : (test : ℕ → Bool) (n : ℕ) → word_of test n < 2 ^ n
unfolding word_of
word-lt test zero = omega arith
word-lt test (suc n) = more (test (suc n)) n (word_of test n) (word-lt test n)
  where
    more : (b : Bool) (n w : ℕ) → w < 2 ^ n → flag b * 2 ^ n + w < 2 ^ suc n
    more true n w h = omega arith
    more false n w h = omega arith

-- the bit of a stage is the result of its test
pub word-bit : (test : ℕ → Bool) (n k : ℕ) → k < n → has_bit (word_of test n) k ≡ test (suc k)
unfolding word_of has_bit
word-bit test zero k h = absurd (omega arith)
word-bit test (suc n) k h = elim (eq-or-lt_of_le {n = k} {m = n} (omega arith)) [
  | inl at ↦ rw at (top (test (suc n)) n (word_of test n) (word-lt test n))
  | inr below ↦ ap (λ (b : ℕ). nat_eq b 1) (bit_at_cat_low (flag (test (suc n))) n (word_of test n) k below) ∙ word-bit test n k below
]
  where
    top : (b : Bool) (n w : ℕ) → w < 2 ^ n → nat_eq (bit_at (flag b * 2 ^ n + w) n) 1 ≡ b
    top true n w h = let e : n - n ≡ 0 = omega arith in let c = rw e at (bit_at_cat_high 1 n w n h (omega arith)) in rw c refl
    top false n w h = let e : n - n ≡ 0 = omega arith in let c = rw e at (bit_at_cat_high 0 n w n h (omega arith)) in rw c refl

pub word-bit-above : (test : ℕ → Bool) (n k : ℕ) → n ≤ k → has_bit (word_of test n) k ≡ false
unfolding has_bit
word-bit-above test n k h = let e = bit_at_above (word_of test n) n k (word-lt test n) h in rw e refl

-- two words with the same bits are the same
same_bit : (a b k : ℕ) → has_bit a k ≡ has_bit b k → bit_at a k ≡ bit_at b k
unfolding has_bit
same_bit a b k e = let g = bit_at-lt a k in let h = bit_at-lt b k in grind (arith, nat_tests)

pub same-words : (a b : ℕ) → a < 2 ^ 32 → b < 2 ^ 32 → ((k : ℕ) → k < 32 → has_bit a k ≡ has_bit b k) → a ≡ b
same-words a b small less same = same_from_bits_below 32 a b small less (λ k below. same_bit a b k (same k below))

pub word-small : (test : ℕ → Bool) (n : ℕ) → n ≤ 32 → word_of test n < 2 ^ 32
word-small test n h = let e = word-lt test n in let f : 2 ^ n ≤ 2 ^ 32 = pow-le-pow_right (omega arith) h in omega arith

-- tests that agree give one word
pub word-agrees : (test other : ℕ → Bool) (n : ℕ) → ((i : ℕ) → 0 < i → i ≤ n → test i ≡ other i) → word_of test n ≡ word_of other n
unfolding word_of
word-agrees test other zero same = refl
word-agrees test other (suc n) same = rw (same (suc n) (omega arith) (omega arith), word-agrees test other n (λ i low high. same i low (omega arith))) refl

-- tests that agree except at one stage give words that differ only in its bit
pub word-with-bit : (test other : ℕ → Bool) (n k : ℕ) → n ≤ 32 → k < n → ((i : ℕ) → i ≢ suc k → other i ≡ test i) →
    word_of other n ≡ with_bit (word_of test n) k (other (suc k))
word-with-bit test other n k few within same =
    same-words (word_of other n) (with_bit (word_of test n) k (other (suc k))) (word-small other n few)
    (with_bit-lt (word_of test n) k (other (suc k)) (omega arith) (word-small test n few)) bits
  where
    bit : (j : ℕ) (here inner : Bool) → nat_eq j k ≡ here → nat_lt j n ≡ inner → j < 32 → has_bit (word_of other n) j
        ≡ has_bit (with_bit (word_of test n) k (other (suc k))) j
    bit j true inner e f below =
        let at : j ≡ k = grind (arith, nat_tests) in
        rw at (word-bit other n k within ∙ sym (bit-same (word_of test n) k (other (suc k)) (omega arith)))
    bit j false true e f below =
        let off : j ≢ k = grind (arith, nat_tests) in
        let inside : j < n = grind (arith, nat_tests) in
        word-bit other n j inside ∙ same (suc j) (λ g. off (omega arith)) ∙ sym (word-bit test n j inside)
        ∙ sym (bit-other (word_of test n) k j (other (suc k)) (omega arith) below off)
    bit j false false e f below =
        let off : j ≢ k = grind (arith, nat_tests) in
        let outside : n ≤ j = grind (arith, nat_tests) in
        word-bit-above other n j outside ∙ sym (word-bit-above test n j outside) ∙ sym (bit-other (word_of test n) k j (other (suc k)) (omega arith) below off)

    bits : (j : ℕ) → j < 32 → has_bit (word_of other n) j ≡ has_bit (with_bit (word_of test n) k (other (suc k))) j
    bits j below = bit j (nat_eq j k) (nat_lt j n) refl refl below

-- the bit of a stage, as it is computed
pub one-bit : (k : ℕ) → k < 32 → 1 * 2 ^ k % 2 ^ 32 ≡ 2 ^ k
one-bit k small = one_shl k 32 small

pub ruleset putting = (one-bit)
