-- The bits of a word of 64 bits, and of one in which a bit is changed.
use Rattle.std.proofs.Common.{◌≡◌, ◌≢◌, ◌∙◌, ℕ, ◌-◌, ◌*◌, ◌%◌, ◌^◌, ◌<◌, ◌≤◌, Bool, true, false, nat_eq, nat_lt, min, refl, ap, arith}
use Rattle.std.specs.Prelude.{◌&&◌, not, if◌then◌else◌}
use Rattle.std.specs.Int.{bit_at, bit_not, w64}
use Rattle.std.specs.Int.RustNames.{bit_and, bit_or}
use Rattle.std.proofs.lemmas.Bool.Decides.{nat_tests}
use Rattle.std.proofs.lemmas.Nat.Bits.{bit_at-lt, bit_at_above, bit_at_and, bit_at_not, bit_at_set_same, bit_at_set_other, bit_at_clear_same, bit_at_clear_other}
use Rattle.cf_layout.specs.Words.{has_bit}

-- the bits that both words have
and_bit : (a b : ℕ) → a < 2 → b < 2 → nat_eq (min a b) 1 ≡ (nat_eq a 1 && nat_eq b 1)
and_bit a b h g = grind (arith, nat_tests)

pub of_both : (w v k : ℕ) → has_bit (bit_and w v) k ≡ (has_bit w k && has_bit v k)
unfolding has_bit
of_both w v k = ap (λ (b : ℕ). nat_eq b 1) (bit_at_and w v k) ∙ and_bit (bit_at w k) (bit_at v k) (bit_at-lt w k) (bit_at-lt v k)

-- no bit is set from 64 on
pub high_bit : (w k : ℕ) → w < 2 ^ 64 → 64 ≤ k → has_bit w k ≡ false
unfolding has_bit
high_bit w k small high = ap (λ (b : ℕ). nat_eq b 1) (bit_at_above w 64 k small high)

-- the bits that a word does not have
not_bit : (a : ℕ) → a < 2 → nat_eq (1 - a) 1 ≡ not (nat_eq a 1)
not_bit a h = grind (arith, nat_tests)

pub other_bit : (v k : ℕ) → v < 2 ^ 64 → k < 64 → has_bit (bit_not w64 v) k ≡ not (has_bit v k)
unfolding has_bit
other_bit v k small below = ap (λ (b : ℕ). nat_eq b 1) (bit_at_not w64 v k small below) ∙ not_bit (bit_at v k) (bit_at-lt v k)

-- one bit is set
set_case : (w k j : ℕ) (same : Bool) → nat_eq j k ≡ same → k < 64 → has_bit (bit_or w (1 * 2 ^ k % 2 ^ 64)) j ≡ (if same then true else has_bit w j)
unfolding has_bit
set_case w k j true e small = let at : j ≡ k = grind (arith, nat_tests) in rw at (let s = bit_at_set_same w64 w k small in rw s refl)
set_case w k j false e small = let off : j ≢ k = grind (arith, nat_tests) in let s = bit_at_set_other w64 w k small j off in rw s refl

pub bit_set : (w k j : ℕ) → k < 64 → has_bit (bit_or w (1 * 2 ^ k % 2 ^ 64)) j ≡ (if nat_eq j k then true else has_bit w j)
bit_set w k j small = set_case w k j (nat_eq j k) refl small

-- one bit is cleared
cleared : (w k : ℕ) → k < 64 → has_bit (bit_and w (bit_not w64 (1 * 2 ^ k % 2 ^ 64))) k ≡ false
unfolding has_bit
cleared w k small = let s = bit_at_clear_same w64 w k small in rw s refl

kept : (w k j : ℕ) → k < 64 → j < 64 → j ≢ k → has_bit (bit_and w (bit_not w64 (1 * 2 ^ k % 2 ^ 64))) j ≡ has_bit w j
unfolding has_bit
kept w k j small below off = let s = bit_at_clear_other w64 w k small j below off in rw s refl

clear_case : (w k j : ℕ) (same low : Bool) → nat_eq j k ≡ same → nat_lt j 64 ≡ low → k < 64 → w < 2 ^ 64 →
    has_bit (bit_and w (bit_not w64 (1 * 2 ^ k % 2 ^ 64))) j ≡ (if same then false else has_bit w j)
clear_case w k j true low e f small less = let at : j ≡ k = grind (arith, nat_tests) in rw at (cleared w k small)
clear_case w k j false true e f small less = kept w k j small (grind (arith, nat_tests)) (grind (arith, nat_tests))
clear_case w k j false false e f small less =
    let high : 64 ≤ j = grind (arith, nat_tests) in
    of_both w (bit_not w64 (1 * 2 ^ k % 2 ^ 64)) j ∙ rw (high_bit w j less high) refl

pub bit_cleared : (w k j : ℕ) → k < 64 → w < 2 ^ 64 → has_bit (bit_and w (bit_not w64 (1 * 2 ^ k % 2 ^ 64))) j ≡ (if nat_eq j k then false else has_bit w j)
bit_cleared w k j small less = clear_case w k j (nat_eq j k) (nat_lt j 64) refl refl small less

pub ruleset cell_bits = (bit_set, bit_cleared)
