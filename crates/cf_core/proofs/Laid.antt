-- A word in which the bit of a stage is cleared first, and then laid over it.
use Rattle.std.proofs.Common.{◌≡◌, ◌≢◌, ◌∙◌, ℕ, ◌*◌, ◌%◌, ◌^◌, ◌<◌, Bool, true, false, refl, sym, arith}
use Rattle.std.specs.Prelude.{nat_eq}
use Rattle.std.specs.Int.{bit_not, from_bool, w32}
use Rattle.std.specs.Int.Bits.{or_zero_r}
use Rattle.std.specs.Int.RustNames.{bit_and, bit_or}
use Rattle.std.proofs.Math.Nat.{zero-mul}
use Rattle.std.proofs.lemmas.Bool.Decides.{nat_tests}
use Rattle.std.proofs.lemmas.Nat.{one_shl}
use Rattle.cf_layout.specs.Words.{has_bit}
use Rattle.cf_stages.specs.Words.{with_bit}
use Rattle.cf_stages.proofs.Bits.{bit-other, bit-same, same-words, with_bit-lt}

-- a bit is set or not, whatever it was before
put_again : (w k : ℕ) → k < 32 → w < 2 ^ 32 → with_bit (with_bit w k false) k true ≡ with_bit w k true
put_again w k small less = same-words (with_bit (with_bit w k false) k true) (with_bit w k true)
    (with_bit-lt (with_bit w k false) k true small (with_bit-lt w k false small less)) (with_bit-lt w k true small less)
    (λ j below. bit j (nat_eq j k) refl below)
  where
    bit : (j : ℕ) (here : Bool) → nat_eq j k ≡ here → j < 32 → has_bit (with_bit (with_bit w k false) k true) j ≡ has_bit (with_bit w k true) j
    bit j true e below =
        let at : j ≡ k = grind (arith, nat_tests) in
        rw at (bit-same (with_bit w k false) k true small ∙ sym (bit-same w k true small))
    bit j false e below =
        let off : j ≢ k = grind (arith, nat_tests) in
        bit-other (with_bit w k false) k j true small below off ∙ bit-other w k j false small below off ∙ sym (bit-other w k j true small below off)

-- as it is computed
by_flag : (w k : ℕ) (b : Bool) → k < 32 → w < 2 ^ 32 →
    bit_or (bit_and w (bit_not w32 (1 * 2 ^ k % 2 ^ 32))) (from_bool b * 2 ^ k % 2 ^ 32) ≡ with_bit w k b
unfolding with_bit
by_flag w k true small less = rw (one_shl k 32 small) (put_again w k small less)
by_flag w k false small less =
    let none : 0 * 2 ^ k % 2 ^ 32 ≡ 0 = rw (zero-mul (2 ^ k)) refl in
    rw (one_shl k 32 small, none) (or_zero_r (bit_and w (bit_not w32 (2 ^ k))))

pub laid : (w k f : ℕ) (b : Bool) → k < 32 → w < 2 ^ 32 → f ≡ from_bool b →
    bit_or (bit_and w (bit_not w32 (1 * 2 ^ k % 2 ^ 32))) (f * 2 ^ k % 2 ^ 32) ≡ with_bit w k b
laid w k f b small less is = rw is (by_flag w k b small less)

pub ruleset laying = (laid)
