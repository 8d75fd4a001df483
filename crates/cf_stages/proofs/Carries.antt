-- A word in which the flag of a stage goes to the one below: one subtraction, since nothing is borrowed from further up.
use Rattle.std.proofs.Common.{◌≡◌, ◌≢◌, ◌∙◌, ℕ, zero, suc, ◌+◌, ◌-◌, ◌*◌, ◌^◌, ◌<◌, ◌≤◌, Bool, true, false, refl, sym, ap, arith}
use Rattle.std.specs.Prelude.{nat_eq}
use Rattle.std.specs.Int.{bit_at}
use Rattle.std.proofs.Math.Nat.{zero-mul}
use Rattle.std.specs.Int.Bits.{or_add_and}
use Rattle.std.specs.Int.RustNames.{bit_and}
use Rattle.std.proofs.lemmas.Bool.Decides.{nat_tests}
use Rattle.std.proofs.lemmas.Nat.Bits.{bit_at-lt, and_pow}
use Rattle.cf_layout.specs.Words.{has_bit}
use Rattle.cf_stages.specs.Words.{with_bit}
use Rattle.cf_stages.proofs.Bits.{bit-other, bit-same, same-words, with_bit-lt}

-- a word in which the bit already has this value
pub bit-kept : (w k : ℕ) (b : Bool) → k < 32 → w < 2 ^ 32 → has_bit w k ≡ b → with_bit w k b ≡ w
bit-kept w k b small less is = same-words (with_bit w k b) w (with_bit-lt w k b small less) less (λ j below. bit j (nat_eq j k) refl below)
  where
    bit : (j : ℕ) (here : Bool) → nat_eq j k ≡ here → j < 32 → has_bit (with_bit w k b) j ≡ has_bit w j
    bit j true e below = let at : j ≡ k = grind (arith, nat_tests) in rw at (bit-same w k b small ∙ sym is)
    bit j false e below = let off : j ≢ k = grind (arith, nat_tests) in bit-other w k j b small below off

-- to set a bit that is not set adds it
no_bit : (w k : ℕ) → has_bit w k ≡ false → bit_at w k ≡ 0
unfolding has_bit
no_bit w k e = let g = bit_at-lt w k in grind (arith, nat_tests)

pub set-adds : (w k : ℕ) → has_bit w k ≡ false → with_bit w k true ≡ w + 2 ^ k
unfolding with_bit
set-adds w k e =
    let none : bit_and w (2 ^ k) ≡ 0 = and_pow w k ∙ ap (λ (b : ℕ). b * 2 ^ k) (no_bit w k e) ∙ zero-mul (2 ^ k) in
    let sum = or_add_and w (2 ^ k) in
    omega arith

-- to clear a bit that is set takes it away
pub clear-takes : (w k : ℕ) → k < 32 → w < 2 ^ 32 → has_bit w k ≡ true → with_bit w k false + 2 ^ k ≡ w
clear-takes w k small less is =
    let v = with_bit w k false in
    let clear = bit-same w k false small in
    sym (set-adds v k clear) ∙ back
  where
    back : with_bit (with_bit w k false) k true ≡ w
    back = same-words (with_bit (with_bit w k false) k true) w (with_bit-lt (with_bit w k false) k true small (with_bit-lt w k false small less)) less
        (λ j below. bit j (nat_eq j k) refl below)
      where
        bit : (j : ℕ) (here : Bool) → nat_eq j k ≡ here → j < 32 → has_bit (with_bit (with_bit w k false) k true) j ≡ has_bit w j
        bit j true e below = let at : j ≡ k = grind (arith, nat_tests) in rw at (bit-same (with_bit w k false) k true small ∙ sym is)
        bit j false e below =
            let off : j ≢ k = grind (arith, nat_tests) in
            bit-other (with_bit w k false) k j true small below off ∙ bit-other w k j false small below off

-- a flag goes to the next lower place
pub lowered-takes : (w k : ℕ) → 0 < k → k < 32 → w < 2 ^ 32 → has_bit w k ≡ true → has_bit w (k - 1) ≡ false →
    with_bit (with_bit w k false) (k - 1) true + 2 ^ (k - 1) ≡ w
lowered-takes w zero low small less set clear = absurd (omega arith)
lowered-takes w (suc j) low small less set clear =
    let v = with_bit w (suc j) false in
    let taken = clear-takes w (suc j) small less set in
    let off : j ≢ suc j = λ g. absurd (omega arith) in
    let z : suc j - 1 ≡ j = omega arith in
    let free = bit-other w (suc j) j false small (omega arith) off ∙ rw z at clear in
    let put = set-adds v j free in
    rw z (omega arith)

-- the same for stages
pub lowered-word : (w i : ℕ) → 1 < i → i ≤ 32 → w < 2 ^ 32 → has_bit w (i - 1) ≡ true → has_bit w (i - 2) ≡ false →
    with_bit (with_bit w (i - 1) false) (i - 2) true + 2 ^ (i - 2) ≡ w
lowered-word w zero low within less set clear = absurd (omega arith)
lowered-word w (suc zero) low within less set clear = absurd (omega arith)
lowered-word w (suc (suc j)) low within less set clear =
    let z : suc (suc j) - 1 ≡ suc j = omega arith in
    let y : suc (suc j) - 2 ≡ j = omega arith in
    let x : suc j - 1 ≡ j = omega arith in
    rw (z, y) (rw x at (lowered-takes w (suc j) (omega arith) (omega arith) less (rw z at set) (rw (y, sym x) at clear)))
