-- One more bit in a word.
use Rattle.std.proofs.Common.{◌≡◌, ◌≢◌, refl, ℕ, ◌*◌, ◌%◌, ◌^◌, ◌<◌, Bool, true, false, nat_eq, arith}
use Rattle.std.specs.Prelude.{◌&&◌, ◌||◌}
use Rattle.std.specs.Int.RustNames.{bit_or}
use Rattle.std.specs.Int.{Width}
use Rattle.std.specs.Int.Bits.{or_zero_r}
use Rattle.std.proofs.Math.Nat.{zero-mul, zero-mod}
use Rattle.std.proofs.Math.Bool.{and-false}
use Rattle.std.proofs.lemmas.Bool.Decides.{nat_tests}
use Rattle.std.proofs.lemmas.Nat.Bits.{bit_at_set_same, bit_at_set_other}
use mir.Syntax.{w64}
use mir.Val.{bits, bool_byte}
use Rattle.cf_layout.specs.Words.{has_bit}

-- the bit that is set, and the others
set_case : (v : Width) (w k i : ℕ) (same : Bool) → nat_eq i k ≡ same → k < bits v → has_bit (bit_or w (1 * 2 ^ k % 2 ^ bits v)) i
    ≡ ((same && true) || has_bit w i)
unfolding has_bit
set_case v w k i true e small = let at : i ≡ k = grind (arith, nat_tests) in rw at (let s = bit_at_set_same v w k small in rw s refl)
set_case v w k i false e small = let off : i ≢ k = grind (arith, nat_tests) in let s = bit_at_set_other v w k small i off in rw s refl

-- one more bit, or none
with_bit : (v : Width) (w k i : ℕ) (set : Bool) → k < bits v → has_bit (bit_or w (bool_byte set * 2 ^ k % 2 ^ bits v)) i ≡ ((nat_eq i k && set) || has_bit w i)
with_bit v w k i true small = set_case v w k i (nat_eq i k) refl small
with_bit v w k i false small = let e : 0 * 2 ^ k % 2 ^ bits v ≡ 0 = rw (zero-mul (2 ^ k), zero-mod (2 ^ bits v)) refl in
    rw (e, or_zero_r w, and-false (nat_eq i k)) refl

pub with_bit_64 : (w k i : ℕ) (set : Bool) → k < 64 → has_bit (bit_or w (bool_byte set * 2 ^ k % 2 ^ 64)) i ≡ ((nat_eq i k && set) || has_bit w i)
with_bit_64 w k i set small = with_bit w64 w k i set small
