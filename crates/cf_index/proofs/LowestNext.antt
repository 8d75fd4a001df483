-- A word with the stage above its lowest one instead of that one.
use Rattle.std.proofs.Common.{◌≡◌, refl, ℕ, ◌-◌, ◌<◌, ◌^◌, Bool, true, false, nat_eq, nat_lt, arith}
use Rattle.std.specs.Prelude.{◌&&◌, ◌||◌, not}
use Rattle.std.proofs.lemmas.Bool.Decides.{nat_tests}
use Rattle.cf_layout.specs.Words.{has_bit}
use Rattle.cf_index.specs.Left.{IsLowest}
use Rattle.cf_index.proofs.WordBits.{no_high}

-- the lowest stage alone
only_lowest : (w i k : ℕ) → IsLowest w i → (has_bit w k && not (has_bit w k && not (nat_lt k i))) ≡ nat_eq k (i - 1)
only_lowest w i k lowest = by (nat_eq k (i - 1)) (nat_lt k i) refl refl
  where
    none : (b : Bool) → (b && not (b && true)) ≡ false
    none b = grind arith

    by : (same within : Bool) → nat_eq k (i - 1) ≡ same → nat_lt k i ≡ within → (has_bit w k && not (has_bit w k && not (nat_lt k i))) ≡ nat_eq k (i - 1)
    by true true e f =
        let at : k ≡ i - 1 = grind (arith, nat_tests) in
        rw (f, e, at, lowest.here) refl
    by true false e f = absurd (let some = lowest.numbered in grind (arith, nat_tests))
    by false true e f =
        let off : has_bit w k ≡ false = lowest.first k (let some = lowest.numbered in grind (arith, nat_tests)) in
        rw (off, e) refl
    by false false e f = rw (f, e) (none (has_bit w k))

-- shifted up, as far as the other word has it
pub next_tests : (w v i k : ℕ) → v < 2 ^ 32 → IsLowest w i →
    ((has_bit w k && not (nat_lt k i)) || ((nat_lt k 32 && (nat_lt 0 k && (has_bit w (k - 1) && not (has_bit w (k - 1) && not (nat_lt (k - 1) i)))))
    && has_bit v k)) ≡ ((has_bit w k && not (nat_lt k i)) || (nat_eq k i && has_bit v k))
next_tests w v i k small lowest = rw (only_lowest w i (k - 1) lowest) (by (nat_lt k 32) refl)
  where
    shifted : (nat_lt 0 k && nat_eq (k - 1) (i - 1)) ≡ nat_eq k i
    shifted = let some = lowest.numbered in grind (arith, nat_tests)

    off : (a b c : Bool) → (a || ((false && b) && false)) ≡ (a || (c && false))
    off a b c = grind arith

    by : (low : Bool) → nat_lt k 32 ≡ low →
        ((has_bit w k && not (nat_lt k i)) || ((nat_lt k 32 && (nat_lt 0 k && nat_eq (k - 1) (i - 1))) && has_bit v k))
        ≡ ((has_bit w k && not (nat_lt k i)) || (nat_eq k i && has_bit v k))
    by true e = rw (e, shifted) refl
    by false e = rw (e, no_high v k small e) (off (has_bit w k && not (nat_lt k i)) (nat_lt 0 k && nat_eq (k - 1) (i - 1)) (nat_eq k i))
