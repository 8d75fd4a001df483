-- A word without its lowest bit.
use Rattle.std.proofs.Common.{◌≡◌, ◌∙◌, refl, sym, ap, ℕ, zero, suc, ◌+◌, ◌-◌, ◌*◌, ◌/◌, ◌%◌, ◌^◌, ◌<◌, Bool, true, false, nat_lt, Some, arith}
use Rattle.std.specs.Prelude.{◌&&◌, not, slice_get}
use Rattle.std.specs.Int.{bit_at, trailing_zeros}
use Rattle.std.specs.Int.RustNames.{bit_and}
use Rattle.std.proofs.Math.Bool.{and-true}
use Rattle.std.proofs.lemmas.Bool.Decides.{nat_tests}
use Rattle.std.proofs.lemmas.Nat.{shr_split}
use Rattle.std.proofs.lemmas.Nat.Bits.{bit_at-trailing_zeros}
use mir.Syntax.{w64}
use Rattle.cf_layout.specs.Words.{has_bit}
use Rattle.cf_layout.proofs.Words.{no_bits}
use Rattle.cf_index.specs.Left.{IsLowest}
use Rattle.cf_index.specs.Places.{set_places}
use Rattle.cf_index.proofs.Places.{even_less, lowest, odd_less, places_zero}
use Rattle.cf_index.proofs.WordBits.{of_next, twice_bit}

-- the bits of twice a number
twice : (x k : ℕ) → has_bit (x * 2 ^ 1 + 0) k ≡ (nat_lt 0 k && has_bit x (k - 1))
unfolding has_bit
twice x k = let e : x * 2 ^ 1 + 0 ≡ x * 2 = omega arith in rw e (twice_bit x k)

-- the bits of half a number
half : (w k : ℕ) → has_bit (w / 2 ^ 1) k ≡ has_bit w (suc k)
half w k = let z : k + 1 ≡ suc k = omega arith in let e : w / 2 ^ 1 ≡ w / 2 = omega arith in rw (e, ← z) (of_next w k)

-- the lowest bit of a number is whether it is odd
odd_so : (w : ℕ) → has_bit w 0 ≡ true → w % 2 ^ 1 ≡ 1
unfolding has_bit
odd_so w e = grind (arith, nat_tests)

even_so : (w : ℕ) → has_bit w 0 ≡ false → w % 2 ^ 1 ≡ 0
unfolding has_bit
even_so w e = grind (arith, nat_tests)

some_bit : (w k : ℕ) → has_bit w k ≡ true → 0 < w
some_bit zero k e = absurd (let none = no_bits k in cc)
some_bit (suc w) k e = omega arith

-- without its lowest bit a number has the bits above that
cleared_odd : (w k : ℕ) → has_bit w 0 ≡ true → has_bit (bit_and w (w - 1)) k ≡ (has_bit w k && not (nat_lt k 1))
cleared_odd w k odd =
    let s : w / 2 ^ 1 * 2 ^ 1 + 1 ≡ w = omega (arith, shr_split w 1, odd_so w odd) in
    rw s at (ap (λ (x : ℕ). has_bit x k) (odd_less (w / 2 ^ 1))) ∙ twice (w / 2 ^ 1) k ∙ by k
  where
    by : (k : ℕ) → (nat_lt 0 k && has_bit (w / 2 ^ 1) (k - 1)) ≡ (has_bit w k && not (nat_lt k 1))
    by zero = rw odd refl
    by (suc k) =
        let z : suc k - 1 ≡ k = omega arith in
        let p : nat_lt 0 (suc k) ≡ true = grind (arith, nat_tests) in
        let q : nat_lt (suc k) 1 ≡ false = grind (arith, nat_tests) in
        rw (z, p, q, half w k) (sym (and-true (has_bit w (suc k))))

cleared_even : (m w k i : ℕ) → w ≡ suc m * 2 ^ 1 + 0 → has_bit w 0 ≡ false →
    ((j : ℕ) → has_bit (bit_and (suc m) (suc m - 1)) j ≡ (has_bit (suc m) j && not (nat_lt j i))) →
    has_bit (bit_and w (w - 1)) k ≡ (has_bit w k && not (nat_lt k (suc i)))
cleared_even m w k i e even rest =
    rw e (ap (λ (x : ℕ). has_bit x k) (even_less m) ∙ twice (bit_and (suc m) (suc m - 1)) k) ∙ by k
  where
    by : (k : ℕ) → (nat_lt 0 k && has_bit (bit_and (suc m) (suc m - 1)) (k - 1)) ≡ (has_bit w k && not (nat_lt k (suc i)))
    by zero = rw even refl
    by (suc k) =
        let z : suc k - 1 ≡ k = omega arith in
        let p : nat_lt 0 (suc k) ≡ true = grind (arith, nat_tests) in
        let q : nat_lt (suc k) (suc i) ≡ nat_lt k i = grind (arith, nat_tests) in
        let h : w / 2 ^ 1 ≡ suc m = omega (arith, e) in
        rw (z, p, q, rest k) (ap (λ (x : ℕ). has_bit x k && not (nat_lt k i)) (sym h) ∙ ap (λ (b : Bool). b && not (nat_lt k i)) (half w k))

cleared_step : (i w k : ℕ) → has_bit w (suc i) ≡ true → ((j : ℕ) → j < suc i → has_bit w j ≡ false) →
    ((m j : ℕ) → has_bit m i ≡ true → ((n : ℕ) → n < i → has_bit m n ≡ false) → has_bit (bit_and m (m - 1)) j ≡ (has_bit m j && not (nat_lt j (suc i)))) →
    has_bit (bit_and w (w - 1)) k ≡ (has_bit w k && not (nat_lt k (suc (suc i))))
cleared_step i w k here first rest = by (w / 2 ^ 1) refl
  where
    by : (m : ℕ) → w / 2 ^ 1 ≡ m → has_bit (bit_and w (w - 1)) k ≡ (has_bit w k && not (nat_lt k (suc (suc i))))
    by zero e = absurd (let some = some_bit (w / 2 ^ 1) i (half w i ∙ here) in omega (arith, e, some))
    by (suc m) e =
        let even = first 0 (omega arith) in
        let s : w ≡ suc m * 2 ^ 1 + 0 = omega (arith, shr_split w 1, even_so w even, e) in
        cleared_even m w k (suc i) s even (λ j. rest (suc m) j (ap (λ (x : ℕ). has_bit x i) (sym e) ∙ half w i ∙ here)
        (λ n below. ap (λ (x : ℕ). has_bit x n) (sym e) ∙ half w n ∙ first (suc n) (omega (arith, below))))

cleared_bits : (i w k : ℕ) → has_bit w i ≡ true → ((j : ℕ) → j < i → has_bit w j ≡ false) →
    has_bit (bit_and w (w - 1)) k ≡ (has_bit w k && not (nat_lt k (suc i)))
cleared_bits zero w k here first = cleared_odd w k here
cleared_bits (suc i) w k here first = cleared_step i w k here first (λ m j h f. cleared_bits i m j h f)

pub no_lowest : (w i k : ℕ) → w < 2 ^ 32 → IsLowest w i → has_bit (bit_and w ((w + (2 ^ 32 - 1)) % 2 ^ 32)) k ≡ (has_bit w k && not (nat_lt k i))
no_lowest w i k small lowest =
    let z : suc (i - 1) ≡ i = omega (arith, lowest.numbered) in
    let some : 0 < w = some_bit w (i - 1) lowest.here in
    let e : (w + (2 ^ 32 - 1)) % 2 ^ 32 ≡ w - 1 = omega (arith, some, small) in
    rw e (rw z at (cleared_bits (i - 1) w k lowest.here (λ j below. lowest.first j (omega (arith, below)))))

-- the lowest number of a word is its lowest stage
pub lowest_so : (w k : ℕ) → w < 2 ^ 32 → Some k ≡ slice_get (set_places 64 w) 0 → IsLowest w (k + 1)
unfolding has_bit
lowest_so zero k small e = absurd (let none = places_zero 64 in cc)
lowest_so (suc w) k small e = by k same
  where
    t : (trailing_zeros w64 (suc w) < 64) × (bit_at (suc w) (trailing_zeros w64 (suc w)) ≡ 1)
        × ((i : ℕ) → i < trailing_zeros w64 (suc w) → bit_at (suc w) i ≡ 0)
    t = bit_at-trailing_zeros w64 (suc w) (omega arith) (omega arith)

    same : k ≡ trailing_zeros w64 (suc w)
    same = let l = lowest (suc w) (omega arith) (omega arith) in cc

    set : (n : ℕ) → bit_at (suc w) n ≡ 1 → has_bit (suc w) n ≡ true
    set n f = rw f refl

    unset : (n : ℕ) → bit_at (suc w) n ≡ 0 → has_bit (suc w) n ≡ false
    unset n f = rw f refl

    by : (k : ℕ) → k ≡ trailing_zeros w64 (suc w) → IsLowest (suc w) (k + 1)
    by k f =
        let z : k + 1 - 1 ≡ k = omega arith in
        record {
          numbered = omega arith;
          here = rw (z, f) (set (trailing_zeros w64 (suc w)) t.1);
          first = λ j below. unset j (t.2 j (omega (arith, below, f)));
        }
