-- The bits of words that are made from others.
use Rattle.std.proofs.Common.{◌≡◌, ◌∙◌, refl, sym, ap, ℕ, zero, suc, ◌+◌, ◌-◌, ◌*◌, ◌/◌, ◌%◌, ◌^◌, ◌<◌, ◌≤◌, Bool, true, false, nat_eq, nat_lt, max, min, arith}
use Rattle.std.specs.Prelude.{◌&&◌, ◌||◌, not}
use Rattle.std.specs.Int.{bit_at, bit_not, w32}
use Rattle.std.specs.Int.RustNames.{bit_and, bit_or}
use Rattle.std.proofs.lemmas.Bool.Decides.{nat_tests}
use Rattle.std.proofs.Math.Nat.{pow-le-pow_right}
use Rattle.std.proofs.lemmas.Nat.{one_shl, pow_pos}
use Rattle.std.proofs.lemmas.Nat.Bits.{bit_at-lt, bit_at-suc, bit_at_above, bit_at_and, bit_at_cat_low, bit_at_lowest, bit_at_not, bit_at_ones, bit_at_ones_above, bit_at_or}
use Rattle.cf_layout.specs.Words.{has_bit}

-- the bits that both words have
and_bit : (a b : ℕ) → a < 2 → b < 2 → nat_eq (min a b) 1 ≡ (nat_eq a 1 && nat_eq b 1)
and_bit a b h g = grind (arith, nat_tests)

pub of_both : (w v k : ℕ) → has_bit (bit_and w v) k ≡ (has_bit w k && has_bit v k)
unfolding has_bit
of_both w v k = ap (λ (b : ℕ). nat_eq b 1) (bit_at_and w v k) ∙ and_bit (bit_at w k) (bit_at v k) (bit_at-lt w k) (bit_at-lt v k)

-- the bits that either word has
or_bit : (a b : ℕ) → a < 2 → b < 2 → nat_eq (max a b) 1 ≡ (nat_eq a 1 || nat_eq b 1)
or_bit a b h g = grind (arith, nat_tests)

pub of_either : (w v k : ℕ) → has_bit (bit_or w v) k ≡ (has_bit w k || has_bit v k)
unfolding has_bit
of_either w v k = ap (λ (b : ℕ). nat_eq b 1) (bit_at_or w v k) ∙ or_bit (bit_at w k) (bit_at v k) (bit_at-lt w k) (bit_at-lt v k)

-- a bit from 32 on
high_bit : (w k : ℕ) → w < 2 ^ 32 → 32 ≤ k → has_bit w k ≡ false
unfolding has_bit
high_bit w k small high = ap (λ (b : ℕ). nat_eq b 1) (bit_at_above w 32 k small high)

not_bit : (a : ℕ) → a < 2 → nat_eq (1 - a) 1 ≡ not (nat_eq a 1)
not_bit a h = grind (arith, nat_tests)

other_bit : (v k : ℕ) → v < 2 ^ 32 → k < 32 → has_bit (bit_not w32 v) k ≡ not (has_bit v k)
unfolding has_bit
other_bit v k small below = ap (λ (b : ℕ). nat_eq b 1) (bit_at_not w32 v k small below) ∙ not_bit (bit_at v k) (bit_at-lt v k)

-- the bits of one word that the other does not have
without_case : (w v k : ℕ) (low : Bool) → nat_lt k 32 ≡ low → w < 2 ^ 32 → v < 2 ^ 32 → has_bit (bit_and w (bit_not w32 v)) k
    ≡ (has_bit w k && not (has_bit v k))
without_case w v k true e small less = let below : k < 32 = grind (arith, nat_tests) in of_both w (bit_not w32 v) k ∙ rw (other_bit v k less below) refl
without_case w v k false e small less =
    let high : 32 ≤ k = grind (arith, nat_tests) in
    of_both w (bit_not w32 v) k ∙ rw (high_bit w k small high) refl

pub without_other : (w v k : ℕ) → w < 2 ^ 32 → v < 2 ^ 32 → has_bit (bit_and w (bit_not w32 v)) k ≡ (has_bit w k && not (has_bit v k))
without_other w v k small less = without_case w v k (nat_lt k 32) refl small less

-- after a shift down each bit is that of the next one
pub of_next : (w k : ℕ) → has_bit (w / 2) k ≡ has_bit w (k + 1)
unfolding has_bit
of_next w k = let z : k + 1 ≡ suc k = omega arith in rw z (ap (λ (b : ℕ). nat_eq b 1) (sym (bit_at-suc w k)))

-- after a shift up each bit is that of the one before
low_part : (x k : ℕ) → k < 32 → bit_at (x % 2 ^ 32) k ≡ bit_at x k
low_part x k below =
    let e : x / 2 ^ 32 * 2 ^ 32 + x % 2 ^ 32 ≡ x = omega arith in
    sym (bit_at_cat_low (x / 2 ^ 32) 32 (x % 2 ^ 32) k below) ∙ ap (λ (y : ℕ). bit_at y k) e

pub twice_bit : (w k : ℕ) → nat_eq (bit_at (w * 2) k) 1 ≡ (nat_lt 0 k && nat_eq (bit_at w (k - 1)) 1)
twice_bit w zero = let e : bit_at (w * 2) 0 ≡ 0 = bit_at_lowest (w * 2) ∙ omega arith in rw e refl
twice_bit w (suc k) =
    let e : w * 2 / 2 ≡ w = omega arith in
    let z : suc k - 1 ≡ k = omega arith in
    let p : nat_lt 0 (suc k) ≡ true = grind (arith, nat_tests) in
    rw (z, p) (ap (λ (b : ℕ). nat_eq b 1) (bit_at-suc (w * 2) k ∙ ap (λ (y : ℕ). bit_at y k) e))

last_case : (w k : ℕ) (low : Bool) → nat_lt k 32 ≡ low → has_bit (w * 2 % 2 ^ 32) k ≡ (low && (nat_lt 0 k && has_bit w (k - 1)))
unfolding has_bit
last_case w k true e = let below : k < 32 = grind (arith, nat_tests) in ap (λ (b : ℕ). nat_eq b 1) (low_part (w * 2) k below) ∙ twice_bit w k
last_case w k false e = let high : 32 ≤ k = grind (arith, nat_tests) in ap (λ (b : ℕ). nat_eq b 1) (bit_at_above (w * 2 % 2 ^ 32) 32 k (omega arith) high)

pub of_last : (w k : ℕ) → has_bit (w * 2 % 2 ^ 32) k ≡ (nat_lt k 32 && (nat_lt 0 k && has_bit w (k - 1)))
of_last w k = last_case w k (nat_lt k 32) refl

-- the lowest bits
low_case : (n k : ℕ) (low : Bool) → nat_lt k n ≡ low → has_bit (2 ^ n - 1) k ≡ low
unfolding has_bit
low_case n k true e = let below : k < n = grind (arith, nat_tests) in ap (λ (b : ℕ). nat_eq b 1) (bit_at_ones n k below)
low_case n k false e = let high : n ≤ k = grind (arith, nat_tests) in ap (λ (b : ℕ). nat_eq b 1) (bit_at_ones_above n k high)

pub of_low : (n k : ℕ) → n ≤ 32 → has_bit (1 * 2 ^ n % 2 ^ 64 - 1) k ≡ nat_lt k n
of_low n k small = rw (one_shl n 64 (omega arith)) (low_case n k (nat_lt k n) refl)

pub low_some : (n : ℕ) → n ≤ 32 → 1 ≤ 1 * 2 ^ n % 2 ^ 64
low_some n small = rw (one_shl n 64 (omega arith)) (omega (arith, pow_pos n))

pub low_small : (n : ℕ) → n ≤ 32 → 1 * 2 ^ n % 2 ^ 64 - 1 < 2 ^ 32
low_small n small =
    let few : 2 ^ n ≤ 2 ^ 32 = pow-le-pow_right (omega arith) small in
    rw (one_shl n 64 (omega arith)) (omega (arith, few))

pub ruleset of_lowest = (of_low, low_some, low_small)

-- no bit is set from 32 on
pub no_high : (w k : ℕ) → w < 2 ^ 32 → nat_lt k 32 ≡ false → has_bit w k ≡ false
no_high w k small e = high_bit w k small (grind (arith, nat_tests))

-- the tests of a climb and of a fall, in the order in which they are made
pub climb_tests : (k n : ℕ) (p f o q a : Bool) → 1 ≤ n → (((((p && not f) && not o) && not q) && not a) && nat_lt k (n - 1))
    ≡ (p && (not f && (not o && (not q && (not a && nat_lt (k + 1) n)))))
climb_tests k n p f o q a some =
    let e : nat_lt k (n - 1) ≡ nat_lt (k + 1) n = grind (arith, nat_tests) in
    rw e (nested p (not f) (not o) (not q) (not a) (nat_lt (k + 1) n))
  where
    nested : (p f o q a l : Bool) → (((((p && f) && o) && q) && a) && l) ≡ (p && (f && (o && (q && (a && l)))))
    nested p f o q a l = grind arith

pub fall_tests : (k : ℕ) (p f b : Bool) → (nat_lt k 32 ≡ false → (p && not f) ≡ false) → (((p && not f) && not (nat_lt k 32 && (nat_lt 0 k && b)))
    && not (nat_lt k 1)) ≡ (p && (not f && (nat_lt 0 k && not b)))
fall_tests k p f b high = by_height (nat_lt k 32) refl
  where
    tests : (p f z b : Bool) → (((p && not f) && not (true && (z && b))) && z) ≡ (p && (not f && (z && not b)))
    tests p f z b = grind arith

    nothing : (p f l : Bool) → (p && f) ≡ false → false ≡ (p && (f && l))
    nothing p f l none = grind arith

    by_height : (low : Bool) → nat_lt k 32 ≡ low → (((p && not f) && not (nat_lt k 32 && (nat_lt 0 k && b))) && not (nat_lt k 1))
        ≡ (p && (not f && (nat_lt 0 k && not b)))
    by_height true e = let z : not (nat_lt k 1) ≡ nat_lt 0 k = grind (arith, nat_tests) in rw (e, z) (tests p f (nat_lt 0 k) b)
    by_height false e = rw (high e) (nothing p (not f) (nat_lt 0 k && not b) (high e))

-- for bits from 32 on the bound does not matter
pub beyond_word : (w i k : ℕ) → w < 2 ^ 32 → (has_bit w k && not (nat_lt k (min i 32))) ≡ (has_bit w k && not (nat_lt k i))
beyond_word w i k small = by (nat_lt k 32) refl
  where
    by : (low : Bool) → nat_lt k 32 ≡ low → (has_bit w k && not (nat_lt k (min i 32))) ≡ (has_bit w k && not (nat_lt k i))
    by true e = let same : nat_lt k (min i 32) ≡ nat_lt k i = grind (arith, nat_tests) in rw same refl
    by false e = rw (no_high w k small e) refl
