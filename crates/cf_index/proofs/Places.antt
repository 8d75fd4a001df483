-- The numbers of a word.
use Rattle.std.proofs.Common.{◌≡◌, ◌∙◌, sym, refl, ap, ℕ, zero, suc, ◌+◌, ◌-◌, ◌*◌, ◌/◌, ◌%◌, ◌^◌, ◌<◌, ◌≤◌, List, [], ◌∷◌, ◌++◌, length, drop, map, Bool, true, false, cond, nat_lt, Some, arith}
use Rattle.std.specs.Prelude.{filter, slice_get, not}
use Rattle.std.specs.Int.{trailing_zeros}
use Rattle.std.specs.Int.Bits.{and_self}
use Rattle.std.specs.Int.RustNames.{count_ones, bit_and}
use mir.Syntax.{w64}
use Rattle.cf_layout.proofs.Words.{no_bits}
use Rattle.std.proofs.lemmas.Nat.{ones_cat, shr_split, shr-shr, shr_below, and_block, and_mask, one_shl, mod_below, pow_pos}
use Rattle.std.proofs.lemmas.Nat.Bits.{bit_at_cat_low, bit_at-trailing_zeros}
use Rattle.std.proofs.lemmas.List.{length-append, length-map, append-nil, length-drop, drop-map}
use Rattle.std.proofs.lemmas.List.Elements.{filter-append}
use Rattle.std.proofs.lemmas.List.Filters.{length-filter_both}
use Rattle.cf_layout.specs.Words.{has_bit}
use Rattle.cf_semantics.specs.moves.Candidates.{counted_from}
use Rattle.cf_index.specs.Most.{most_of_kind}
use Rattle.cf_index.specs.Places.{set_places}
use Rattle.cf_index.proofs.Counted.{counted_split, filter_same, filter_none, filter_first, filter_shifted, filter_below, filter_above}

-- the low bits of a word are those of its remainder
has_low : (w a i : ℕ) → i < a → has_bit w i ≡ has_bit (w % 2 ^ a) i
unfolding has_bit
has_low w a i below = let e = bit_at_cat_low (w / 2 ^ a) a (w % 2 ^ a) i below in let s = shr_split w a in
    let h : w / 2 ^ i % 2 ≡ w % 2 ^ a / 2 ^ i % 2 = rw s at e in rw h refl

-- the high bits of a word are those of its quotient
has_high : (w a j : ℕ) → has_bit w (a + j) ≡ has_bit (w / 2 ^ a) j
unfolding has_bit
has_high w a j = rw (shr-shr w a j) refl

-- the numbers of a word are the low ones, followed by the high ones
pub places_split : (a b w : ℕ) → set_places (a + b) w ≡ set_places a (w % 2 ^ a) ++ map (λ j. a + j) (set_places b (w / 2 ^ a))
unfolding set_places
places_split a b w =
    let z : 0 + a ≡ a + 0 = omega arith in
    let low = filter_same (has_bit w) (has_bit (w % 2 ^ a)) 0 a (λ i from below. has_low w a i (omega arith)) in
    let high = filter_same (λ j. has_bit w (a + j)) (has_bit (w / 2 ^ a)) 0 b (λ j from below. has_high w a j) in
    rw (counted_split 0 a b, filter-append, low, z, filter_shifted (has_bit w) a 0 b, high) refl

-- a word of one bit
count_one : (r : ℕ) → r < 2 → count_ones r ≡ length (set_places 1 r)
unfolding set_places has_bit count_ones
count_one zero small = refl
count_one (suc zero) small = refl
count_one (suc (suc r)) small = absurd (omega arith)

-- no number is below 0
count_none : count_ones 0 ≡ 0
unfolding count_ones
count_none = refl

places_none : (w : ℕ) → length (set_places 0 w) ≡ 0
unfolding set_places
places_none w = refl

-- a word has as many numbers as bits that are set
pub count_places : (n w : ℕ) → w < 2 ^ n → count_ones w ≡ length (set_places n w)
count_places zero w small = let e : w ≡ 0 = omega arith in rw (e, count_none, places_none 0) refl
count_places (suc n) w small =
    let e : suc n ≡ 1 + n = omega arith in
    let h : w / 2 ^ 1 < 2 ^ n = shr_below w n 1 (let f : n + 1 ≡ suc n = omega arith in rw f small) in
    let r = count_places n (w / 2 ^ 1) h in
    let one : w % 2 ^ 1 < 2 = omega arith in
    let s = shr_split w 1 in
    let c = rw s at (ones_cat 1 (w / 2 ^ 1) (w % 2 ^ 1) (omega arith)) in
    rw (e, places_split 1 n w, length-append, length-map, ← r, ← count_one (w % 2 ^ 1) one) (omega (arith, c))

-- the word 0 has no number
pub places_zero : (n : ℕ) → set_places n 0 ≡ []
unfolding set_places has_bit
places_zero n = filter_none (has_bit 0) 0 n (λ i low high. no_bits i)

-- the lowest of the numbers
pub lowest : (w : ℕ) → 0 < w → w < 2 ^ 64 → slice_get (set_places 64 w) 0 ≡ Some (trailing_zeros w64 w)
unfolding set_places has_bit
lowest w some small =
    let t = bit_at-trailing_zeros w64 w some small in
    filter_first (has_bit w) 0 64 (trailing_zeros w64 w) (omega arith) (omega (arith, t.0)) (rw (t.1) refl) (λ i low high. rw (t.2 i high) refl)

-- a word without its lowest bit has the numbers after the lowest
pub odd_less : (m : ℕ) → bit_and (m * 2 ^ 1 + 1) (m * 2 ^ 1 + 1 - 1) ≡ m * 2 ^ 1 + 0
odd_less m = let e : m * 2 ^ 1 + 1 - 1 ≡ m * 2 ^ 1 + 0 = omega arith in rw (e, and_block 1 m m 1 0 (omega arith) (omega arith), and_self m) refl

pub even_less : (m : ℕ) → bit_and (suc m * 2 ^ 1 + 0) (suc m * 2 ^ 1 + 0 - 1) ≡ bit_and (suc m) (suc m - 1) * 2 ^ 1 + 0
even_less m = let e : suc m * 2 ^ 1 + 0 - 1 ≡ m * 2 ^ 1 + 1 = omega arith in let f : suc m - 1 ≡ m = omega arith in
    rw (e, f, and_block 1 (suc m) m 0 1 (omega arith) (omega arith)) refl

doubled : (n m r : ℕ) → r < 2 → set_places (1 + n) (m * 2 ^ 1 + r) ≡ set_places 1 r ++ map (λ j. 1 + j) (set_places n m)
doubled n m r small =
    let q : (m * 2 ^ 1 + r) / 2 ^ 1 ≡ m = omega arith in
    let s : (m * 2 ^ 1 + r) % 2 ^ 1 ≡ r = omega arith in
    rw (places_split 1 n (m * 2 ^ 1 + r), q, s) refl

none_or_one : (xs : List ℕ) → (set_places 1 0 ++ xs ≡ xs) × (drop 1 (set_places 1 1 ++ xs) ≡ xs)
unfolding set_places has_bit
none_or_one xs = (refl, refl)

cleared_step : (n m r : ℕ) → r < 2 → 0 < m * 2 ^ 1 + r → ((0 < m) → set_places n (bit_and m (m - 1)) ≡ drop 1 (set_places n m)) →
    set_places (1 + n) (bit_and (m * 2 ^ 1 + r) (m * 2 ^ 1 + r - 1)) ≡ drop 1 (set_places (1 + n) (m * 2 ^ 1 + r))
cleared_step n m (suc zero) small some before =
    rw (
      odd_less m,
      doubled n m 0 (omega arith),
      doubled n m 1 (omega arith),
      (none_or_one (map (λ j. 1 + j) (set_places n m))).0,
      (none_or_one (map (λ j. 1 + j) (set_places n m))).1,
    ) refl
cleared_step n zero zero small some before = absurd (omega arith)
cleared_step n (suc m) zero small some before =
    let h = before (omega arith) in
    rw (
      even_less m,
      doubled n (bit_and (suc m) (suc m - 1)) 0 (omega arith),
      doubled n (suc m) 0 (omega arith),
      (none_or_one (map (λ j. 1 + j) (set_places n (bit_and (suc m) (suc m - 1))))).0,
      (none_or_one (map (λ j. 1 + j) (set_places n (suc m)))).0,
      h,
      drop-map (λ (j : ℕ). 1 + j) 1 (set_places n (suc m)),
    ) refl
cleared_step n m (suc (suc r)) small some before = absurd (omega arith)

pub cleared : (n w : ℕ) → 0 < w → w < 2 ^ n → set_places n (bit_and w (w - 1)) ≡ drop 1 (set_places n w)
cleared zero w some small = absurd (omega arith)
cleared (suc n) w some small =
    let e : suc n ≡ 1 + n = omega arith in
    let s : w / 2 ^ 1 * 2 ^ 1 + w % 2 ^ 1 ≡ w = shr_split w 1 in
    let h : w / 2 ^ 1 < 2 ^ n = shr_below w n 1 (let f : n + 1 ≡ suc n = omega arith in rw f small) in
    let c = cleared_step n (w / 2 ^ 1) (w % 2 ^ 1) (omega arith) (omega arith) (λ more. cleared n (w / 2 ^ 1) more h) in
    rw e (rw s at c)

-- the numbers of a word that are below k
pub places_below : (k b w : ℕ) → filter (λ j. nat_lt j k) (set_places (k + b) w) ≡ set_places k (w % 2 ^ k)
unfolding set_places
places_below k b w =
    let low = filter_below (has_bit (w % 2 ^ k)) k 0 k (omega arith) in
    let none = filter_above k (set_places b (w / 2 ^ k)) in
    let s = places_split k b w in
    rw s (rw (filter-append (λ j. nat_lt j k) (set_places k (w % 2 ^ k)) (map (λ j. k + j) (set_places b (w / 2 ^ k))), none, low, append-nil) refl)

-- all of them are below k if k is at least the width
pub places_all_below : (n k w : ℕ) → n ≤ k → filter (λ j. nat_lt j k) (set_places n w) ≡ set_places n w
unfolding set_places
places_all_below n k w wide = filter_below (has_bit w) k 0 n (omega arith)

-- the mask of the numbers below k
pub mask_some : (k : ℕ) → k < 64 → 1 ≤ 1 * 2 ^ k % 2 ^ 64
mask_some k small = omega (arith, one_shl k 64 small, pow_pos k)

-- how many of the numbers are below k
pub counts_below : (w k : ℕ) → k < 64 → count_ones (bit_and w (1 * 2 ^ k % 2 ^ 64 - 1)) ≡ length (filter (λ j. nat_lt j k) (set_places 64 w))
counts_below w k small =
    let e : k + (64 - k) ≡ 64 = omega arith in
    let b = rw e at (places_below k (64 - k) w) in
    rw (one_shl k 64 small, and_mask w k, b) (count_places k (w % 2 ^ k) (mod_below w (2 ^ k) (pow_pos k)))

pub counts_all_below : (w k : ℕ) → w < 2 ^ 64 → 64 ≤ k → count_ones w ≡ length (filter (λ j. nat_lt j k) (set_places 64 w))
counts_all_below w k small wide = rw (places_all_below 64 k w wide) (count_places 64 w small)

-- a word that has a number is not 0
pub some_place : (n w : ℕ) → 0 < length (set_places n w) → 0 < w
some_place n zero some = let e = rw (places_zero n) at some in absurd (omega (arith, e))
some_place n (suc w) some = omega arith

-- nor is one of which that many are to be passed
pub some_left : (rest left : ℕ) → left < length (set_places 64 rest) → 1 ≤ rest
some_left rest left more = some_place 64 rest (omega (arith, more))

-- without its lowest number a word has one number less
pub fewer_left : (rest left : ℕ) → rest < 2 ^ 64 → 0 < left → left < length (set_places 64 rest) →
    left - 1 < length (set_places 64 (bit_and rest (rest - 1)))
fewer_left rest left small some more =
    let l = ap length (cleared 64 rest (some_left rest left more) small) ∙ length-drop 1 (set_places 64 rest) in
    omega (arith, l, some, more)

-- and each of the others one place earlier
one_earlier : (k : ℕ) (xs : List ℕ) → slice_get (drop 1 xs) k ≡ slice_get xs (suc k)
one_earlier k [] = refl
one_earlier k (x ∷ xs) = refl

pub next_left : (rest left : ℕ) → rest < 2 ^ 64 → 0 < left → left < length (set_places 64 rest) →
    slice_get (set_places 64 (bit_and rest (rest - 1))) (left - 1) ≡ slice_get (set_places 64 rest) left
next_left rest zero small some more = absurd (omega (arith, some))
next_left rest (suc left) small some more =
    let e : suc left - 1 ≡ left = omega arith in
    rw (cleared 64 rest (some_left rest (suc left) more) small, e) (one_earlier left (set_places 64 rest))

-- the lowest number is the first
pub lowest_left : (rest : ℕ) → rest < 2 ^ 64 → 0 < length (set_places 64 rest) → Some (trailing_zeros w64 rest) ≡ slice_get (set_places 64 rest) 0
lowest_left rest small some = sym (lowest rest (some_left rest 0 some) small)

pub lowest_within : (rest : ℕ) → rest < 2 ^ 64 → 0 < length (set_places 64 rest) → trailing_zeros w64 rest < 64
lowest_within rest small some = (bit_at-trailing_zeros w64 rest (some_left rest 0 some) small).0

-- there are at most as many numbers as the width
most_choice : (b : Bool) (k n : ℕ) (xs : List ℕ) → length xs ≤ n → length (cond b (k ∷ xs) xs) ≤ suc n
most_choice true k n xs few = omega arith
most_choice false k n xs few = omega arith

most_kept : (p : ℕ → Bool) (k n : ℕ) → length (filter p (counted_from k n)) ≤ n
most_kept p k zero = omega arith
most_kept p k (suc n) = let r = most_kept p (suc k) n in most_choice (p k) k n (filter p (counted_from (suc k) n)) r

pub most_places : (w : ℕ) → length (set_places 64 w) ≤ most_of_kind
unfolding set_places
most_places w = most_kept (has_bit w) 0 64

pub most_below : (w k : ℕ) → length (filter (λ j. nat_lt j k) (set_places 64 w)) ≤ most_of_kind
most_below w k = omega (arith, length-filter_both (λ j. nat_lt j k) (λ j. not (nat_lt j k)) (λ j. refl) (set_places 64 w), most_places w)
