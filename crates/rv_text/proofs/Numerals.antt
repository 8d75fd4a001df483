-- The value of digits, digit by digit.
use Rattle.std.proofs.Common.{◌≡◌, ℕ, ◌+◌, ◌*◌, ◌<◌, ◌≤◌, ◌^◌, Bool, true, false, List, [], ◌∷◌, length, get_or, take, refl, arith, nat_lt, Some}
use Rattle.std.specs.List.{list_all}
use Rattle.std.specs.Char.{digit_value}
use Rattle.std.specs.Str.Parse.{digits_value, AllDigits}
use Rattle.rv_text.specs.Numbers.{numeral, is_numeral}
use Rattle.std.proofs.Math.Nat.{pow-le-pow_right}
use Rattle.std.proofs.lemmas.Int.Digits.{digits_value-lt, digits_value_more, digits_more}
use Rattle.std.specs.Prelude.{◌&&◌}
use Rattle.std.proofs.lemmas.Bool.{false≢true}
use Rattle.std.proofs.lemmas.Bool.Decides.{nat_tests}
use Rattle.std.proofs.lemmas.Grind.{common_steps}

and-true : (a b : Bool) → (a && b) ≡ true → (a ≡ true) × (b ≡ true)
and-true true b h = (refl, h)
and-true false b h = absurd (false≢true h)

-- digits, according to the test
pub AllDigits-from_test : (radix : ℕ) (ds : List ℕ) → list_all (λ d. nat_lt (digit_value d) radix) ds ≡ true → AllDigits radix ds
AllDigits-from_test radix [] h = tt
AllDigits-from_test radix (d ∷ ds) h =
    let parts = and-true (nat_lt (digit_value d) radix) _ h in
    (grind (arith, nat_tests, parts.0), AllDigits-from_test radix ds parts.1)

pub test-from_AllDigits : (radix : ℕ) (ds : List ℕ) → AllDigits radix ds → list_all (λ d. nat_lt (digit_value d) radix) ds ≡ true
test-from_AllDigits radix [] h = refl
test-from_AllDigits radix (d ∷ ds) h = grind (arith, nat_tests, h.0, test-from_AllDigits radix ds h.1)

-- at most this many digits give a value below that power of the base
pub digits_value_below : (radix most : ℕ) (ds : List ℕ) → AllDigits radix ds → 2 ≤ radix → length ds ≤ most → digits_value radix ds < radix ^ most
digits_value_below radix most ds all two short =
    let below = digits_value-lt radix ds all in
    let positive : 0 < radix = omega arith in
    let most_le : radix ^ length ds ≤ radix ^ most = pow-le-pow_right positive short in
    omega arith

-- and so below 2 ^ 40
pub digits_value_small : (radix most : ℕ) (ds : List ℕ) → AllDigits radix ds → 2 ≤ radix → length ds ≤ most → radix ^ most ≤ 2 ^ 40 →
    digits_value radix ds < 2 ^ 40
digits_value_small radix most ds all two short fits = omega (arith, digits_value_below radix most ds all two short)

-- and one more digit does not reach it either
pub next_small : (radix most i : ℕ) (ds : List ℕ) → i < length ds → AllDigits radix (take i ds) → digit_value (get_or ds i 0) < radix → 2 ≤ radix →
    length ds ≤ most → radix ^ most ≤ 2 ^ 40 → digits_value radix (take i ds) * radix + digit_value (get_or ds i 0) < 2 ^ 40
next_small radix most i ds inside all digit two short fits =
    let more : AllDigits radix (take (i + 1) ds) = digits_more radix ds i inside all digit in
    let upto : length (take (i + 1) ds) ≤ most = grind (arith, common_steps) in
    let below : digits_value radix (take (i + 1) ds) < 2 ^ 40 = digits_value_small radix most (take (i + 1) ds) more two upto fits in
    rw (digits_value_more radix ds i inside) at below

-- a text of digits, all of them read
pub numeral-read : (radix most n i : ℕ) (ds : List ℕ) → 0 < length ds → length ds ≤ most → length ds ≤ i → AllDigits radix (take i ds) →
    n ≡ digits_value radix (take i ds) → Some n ≡ numeral radix most ds
unfolding numeral is_numeral
numeral-read radix most n i ds some short whole all value =
    let same : take i ds ≡ ds = grind (arith, common_steps) in
    let digits : AllDigits radix ds = rw same at all in
    let test = test-from_AllDigits radix ds digits in
    let is : n ≡ digits_value radix ds = rw same at value in
    grind (arith, nat_tests, test, is)

pub ruleset numerals = (digits_value_small, digits_value_more, digits_more, test-from_AllDigits, AllDigits-from_test)
