-- What is written for a register, a number or an address is read back as the same.
use Rattle.std.proofs.Common.{◌≡◌, ℕ, ◌+◌, ◌*◌, ◌/◌, ◌%◌, ◌^◌, ◌<◌, ◌≤◌, Bool, true, false, List, [], ◌∷◌, ◌++◌, length, get_or, drop, refl, ◌∙◌, ap, arith, suc, zero, cond, Some, min, ℤ, pos, negsuc, length-drop, lit<, lit≤}
use Rattle.std.specs.Prelude.{codes, decimal, nat_lt, ◌==◌, ◌&&◌, nat_eq}
use Rattle.std.specs.Int.RustNames.{unsigned_abs}
use Rattle.std.specs.Fmt.{signed_decimal}
use Rattle.std.specs.Char.{digit_value, digit_char}
use Rattle.std.specs.Str.Parse.{digits_value, AllDigits}
use Rattle.std.specs.List.{list_all, prefix_len, starts_with}
use Rattle.std.proofs.lemmas.Fmt.{decimal_is_IsNumeral, length-decimal-le, first_decimal, decimal_digit}
use Rattle.std.proofs.lemmas.Bool.Decides.{nat_tests}
use Rattle.rv_text.specs.Numbers.{is_numeral, numeral, magnitude, number_of, as_positive, minus}
use Rattle.rv_text.specs.Registers.{register_numbered, register_padded, register_of}
use Rattle.rv_text.specs.Fields.{is_open}
use Rattle.texts.specs.Hexadecimal.{hex8}
use Rattle.rv_text.specs.Writing.{hexadecimal, register_text}
use Rattle.rv_text.proofs.Numerals.{test-from_AllDigits}
use Rattle.rv_text.proofs.Solid.{is_solid, IsSolid}

-- a digit's byte
digit_solid : (byte : ℕ) → digit_value byte < 16 → is_solid byte ≡ true
digit_solid byte h = grind (arith, nat_tests)

digit_no_x : (byte : ℕ) → digit_value byte < 16 → nat_eq 120 byte ≡ false
digit_no_x byte h = grind (arith, nat_tests)

digit_no_minus : (byte : ℕ) → digit_value byte < 16 → nat_eq 45 byte ≡ false
digit_no_minus byte h = grind (arith, nat_tests)

digits_solid : (radix : ℕ) (ds : List ℕ) → radix ≤ 16 → AllDigits radix ds → list_all is_solid ds ≡ true
digits_solid radix [] low h = refl
digits_solid radix (d ∷ ds) low h =
    let first : digit_value d < radix = h.0 in
    rw (digit_solid d (omega arith)) (digits_solid radix ds low h.1)

-- at most this many digits are a numeral of their value
pub numeral-digits : (radix most n : ℕ) (ds : List ℕ) → AllDigits radix ds → 0 < length ds → length ds ≤ most → digits_value radix ds ≡ n →
    numeral radix most ds ≡ Some n
unfolding numeral is_numeral
numeral-digits radix most n ds all some short value =
    let test = test-from_AllDigits radix ds all in
    grind (arith, nat_tests, test, value)

-- digits begin neither with a minus nor with `0x`
no_minus : (radix : ℕ) (ds : List ℕ) → radix ≤ 16 → AllDigits radix ds → 0 < length ds → starts_with nat_eq ds (codes "-") ≡ false
no_minus radix [] low h some = absurd (omega arith)
no_minus radix (d ∷ ds) low h some =
    let first : digit_value d < radix = h.0 in
    rw (digit_no_minus d (omega arith)) refl

and-false : (b : Bool) → (b && false) ≡ false
and-false true = refl
and-false false = refl

no_prefix : (radix : ℕ) (ds : List ℕ) → radix ≤ 16 → AllDigits radix ds → starts_with nat_eq ds (codes "0x") ≡ false
no_prefix radix [] low h = refl
no_prefix radix (d ∷ []) low h = and-false (nat_eq 48 d)
no_prefix radix (d ∷ e ∷ ds) low h =
    let second : digit_value e < radix = h.1.0 in
    rw (digit_no_x e (omega arith)) (and-false (nat_eq 48 d))

-- a number in decimal
decimal_digits : (n : ℕ) → n < 2 ^ 64 → AllDigits 10 (decimal n)
decimal_digits n small = (decimal_is_IsNumeral n small).0.1

decimal_some : (n : ℕ) → n < 2 ^ 64 → 0 < length (decimal n)
decimal_some n small = (decimal_is_IsNumeral n small).0.0

pub decimal_solid : (n : ℕ) → n < 2 ^ 64 → IsSolid (decimal n)
decimal_solid n small = record {
  some = decimal_some n small;
  bytes = digits_solid 10 (decimal n) (lit≤ tt) (decimal_digits n small);
}

pub decimal_read : (most n : ℕ) → 0 < most → n < 10 ^ most → n < 2 ^ 64 → numeral 10 most (decimal n) ≡ Some n
decimal_read most n positive short small =
    numeral-digits 10 most n (decimal n) (decimal_digits n small) (decimal_some n small)
    (length-decimal-le most n positive short small) (decimal_is_IsNumeral n small).1

magnitude-decimal : (n : ℕ) → n < 10 ^ 10 → magnitude (decimal n) ≡ Some n
unfolding magnitude
magnitude-decimal n short =
    let small : n < 2 ^ 64 = omega arith in
    rw (no_prefix 10 (decimal n) (lit≤ tt) (decimal_digits n small)) (decimal_read 10 n (lit< tt) short small)

-- a number of at most ten digits, with its sign
pub number_of-signed : (z : ℤ) → unsigned_abs z < 2 ^ 32 → number_of (signed_decimal z) ≡ Some z
unfolding number_of
number_of-signed (pos n) h =
    let below : n < 2 ^ 32 = h in
    let short : n < 10 ^ 10 = omega arith in
    let small : n < 2 ^ 64 = omega arith in
    rw (no_minus 10 (decimal n) (lit≤ tt) (decimal_digits n small) (decimal_some n small))
    (ap as_positive (magnitude-decimal n short))
number_of-signed (negsuc n) h =
    let below : suc n < 2 ^ 32 = h in
    let short : suc n < 10 ^ 10 = omega arith in
    ap minus (magnitude-decimal (suc n) short)

pub signed_solid : (z : ℤ) → unsigned_abs z < 2 ^ 32 → IsSolid (signed_decimal z)
signed_solid (pos n) h = let below : n < 2 ^ 32 = h in decimal_solid n (omega arith)
signed_solid (negsuc n) h =
    let below : suc n < 2 ^ 32 = h in
    let digits = decimal_solid (suc n) (omega arith) in
    record { some = omega arith; bytes = digits.bytes }

-- a word in hexadecimal
glyph : (d : ℕ) → d < 16 → digit_value (digit_char d) ≡ d
glyph d h = grind (arith, nat_tests)

hex_step : (w : ℕ) → digit_value (digit_char (w % 16)) ≡ w % 16
hex_step w = glyph (w % 16) (omega arith)

hex_digit : (w : ℕ) → digit_value (digit_char (w % 16)) < 16
hex_digit w = omega (arith, hex_step w)

pub hex8_digits : (w : ℕ) → AllDigits 16 (hex8 w)
unfolding hex8
hex8_digits w = (
  hex_digit (w / 268435456),
  (
    hex_digit (w / 16777216),
    (
      hex_digit (w / 1048576),
      (
        hex_digit (w / 65536),
        (hex_digit (w / 4096), (hex_digit (w / 256), (hex_digit (w / 16), (hex_digit w, tt)))),
      ),
    ),
  ),
)

pub hex8_value : (w : ℕ) → w < 2 ^ 32 → digits_value 16 (hex8 w) ≡ w
unfolding hex8
hex8_value w small =
    rw (
      hex_step (w / 268435456),
      hex_step (w / 16777216),
      hex_step (w / 1048576),
      hex_step (w / 65536),
      hex_step (w / 4096),
      hex_step (w / 256),
      hex_step (w / 16),
      hex_step w,
    )
    (let top : w / 268435456 < 16 = omega arith in
    let s6 : w / 268435456 * 16 + w / 16777216 % 16 ≡ w / 16777216 = omega arith in
    let s5 : w / 16777216 * 16 + w / 1048576 % 16 ≡ w / 1048576 = omega arith in
    let s4 : w / 1048576 * 16 + w / 65536 % 16 ≡ w / 65536 = omega arith in
    let s3 : w / 65536 * 16 + w / 4096 % 16 ≡ w / 4096 = omega arith in
    let s2 : w / 4096 * 16 + w / 256 % 16 ≡ w / 256 = omega arith in
    let s1 : w / 256 * 16 + w / 16 % 16 ≡ w / 16 = omega arith in
    omega arith)

zeros_by : (d : ℕ) (ds : List ℕ) (b : Bool) (k : ℕ) → nat_eq d 48 ≡ b
    → suc k ≤ cond (nat_eq d 48) (1 + prefix_len (λ digit. digit == 48) ds) 0
    → (k ≤ prefix_len (λ digit. digit == 48) ds → (digits_value 16 (drop k ds) ≡ digits_value 16 ds) × AllDigits 16 (drop k ds))
    → (digits_value 16 (drop k ds) ≡ digits_value 16 (d ∷ ds)) × AllDigits 16 (drop k ds)
zeros_by d ds true k e low rest =
    let zero_digit : d ≡ 48 = grind (arith, nat_tests) in
    let counted : suc k ≤ 1 + prefix_len (λ digit. digit == 48) ds = rw e at low in
    let found = rest (omega arith) in
    (rw zero_digit found.0, found.1)
zeros_by d ds false k e low rest =
    let none : suc k ≤ 0 = rw e at low in
    absurd (omega arith)

-- leading zeros do not change the value
drop_zeros : (k : ℕ) (ds : List ℕ) → k ≤ prefix_len (λ digit. digit == 48) ds → AllDigits 16 ds
    → (digits_value 16 (drop k ds) ≡ digits_value 16 ds) × AllDigits 16 (drop k ds)
drop_zeros zero ds low all = (refl, all)
drop_zeros (suc k) [] low all = absurd (omega arith)
drop_zeros (suc k) (d ∷ ds) low all =
    zeros_by d ds (nat_eq d 48) k refl low (λ h. drop_zeros k ds h all.1)

starts_zero : (ds : List ℕ) → 48 < get_or ds 0 0 → starts_with nat_eq ds (codes "0") ≡ false
starts_zero [] h = refl
starts_zero (d ∷ ds) h = grind (arith, nat_tests)

unpadded_by : (r : ℕ) (b : Bool) → r < 2 ^ 64 → nat_lt r 10 ≡ b → (starts_with nat_eq (decimal r) (codes "0") && nat_lt 1 (length (decimal r))) ≡ false
unpadded_by r true small e =
    let low : r < 10 = grind (arith, nat_tests) in
    rw (decimal_digit r low) (and-false (nat_eq 48 (48 + r) && true))
unpadded_by r false small e =
    let high : 10 ≤ r = grind (arith, nat_tests) in
    rw (starts_zero (decimal r) (first_decimal r (omega arith) small)) refl

-- a register
pub register_of-text : (r : ℕ) → r < 32 → register_of (register_text r) ≡ Some r
unfolding register_of register_padded register_numbered
register_of-text r h =
    let plain = unpadded_by r (nat_lt r 10) (omega arith) refl in
    rw (plain, decimal_read 2 r (lit< tt) (omega arith) (omega arith)) (grind (arith, nat_tests))

pub register_solid : (r : ℕ) → r < 32 → IsSolid (register_text r)
register_solid r h = let digits = decimal_solid r (omega arith) in record { some = omega arith; bytes = digits.bytes }

-- the texts of targets and of upper immediates
prefixed : (most_digits : List ℕ) (n : ℕ) → AllDigits 16 most_digits → 0 < length most_digits → length most_digits ≤ 8
    → digits_value 16 most_digits ≡ n → number_of (codes "0x" ++ most_digits) ≡ Some (pos n)
unfolding number_of magnitude
prefixed ds n all some short value = ap as_positive (numeral-digits 16 8 n ds all some short value)

prefixed_solid : (ds : List ℕ) → AllDigits 16 ds → IsSolid (codes "0x" ++ ds)
prefixed_solid ds all = record { some = omega arith; bytes = digits_solid 16 ds (lit≤ tt) all }

pub number_of-target : (w : ℕ) → w < 2 ^ 32 → number_of (codes "0x" ++ hex8 w) ≡ Some (pos w)
unfolding hex8
number_of-target w small = prefixed (hex8 w) w (hex8_digits w) (lit< tt) (lit≤ tt) (hex8_value w small)

pub target_solid : (w : ℕ) → IsSolid (codes "0x" ++ hex8 w)
target_solid w = prefixed_solid (hex8 w) (hex8_digits w)

needed : (w : ℕ) → (digits_value 16 (hexadecimal w) ≡ digits_value 16 (hex8 w)) × AllDigits 16 (hexadecimal w)
unfolding hexadecimal hex8
needed w = drop_zeros (min (prefix_len (λ digit. digit == 48) (hex8 w)) 7) (hex8 w) (omega arith) (hex8_digits w)

dropped_length : (k : ℕ) (ds : List ℕ) → k ≤ 7 → length ds ≡ 8 → (0 < length (drop k ds)) × (length (drop k ds) ≤ 8)
dropped_length k ds low eight = (omega (arith, length-drop k ds), omega (arith, length-drop k ds))

hexadecimal_length : (w : ℕ) → (0 < length (hexadecimal w)) × (length (hexadecimal w) ≤ 8)
unfolding hexadecimal hex8
hexadecimal_length w = dropped_length (min (prefix_len (λ digit. digit == 48) (hex8 w)) 7) (hex8 w) (omega arith) refl

pub number_of-upper : (w : ℕ) → w < 2 ^ 32 → number_of (codes "0x" ++ hexadecimal w) ≡ Some (pos w)
number_of-upper w small =
    let digits = needed w in
    let size = hexadecimal_length w in
    prefixed (hexadecimal w) w digits.1 size.0 size.1 (digits.0 ∙ hex8_value w small)

pub upper_solid : (w : ℕ) → IsSolid (codes "0x" ++ hexadecimal w)
upper_solid w = prefixed_solid (hexadecimal w) (needed w).1

digit_no_open : (byte : ℕ) → digit_value byte < 16 → is_open byte ≡ false
digit_no_open byte h = grind (arith, nat_tests)

digits_no_open : (radix : ℕ) (ds : List ℕ) → radix ≤ 16 → AllDigits radix ds → (k : ℕ) → k < length ds → is_open (get_or ds k 0) ≡ false
digits_no_open radix [] low all k inside = absurd (omega arith)
digits_no_open radix (d ∷ ds) low all zero inside =
    let first : digit_value d < radix = all.0 in digit_no_open d (omega arith)
digits_no_open radix (d ∷ ds) low all (suc k) inside = digits_no_open radix ds low all.1 k (omega arith)

-- no number in decimal has a `(`
pub signed_no_open : (z : ℤ) → unsigned_abs z < 2 ^ 32 → (k : ℕ) → k < length (signed_decimal z) → is_open (get_or (signed_decimal z) k 0) ≡ false
signed_no_open (pos n) h k inside =
    let below : n < 2 ^ 32 = h in
    digits_no_open 10 (decimal n) (lit≤ tt) (decimal_digits n (omega arith)) k inside
signed_no_open (negsuc n) h zero inside = refl
signed_no_open (negsuc n) h (suc k) inside =
    let below : suc n < 2 ^ 32 = h in
    digits_no_open 10 (decimal (suc n)) (lit≤ tt) (decimal_digits (suc n) (omega arith)) k (omega arith)
