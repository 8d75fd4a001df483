-- Arguments of digits: the test of each byte, and what is parsed.
use Rattle.std.proofs.Common.{◌≡◌, ◌≤◌, ◌<◌, ◌^◌, ℕ, List, [], ◌∷◌, true, refl, arith, length, Result, Ok, Err, subst}
use Rattle.std.proofs.Math.Nat.{pow-le-pow_right}
use Rattle.std.proofs.lemmas.Bool.Decides.{nat_tests}
use Rattle.std.proofs.lemmas.Int.Digits.{digits_value-lt}
use Rattle.std.specs.List.{list_all}
use Rattle.std.specs.Result.{OkIff}
use Rattle.std.specs.Char.{digit_value}
use Rattle.std.specs.Str.Parse.{AllDigits, IsNumeral, digits_value, without_leading_plus, ParsesUnsigned}
use Rattle.texts.specs.Bytes.{is_digit}
use Rattle.cli_arguments.specs.Values.{is_decimal_argument}

-- a byte from `0` to `9` is a digit
digit-small : (byte : ℕ) → is_digit byte ≡ true → digit_value byte < 10
digit-small byte h = grind (arith, nat_tests)

digits-all : (argument : List ℕ) → list_all is_digit argument ≡ true → AllDigits 10 argument
digits-all [] h = tt
digits-all (byte ∷ argument) h =
    let a : is_digit byte ≡ true = grind (arith, nat_tests) in
    let b : list_all is_digit argument ≡ true = grind (arith, nat_tests) in
    (digit-small byte a, digits-all argument b)

-- an argument of digits has no leading plus
no-plus : (longest : ℕ) (argument : List ℕ) → is_decimal_argument longest argument ≡ true → without_leading_plus argument ≡ argument
no-plus longest [] h = refl
no-plus longest (byte ∷ argument) h = grind (arith, nat_tests)

-- its value has at most as many digits
value-fits : (longest : ℕ) (argument : List ℕ) → length argument ≤ longest → AllDigits 10 argument → digits_value 10 argument < 10 ^ longest
value-fits longest argument short digits =
    let a : digits_value 10 argument < 10 ^ length argument = digits_value-lt 10 argument digits in
    let b : 10 ^ length argument ≤ 10 ^ longest = pow-le-pow_right (omega arith) short in
    omega arith

-- the properties of an argument of digits
record IsSpelt (longest : ℕ) (argument : List ℕ) : Type 0 where
  digits : AllDigits 10 argument
  short : length argument ≤ longest
  some : 0 < length argument

spelt : (longest : ℕ) (argument : List ℕ) → is_decimal_argument longest argument ≡ true → IsSpelt longest argument
spelt longest argument h = record {
  digits = digits-all argument (grind (arith, nat_tests));
  short = grind (arith, nat_tests);
  some = grind (arith, nat_tests);
}

-- its value is below the first number with one digit more
pub digits-below : (longest : ℕ) (argument : List ℕ) → is_decimal_argument longest argument ≡ true → digits_value 10 argument < 10 ^ longest
digits-below longest argument h = let s = spelt longest argument h in value-fits longest argument s.short s.digits

numeral-parsed : {E : Type 0} → (longest : ℕ) (argument : List ℕ) (r : Result ℕ E) → longest ≤ 10 → is_decimal_argument longest argument ≡ true →
    OkIff r (IsNumeral 10 argument × (digits_value 10 argument < 2 ^ 64)) (digits_value 10 argument) →
    r ≡ Ok (digits_value 10 argument)
numeral-parsed longest argument (Ok number) few h parsed = cc
numeral-parsed longest argument (Err error) few h parsed =
    let s = spelt longest argument h in
    let below : digits_value 10 argument < 10 ^ 10 = value-fits 10 argument (omega (arith, s.short, few)) s.digits in
    absurd (parsed ((s.some, s.digits), omega (arith, below)))

-- what is parsed of such an argument
pub digits-parsed : {E : Type 0} → (longest : ℕ) (argument : List ℕ) (r : Result ℕ E) → longest ≤ 10 → is_decimal_argument longest argument ≡ true →
    ParsesUnsigned 64 10 argument r → r ≡ Ok (digits_value 10 argument)
digits-parsed {E} longest argument r few h parsed =
    numeral-parsed longest argument r few h
    (subst (λ (w : List ℕ). OkIff r (IsNumeral 10 w × (digits_value 10 w < 2 ^ 64))
    (digits_value 10 w)) (no-plus longest argument h) parsed)

pub ruleset digits = (digits-parsed, digits-below)
