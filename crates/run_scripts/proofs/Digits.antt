-- Numbers of one or two digits, as they are written.
use Rattle.std.proofs.Common.{◌≡◌, ◌∙◌, sym, ap, ℕ, ◌+◌, ◌-◌, ◌*◌, ◌<◌, ◌≤◌, [], ◌∷◌, refl, arith, lit<}
use Rattle.std.specs.Prelude.{decimal}
use Rattle.std.specs.Char.{digit_value}
use Rattle.std.specs.Str.Parse.{AllDigits, digits_value}
use Rattle.std.proofs.lemmas.Bool.Decides.{nat_tests}
use Rattle.std.proofs.lemmas.Fmt.{decimal_digit, decimal-digits_value}
use Rattle.std.proofs.lemmas.Str.Parse.{IsNumeralModel}

digits_own : IsNumeralModel (AllDigits 10) (digits_value 10)
digits_own = record { to = λ ds h. h; from = λ ds h. h; same = λ ds h. refl }

digit_is : (d : ℕ) → 48 ≤ d → d < 58 → digit_value d ≡ d - 48
digit_is d low high = grind (arith, nat_tests)

-- one digit
pub one-digit : (d : ℕ) → 48 ≤ d → d < 58 → decimal (d - 48) ≡ d ∷ []
one-digit d low high =
    let e : 48 + (d - 48) ≡ d = omega arith in
    rw e at (decimal_digit (d - 48) (omega arith))

-- two digits, the first of which is not zero
pub two-digits : (t d : ℕ) → 49 ≤ t → t < 58 → 48 ≤ d → d < 58 → decimal ((t - 48) * 10 + (d - 48)) ≡ t ∷ d ∷ []
two-digits t d some high low below =
    let first : digit_value t ≡ t - 48 = digit_is t (omega arith) high in
    let second : digit_value d ≡ d - 48 = digit_is d low below in
    let value : digits_value 10 (t ∷ d ∷ []) ≡ (t - 48) * 10 + (d - 48) = omega (arith, first, second) in
    let all : AllDigits 10 (t ∷ d ∷ []) = (omega (arith, first), (omega (arith, second), tt)) in
    sym (ap decimal value) ∙ decimal-digits_value digits_own (t ∷ d ∷ []) all (lit< tt) (λ zero. absurd (omega arith)) (omega (arith, value))

pub ruleset decimals = (one-digit, two-digits)
