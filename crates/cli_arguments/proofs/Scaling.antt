-- Amounts: the number before the unit, times the unit.
use Rattle.std.proofs.Common.{◌≡◌, ◌*◌, ℕ, List, Bool, true, false, if◌then◌else◌, refl, Some, None, sym, ◌∙◌}
use Rattle.std.specs.Prelude.{nat_eq}
use Rattle.std.specs.Str.Parse.{digits_value}
use Rattle.cli_arguments.specs.Values.{amount_in, amount_of, bounded, digits_in, is_amount, number_before, number_up_to, numeral_in, unit_of}

-- the number before the unit exists if the argument writes an amount
before-is : (argument : List ℕ) → number_before (unit_of argument) (digits_in argument) ≡
    (if is_amount argument then Some (digits_value 10 (digits_in argument)) else None)
unfolding number_before is_amount number_up_to numeral_in digits_in
before-is argument = by (nat_eq (unit_of argument) 1) refl
  where
    by : (b : Bool) → nat_eq (unit_of argument) 1 ≡ b → number_before (unit_of argument) (digits_in argument)
        ≡ (if is_amount argument then Some (digits_value 10 (digits_in argument)) else None)
    by true e = rw e refl
    by false e = rw e refl

-- so without it there is no amount
pub no-amount : (least most : ℕ) (argument : List ℕ) → number_before (unit_of argument) (digits_in argument) ≡ None → amount_in least most argument ≡ None
unfolding amount_in
no-amount least most argument none = by (is_amount argument) refl
  where
    by : (b : Bool) → is_amount argument ≡ b → amount_in least most argument ≡ None
    by true e = let some = sym (before-is argument) ∙ none in absurd (cc (e, some))
    by false e = rw e refl

-- and with it, the amount is that many units
pub some-amount : (least most : ℕ) (argument : List ℕ) (number : ℕ) → number_before (unit_of argument) (digits_in argument) ≡ Some number →
    amount_in least most argument ≡ bounded least most (number * unit_of argument)
unfolding amount_in amount_of bounded
some-amount least most argument number some = by (is_amount argument) refl
  where
    by : (b : Bool) → is_amount argument ≡ b → amount_in least most argument ≡ bounded least most (number * unit_of argument)
    by true e =
        let same : Some (digits_value 10 (digits_in argument)) ≡ Some number = cc (before-is argument, some, e) in
        let value : digits_value 10 (digits_in argument) ≡ number = cc in
        rw (e, value) refl
    by false e = absurd (cc (before-is argument, some, e))
