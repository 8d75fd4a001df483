-- The value of the digits of a time fits 64 bits.
use Rattle.std.proofs.Common.{ℕ, ◌+◌, ◌*◌, ◌<◌, ◌≤◌, ◌^◌, List, length, get_or, take, arith}
use Rattle.std.specs.Char.{digit_value}
use Rattle.std.specs.Str.Parse.{digits_value, AllDigits}
use Rattle.std.proofs.lemmas.Int.Digits.{digits_value_more, digits_more}
use Rattle.std.proofs.lemmas.Grind.{common_steps}
use Rattle.rv_text.proofs.Numerals.{digits_value_below}

-- one more digit, of at most 18
pub next_fits : (i : ℕ) (ds : List ℕ) → i < length ds → AllDigits 10 (take i ds) → digit_value (get_or ds i 0) < 10 → length ds ≤ 18 →
    digits_value 10 (take i ds) * 10 + digit_value (get_or ds i 0) < 10 ^ 18
next_fits i ds inside all digit short =
    let more : AllDigits 10 (take (i + 1) ds) = digits_more 10 ds i inside all digit in
    let upto : length (take (i + 1) ds) ≤ 18 = grind (arith, common_steps) in
    let below : digits_value 10 (take (i + 1) ds) < 10 ^ 18 = digits_value_below 10 18 (take (i + 1) ds) more (omega arith) upto in
    rw (digits_value_more 10 ds i inside) at below
