-- How a number is spelled: decimal or hexadecimal digits, and a leading minus (GNU as, "Integers").
use Rattle.std.specs.Prelude.{ℕ, ℤ, pos, neg_ℤ, Bool, ◌&&◌, Option, Some, None, List, length, drop, codes, nat_eq, nat_lt, nat_le, if◌then◌else◌}
use Rattle.std.specs.List.{list_all, starts_with}
use Rattle.std.specs.Char.{digit_value}
use Rattle.std.specs.Str.Parse.{digits_value}

-- one to `most` digits of the base
unfoldable pub is_numeral : ℕ → ℕ → List ℕ → Bool
is_numeral base most digits =
    nat_lt 0 (length digits) && nat_le (length digits) most
    && list_all (λ digit. nat_lt (digit_value digit) base) digits

-- the value of one to `most` digits of the base
unfoldable pub numeral : ℕ → ℕ → List ℕ → Option ℕ
numeral base most digits =
    if is_numeral base most digits then Some (digits_value base digits) else None

-- `0x` and one to eight hexadecimal digits, or one to ten decimal digits
unfoldable pub magnitude : List ℕ → Option ℕ
magnitude text =
    if starts_with nat_eq text (codes "0x") then numeral 16 8 (drop 2 text)
    else numeral 10 10 text

-- the number, not negated
abbrev pub as_positive : Option ℕ → Option ℤ
as_positive None = None
as_positive (Some n) = Some (pos n)

-- the number, negated
abbrev pub minus : Option ℕ → Option ℤ
minus None = None
minus (Some n) = Some (neg_ℤ (pos n))

-- the number that a text spells: a magnitude, negated after a leading `-`
unfoldable pub number_of : List ℕ → Option ℤ
number_of text =
    if starts_with nat_eq text (codes "-") then minus (magnitude (drop 1 text))
    else as_positive (magnitude text)
