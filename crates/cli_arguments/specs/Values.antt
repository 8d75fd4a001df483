-- Arguments of the project's command line that name a file or write a number.
use Rattle.std.specs.Prelude.{ℕ, ◌*◌, ◌-◌, List, [], ◌∷◌, codes, length, take, nat_eq, nat_le, Bool, false, not, ◌&&◌, Option, Some, None, if◌then◌else◌}
use Rattle.std.specs.List.{starts_with, ends_with, list_all}
use Rattle.std.specs.Str.Parse.{digits_value}
use Rattle.texts.specs.Bytes.{is_digit}
use Rattle.run_options.specs.Limits.{most_statements}

-- an argument that may name a file: it is not empty and does not begin as an option does
abbrev pub is_file_name : List ℕ → Bool
is_file_name [] = false
is_file_name (byte ∷ bytes) = not (starts_with nat_eq (byte ∷ bytes) (codes "--"))

-- decimal digits, at least one and at most this many; the leading ones may be zeros
abbrev pub is_decimal_argument : ℕ → List ℕ → Bool
is_decimal_argument longest argument = nat_le 1 (length argument) && nat_le (length argument) longest && list_all is_digit argument

-- 1 to 10 digits, whose value is at most this
abbrev pub is_number_argument : ℕ → List ℕ → Bool
is_number_argument most argument = is_decimal_argument 10 argument && nat_le (digits_value 10 argument) most

-- the same, and the value is not 0
abbrev pub is_positive : ℕ → List ℕ → Bool
is_positive most argument = is_number_argument most argument && nat_le 1 (digits_value 10 argument)

-- the number that an argument writes in at most this many digits
unfoldable pub numeral_in : ℕ → List ℕ → Option ℕ
numeral_in longest argument = if is_decimal_argument longest argument then Some (digits_value 10 argument) else None

-- the number that an argument writes, if it is at most the given one
unfoldable pub number_up_to : ℕ → List ℕ → Option ℕ
number_up_to most argument = if is_number_argument most argument then Some (digits_value 10 argument) else None

-- the same, if it is not 0
unfoldable pub positive_in : ℕ → List ℕ → Option ℕ
positive_in most argument = if is_positive most argument then Some (digits_value 10 argument) else None

-- the number of statements that an argument writes
abbrev pub count_in : List ℕ → Option ℕ
count_in argument = positive_in most_statements argument

-- an argument without this last letter, if it ends with it
unfoldable pub before_letter : (letter : ℕ) → List ℕ → Option (List ℕ)
before_letter letter argument =
    if ends_with nat_eq argument (letter ∷ []) then Some (take (length argument - 1) argument) else None

-- the unit of an argument, by its last letter: a thousand, a million or a thousand million; one without such a letter
unfoldable pub unit_of : List ℕ → ℕ
unit_of argument =
    if ends_with nat_eq argument (codes "k") then 1000
    else if ends_with nat_eq argument (codes "M") then 1000000
    else if ends_with nat_eq argument (codes "G") then 1000000000
    else 1

-- the argument without that letter
unfoldable pub digits_in : List ℕ → List ℕ
digits_in argument = if nat_eq (unit_of argument) 1 then argument else take (length argument - 1) argument

-- the maximum amount without a letter
abbrev pub most_plain : ℕ
most_plain = 1000000000

-- an argument that writes an amount: a number, or 1 to 4 digits with a letter
unfoldable pub is_amount : List ℕ → Bool
is_amount argument = if nat_eq (unit_of argument) 1 then is_number_argument most_plain argument else is_decimal_argument 4 (digits_in argument)

-- the number before the unit
unfoldable pub number_before : (unit : ℕ) → (digits : List ℕ) → Option ℕ
number_before unit digits = if nat_eq unit 1 then number_up_to most_plain digits else numeral_in 4 digits

-- the amount that it writes
unfoldable pub amount_of : List ℕ → ℕ
amount_of argument = digits_value 10 (digits_in argument) * unit_of argument

-- an amount, if it is within these bounds
unfoldable pub bounded : (least most amount : ℕ) → Option ℕ
bounded least most amount = if nat_le least amount && nat_le amount most then Some amount else None

-- an argument that writes an amount within these bounds
abbrev pub is_amount_within : (least most : ℕ) → List ℕ → Bool
is_amount_within least most argument = is_amount argument && nat_le least (amount_of argument) && nat_le (amount_of argument) most

-- the amount that an argument writes within these bounds
unfoldable pub amount_in : (least most : ℕ) → List ℕ → Option ℕ
amount_in least most argument = if is_amount_within least most argument then Some (amount_of argument) else None
