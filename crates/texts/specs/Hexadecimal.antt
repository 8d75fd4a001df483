-- Words in hexadecimal digits, as instructions, moves and reports have them (a format of this project).
use Rattle.std.specs.Prelude.{ℕ, ◌/◌, ◌%◌, List, [], ◌∷◌}
use Rattle.std.specs.Char.{digit_char}

-- a word as eight lower-case hexadecimal digits, the highest first
unfoldable pub hex8 : ℕ → List ℕ
hex8 w =
    digit_char (w / 0x10000000 % 16) ∷ digit_char (w / 0x1000000 % 16)
    ∷ digit_char (w / 0x100000 % 16) ∷ digit_char (w / 0x10000 % 16)
    ∷ digit_char (w / 0x1000 % 16) ∷ digit_char (w / 0x100 % 16)
    ∷ digit_char (w / 0x10 % 16) ∷ digit_char (w % 16) ∷ []
