-- The lines of a report, byte by byte (a format of this project).
use Rattle.std.specs.Prelude.{ℕ, ◌+◌, ◌/◌, ◌%◌, List, [], ◌∷◌, ◌++◌, codes, decimal, ◌==◌, if◌then◌else◌}
use Rattle.texts.specs.Hexadecimal.{hex8}

abbrev pub newline : List ℕ
newline = 10 ∷ []

-- a line with this text
abbrev pub line : List ℕ → List ℕ
line text = text ++ newline

-- x and two decimal digits
unfoldable pub register_name : ℕ → List ℕ
register_name r = 120 ∷ (48 + r / 10) ∷ (48 + r % 10) ∷ []

-- a space after a register, or, after every fourth, a line feed
abbrev pub separator : ℕ → ℕ
separator r = if r % 4 == 3 then 10 else 32

-- a register with its value
unfoldable pub register_entry : ℕ → ℕ → List ℕ
register_entry r w = register_name r ++ codes "=" ++ hex8 w ++ separator r ∷ []

-- the registers from number r on, four a line
unfoldable pub registers_from : ℕ → List ℕ → List ℕ
registers_from r [] = []
registers_from r (w ∷ ws) = register_entry r w ++ registers_from (r + 1) ws

-- a line with a name and a number
unfoldable pub counted_line : List ℕ → ℕ → List ℕ
counted_line name n = name ++ decimal n ++ newline

-- the line of a trap
unfoldable pub trap_line : ℕ → ℕ → ℕ → List ℕ
trap_line cause pc detail =
    codes "trap " ++ decimal cause ++ codes " at " ++ hex8 pc ++ codes " detail "
    ++ hex8 detail ++ newline
