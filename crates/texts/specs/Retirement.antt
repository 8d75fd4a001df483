-- The line of an instruction that retired (a format of this project).
use Rattle.std.specs.Prelude.{ℕ, List, ◌++◌, codes, decimal, ◌==◌, if◌then◌else◌}
use Rattle.texts.specs.Hexadecimal.{hex8}
use Rattle.texts.specs.Lines.{line, register_name}

-- a register with its value, or `-` if none was written
abbrev pub written_register : ℕ → ℕ → List ℕ
written_register r value =
    if r == 0 then codes "-" else register_name r ++ codes "=" ++ hex8 value

-- the instruction's retirement number, its address, its word, and the register that it wrote; register 0 means none
unfoldable pub retirement_text : ℕ → ℕ → ℕ → ℕ → ℕ → List ℕ
retirement_text number pc word r value =
    line (codes "retire " ++ decimal number ++ codes " " ++ hex8 pc ++ codes " " ++ hex8 word
    ++ codes " " ++ written_register r value)
