-- The lines that say how far a run has come (a format of this project).
use Rattle.std.specs.Prelude.{ℕ, ◌%◌, List, ◌++◌, codes, decimal, nat_eq, Option, Some, None, Bool, false}
use Rattle.texts.specs.Lines.{counted_line}

-- a line is due after this many retired instructions: they are a multiple of the step, if there is one
abbrev pub is_step : (every : Option ℕ) → (retired : ℕ) → Bool
is_step None retired = false
is_step (Some every) retired = nat_eq (retired % every) 0

-- for the sequential machine: how many instructions have retired
unfoldable pub machine_line : (retired : ℕ) → List ℕ
machine_line retired = counted_line (codes "at ") retired

-- for a run of the processor: also how many moves were made
unfoldable pub moves_line : (retired moves : ℕ) → List ℕ
moves_line retired moves = (codes "at " ++ decimal retired) ++ counted_line (codes " moves ") moves

-- for a run in rounds: also how many rounds were made
unfoldable pub rounds_line : (retired rounds moves : ℕ) → List ℕ
rounds_line retired rounds moves =
    ((codes "at " ++ decimal retired) ++ codes " rounds " ++ decimal rounds) ++ counted_line (codes " moves ") moves
