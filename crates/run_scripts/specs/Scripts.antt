-- What a script says (a format of this project): one move a line; comments and blank lines are skipped.
use Rattle.std.specs.Prelude.{ℕ, ◌+◌, ◌==◌, ◌||◌, Bool, Option, Some, None, Result, Ok, Err, List, [], ◌∷◌, length, drop, codes, nat_eq, if◌then◌else◌}
use Rattle.std.specs.List.{starts_with}
use Rattle.rv_text.specs.Lines.{text_lines}
use Rattle.cf_bind.specs.declared.moves.Move.{Move}
use Rattle.run_scripts.specs.declared.refusal.ScriptKind.{ScriptKind}
use Rattle.run_scripts.specs.declared.refusal.ScriptErr.{ScriptErr}
use Rattle.run_scripts.specs.Words.{words_of}
use Rattle.run_scripts.specs.MoveLines.{move_in}

-- the moves of a script in order, each after its line number, up to the first line that gives no move, and that line's
-- refusal
pub record ScriptLines : Type 0 where
  pub moves : List (ℕ × Move)
  pub refused : Option ScriptErr

-- a comment, or a blank line
unfoldable pub is_skipped : List ℕ → Bool
is_skipped line = starts_with nat_eq line (codes "#") || length (words_of line) == 0

-- what a script says from a line on, if this line gives that move or refusal
abbrev pub told_by : ℕ → Result Move ScriptKind → ScriptLines → ScriptLines
told_by line (Ok mv) after = record after { moves = (line, mv) ∷ after.moves }
told_by line (Err kind) after = record { moves = []; refused = Some (record { line = line; kind = kind }) }

-- what the lines after that many others say; lines are counted from 1
abbrev pub told_from : ℕ → List (List ℕ) → ScriptLines
told_from above [] = record { moves = []; refused = None }
told_from above (line ∷ lines) =
    if is_skipped line then told_from (above + 1) lines
    else told_by (above + 1) (move_in line) (told_from (above + 1) lines)

-- what a script says
unfoldable pub script_of : List ℕ → ScriptLines
script_of text = told_from 0 (text_lines text)

-- the first of some moves, or what comes after them
abbrev pub first_of : List (ℕ × Move) → Option ScriptErr → Result (Option (ℕ × Move)) ScriptErr
first_of (mv ∷ moves) refused = Ok (Some mv)
first_of [] (Some e) = Err e
first_of [] None = Ok None

-- what comes next: a move with its line, or the end, or the refusal
abbrev pub next_of : ScriptLines → Result (Option (ℕ × Move)) ScriptErr
next_of told = first_of told.moves told.refused

-- what is left after that; the end and a refusal do not change
abbrev pub after_next : ScriptLines → ScriptLines
after_next told = record told { moves = drop 1 told.moves }
