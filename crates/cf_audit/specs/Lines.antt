-- The first line of a text, and the move that a line names.
use Rattle.std.specs.Prelude.{◌≡◌, ℕ, false, List, ◌∷◌, ◌++◌, codes, decimal}
use Rattle.cf_bind.specs.declared.moves.Move.{Move}
use Rattle.cf_bind.specs.MoveTexts.{move_line}
use Rattle.cf_audit.specs.Traces.{IsReadBack, has_line}

-- what comes before the move of this number in its line
abbrev pub move_front : ℕ → List ℕ
move_front n = codes "move " ++ decimal n ++ codes " "

-- the line is what comes before the first line feed of the text
pub record IsFirstLine (text line : List ℕ) : Type 0 where
  pub whole : has_line line ≡ false
  pub after : List ℕ
  pub is : text ≡ line ++ 10 ∷ after

-- the line is the one that is written for the move, and it is read as that move
pub record IsMoveLine (line : List ℕ) (mv : Move) : Type 0 where
  pub written : line ≡ move_line mv
  pub told : IsReadBack mv
