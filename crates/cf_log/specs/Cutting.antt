-- How the bytes of a log are cut into lines (POSIX, "Line"), as they are taken.
use Rattle.std.specs.Prelude.{◌≡◌, ◌≢◌, ◌⊎◌, ℕ, ◌<◌, ◌≤◌, List, [], ◌∷◌, ◌++◌, All, length, map, Option, Result, Ok, Err}
use Rattle.rv_machine.specs.Streams.{GivesInput, IsTold}
use Rattle.rv_text.specs.Lines.{without_return}
use Rattle.cf_log.specs.declared.feed.NextLine.{NextLine}
use Rattle.cf_log.specs.declared.feed.NextLine.TheVariants.{Line, Last, TooLong, AtEnd, Fault}

-- an unfinished line of this many bytes is too long, even if the last of them is a carriage return
abbrev pub longest_held : ℕ
longest_held = 514

-- the bytes that are held at once
abbrev pub most_held : ℕ
most_held = 8192

-- no line feed
abbrev pub IsLogPiece : List ℕ → Type 0
IsLogPiece piece = All (λ byte. byte ≢ 10) piece

-- the pieces, each with a line feed after it
unfoldable pub ended : List (List ℕ) → List ℕ
ended [] = []
ended (piece ∷ pieces) = piece ++ 10 ∷ ended pieces

-- the bytes are these lines, each ended by a line feed, before which one carriage return is dropped; the rest follows
-- them
pub record HasLogLines (bytes : List ℕ) (lines : List (List ℕ)) (rest : List ℕ) : Type 0 where
  pub pieces : List (List ℕ)
  pub are_pieces : All IsLogPiece pieces
  pub bytes_are : bytes ≡ ended pieces ++ rest
  pub lines_are : lines ≡ map without_return pieces

-- the latest line, and the bytes after it that were taken and are not yet used
pub record LogFeeding : Type 0 where
  pub line : List ℕ
  pub rest : List ℕ

-- the line is the first in these bytes, ended by a line feed, and the rest comes after it
pub record IsCut (bytes : List ℕ) (new : LogFeeding) : Type 0 where
  pub piece : List ℕ
  pub is_piece : IsLogPiece piece
  pub parts : bytes ≡ piece ++ 10 ∷ new.rest
  pub line : new.line ≡ without_return piece

-- this many bytes of the log were taken, and follow those that were there
abbrev pub FillsHeld : (before after : Option (List ℕ)) → (had have : List ℕ) → ℕ → Type 0
FillsHeld before after had have count =
    (taken : List ℕ) × GivesInput before after taken × (have ≡ had ++ taken) × (count ≡ length taken)

-- what is left at the end of the log: an unfinished line, or nothing
unfoldable pub FinishesLog : List ℕ → LogFeeding → NextLine → Type 0
FinishesLog rest new Last = (0 < length rest) × (new.line ≡ rest) × (new.rest ≡ [])
FinishesLog rest new AtEnd = (rest ≡ []) × (new.rest ≡ [])
FinishesLog rest new next = ⊥

-- these bytes were taken after those that were not yet used, and only if no line feed was among those
abbrev pub TakesOn : (before after : Option (List ℕ)) → (rest taken : List ℕ) → Type 0
TakesOn before after rest taken = GivesInput before after taken × ((taken ≡ []) ⊎ IsLogPiece rest)

-- what comes next in the log: a line that is ended; the unfinished line at the end of the log; an unfinished line that
-- is too long; nothing, at the end; or a take failed, and no line is ended
unfoldable pub FeedsLog : (before after : Option (List ℕ)) → (now new : LogFeeding) → NextLine → Type 0
FeedsLog before after now new Line =
    (taken : List ℕ) × TakesOn before after now.rest taken × IsCut (now.rest ++ taken) new × (length new.rest < most_held)
FeedsLog before after now new Last =
    (taken : List ℕ) × TakesOn before after now.rest taken × IsTold before taken × (now.rest ++ taken ≡ new.line)
    × IsLogPiece new.line × (0 < length new.line) × (new.rest ≡ [])
FeedsLog before after now new TooLong =
    (taken : List ℕ) × TakesOn before after now.rest taken × (now.rest ++ taken ≡ new.line)
    × IsLogPiece new.line × (longest_held ≤ length new.line) × (new.rest ≡ [])
FeedsLog before after now new AtEnd = (now.rest ≡ []) × IsTold before [] × GivesInput before after [] × (new.rest ≡ [])
FeedsLog before after now new Fault =
    (taken : List ℕ) × TakesOn before after now.rest taken × (new.rest ≡ now.rest ++ taken) × IsLogPiece new.rest

-- an error if a take failed
abbrev pub log_fed : NextLine → Result (Unit {0}) (Unit {0})
log_fed Fault = Err tt
log_fed next = Ok tt
