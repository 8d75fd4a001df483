-- How the bytes of the commands are cut into lines (POSIX, "Line"), as they are taken.
use Rattle.std.specs.Prelude.{◌≡◌, ◌≢◌, Bool, true, false, ℕ, ◌+◌, ◌<◌, ◌≤◌, List, [], ◌∷◌, ◌++◌, All, length, map, take, Option, Some, None, Result, Ok, Err}
use Rattle.cf_io.specs.Takes.{IsAtEnd}
use Rattle.rv_machine.specs.Streams.{GivesInput}
use Rattle.rv_text.specs.Lines.{without_return}
use Rattle.cf_debug.specs.declared.command_source.CommandSource.{CommandSource}
use Rattle.cf_debug.specs.declared.feed.Next.{Next}
use Rattle.cf_debug.specs.declared.feed.Next.TheVariants.{Byte, AtEnd, TooMany, Fault}
use Rattle.cf_debug.specs.Limits.{longest_line, most_taken}

-- no line feed
abbrev pub IsPiece : List ℕ → Type 0
IsPiece piece = All (λ byte. byte ≢ 10) piece

-- the pieces, each with a line feed after it, and then the rest
unfoldable pub joined : List (List ℕ) → List ℕ → List ℕ
joined [] rest = rest
joined (piece ∷ pieces) rest = piece ++ 10 ∷ joined pieces rest

-- the bytes are these lines, each ended by a line feed, before which one carriage return is dropped, followed by the
-- unfinished line
pub record HasLines (bytes : List ℕ) (lines : List (List ℕ)) (unfinished : List ℕ) : Type 0 where
  pub pieces : List (List ℕ)
  pub are_pieces : All IsPiece pieces
  pub is_piece : IsPiece unfinished
  pub bytes_are : bytes ≡ joined pieces unfinished
  pub lines_are : lines ≡ map without_return pieces

-- at the end of the commands the unfinished line counts as a line, unless it is empty
abbrev pub last_line : List ℕ → List (List ℕ)
last_line [] = []
last_line (byte ∷ line) = (byte ∷ line) ∷ []

-- what is kept of an unfinished line: enough to show whether it is too long, with a carriage return counted
abbrev pub held_line : List ℕ → List ℕ
held_line line = take (longest_line + 2) line

-- the bytes that were taken and not used yet, how many more may be taken, and whether a take gave none, after which
-- there are no more
pub record Feeding : Type 0 where
  pub rest : List ℕ
  pub left : ℕ
  pub ended : Bool

-- those bytes, with what is known of the source that they come from
abbrev pub feeding : {S : Type 0} → List ℕ → CommandSource S → Feeding
feeding rest commands = record { rest = rest; left = commands.left; ended = commands.ended }

-- the next byte of the commands: if no byte is left of those taken, some are taken; or the commands are at their end,
-- or longer than the limit, or a take failed
unfoldable pub Feeds : (before after : Option (List ℕ)) → (now new : Feeding) → Next → Type 0
Feeds before after now new (Byte byte) =
    (taken : List ℕ) × GivesInput before after taken × (now.rest ++ taken ≡ byte ∷ new.rest)
    × (new.left + length taken ≡ now.left) × (length new.rest < most_taken) × (new.ended ≡ false)
Feeds before after now new AtEnd =
    (now.rest ≡ []) × IsAtEnd before × GivesInput before after [] × (new ≡ record now { ended = true })
Feeds before after now new TooMany = (now.rest ≡ []) × (now.left ≡ 0) × ((byte : ℕ) × GivesInput before after (byte ∷ [])) × (new ≡ now)
Feeds before after now new Fault = (now.rest ≡ []) × GivesInput before after [] × (new ≡ now)

-- an error if a take failed
abbrev pub commands_fed : Next → Result (Unit {0}) (Unit {0})
commands_fed Fault = Err tt
commands_fed next = Ok tt
