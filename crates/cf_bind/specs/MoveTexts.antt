-- The line of a move in a script (a format of this project).
use Rattle.std.specs.Prelude.{ℕ, List, ◌++◌, codes, decimal}
use Rattle.texts.specs.Hexadecimal.{hex8}
use Rattle.cf_bind.specs.declared.passenger.Guess.{Guess}
use Rattle.cf_bind.specs.declared.passenger.Guess.TheVariants as guess
use Rattle.cf_bind.specs.declared.moves.Move.{Move}
use Rattle.cf_bind.specs.declared.moves.Move.TheVariants.{Issue, Emit, Climb, Fall, Meet, Execute, Send, Launch, Slide, Access, Recover, Leave, Exit, Serve}

-- the text of a guess, which follows `issue`
abbrev pub guess_text : Guess → List ℕ
guess_text guess.Next = codes "next"
guess_text guess.Taken = codes "taken"
guess_text guess.Wait = codes "wait"
guess_text (guess.To t) = codes "to " ++ hex8 t

-- a kind of move and the number of its stage
abbrev pub text_at_stage : List ℕ → ℕ → List ℕ
text_at_stage kind i = kind ++ codes " " ++ decimal i

-- the line of a move, without its line feed: one space between words, numbers without leading zeros, addresses in eight
-- digits
unfoldable pub move_line : Move → List ℕ
move_line (Issue g) = codes "issue " ++ guess_text g
move_line Emit = codes "emit"
move_line (Climb i) = text_at_stage (codes "climb") i
move_line (Fall i) = text_at_stage (codes "fall") i
move_line (Meet i) = text_at_stage (codes "meet") i
move_line (Execute i) = text_at_stage (codes "execute") i
move_line (Send i) = text_at_stage (codes "send") i
move_line (Launch i) = text_at_stage (codes "launch") i
move_line (Slide k c) = codes "slide " ++ decimal k ++ codes " " ++ decimal c
move_line Access = codes "access"
move_line (Recover i) = text_at_stage (codes "recover") i
move_line Leave = codes "leave"
move_line Exit = codes "exit"
move_line Serve = codes "serve"
