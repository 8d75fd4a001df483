-- The moves that the words and the flags list, in the order of the candidates.
use Rattle.std.specs.Prelude.{ℕ, ◌+◌, ◌/◌, ◌%◌, Bool, true, false, List, [], ◌∷◌, ◌++◌, map}
use Rattle.cf_bind.specs.declared.passenger.Guess.TheVariants as guess
use Rattle.cf_bind.specs.declared.moves.Move.{Move}
use Rattle.cf_bind.specs.declared.moves.Move.TheVariants.{Issue, Emit, Climb, Fall, Meet, Execute, Send, Launch, Slide, Access, Recover, Leave, Exit, Serve}
use Rattle.cf_index.specs.declared.entering.Entering.{Entering}
use Rattle.cf_index.specs.declared.passing.Passing.{Passing}
use Rattle.cf_index.specs.declared.leaving.Leaving.{Leaving}
use Rattle.cf_index.specs.Places.{set_places}

-- a move, if its flag is set
abbrev pub flagged : Bool → Move → List Move
flagged true mv = mv ∷ []
flagged false mv = []

-- one kind of move, at each stage of a word with bit i - 1 for stage i
unfoldable pub at_word : (ℕ → Move) → ℕ → List Move
at_word kind w = map (λ k. kind (k + 1)) (set_places 64 w)

-- the move within the sidings for bit 8k + c: siding k, cell c
abbrev pub slide_at : ℕ → Move
slide_at j = Slide (j / 8) (j % 8)

-- the moves within the sidings of a word
unfoldable pub slides_of : ℕ → List Move
slides_of w = map slide_at (set_places 64 w)

-- what enters the two pipes
unfoldable pub entering_moves : Entering → List Move
entering_moves e = flagged e.next (Issue guess.Next) ++ (flagged e.taken (Issue guess.Taken) ++ (flagged e.wait (Issue guess.Wait) ++ flagged e.emit Emit))

-- what goes on in the stages
unfoldable pub passing_moves : Passing → List Move
passing_moves p =
    at_word Climb p.climb ++ (at_word Fall p.fall ++ (at_word Meet p.meet
    ++ (at_word Execute p.execute ++ (at_word Send p.send ++ at_word Launch p.launch))))

-- what leaves the sidings and the two pipes
unfoldable pub leaving_moves : Leaving → List Move
leaving_moves l = flagged l.access Access ++ (at_word Recover l.recover ++ (flagged l.leave Leave ++ (flagged l.exit Exit ++ flagged l.serve Serve)))
