-- What is written after the rounds of a run about how far it has come.
use Rattle.std.specs.Prelude.{◌≡◌, ℕ, ◌+◌, List, [], ◌∷◌, ◌++◌, length, nat_eq, not, ◌&&◌, Option, if◌then◌else◌}
use Rattle.cf_io.specs.Puts.{Writes, WritesFront}
use Rattle.cf_semantics.specs.state.State.{State}
use Rattle.cf_report.specs.Progress.{is_step, rounds_line}
use Rattle.cf_run.specs.Made.{Made}
use Rattle.cf_rounds.specs.declared.answer.Clocked.{Clocked}
use Rattle.cf_rounds.specs.declared.answer.Clocked.TheVariants.{ReportFault}
use Rattle.cf_rounds.specs.Running.{state_after_made}

-- what is written after the round of this number, with which this many moves have been made: a line, if an instruction
-- retired in the round and the count of retired instructions is then a multiple of the step
abbrev pub round_text : (every : Option ℕ) (number moves before after : ℕ) → List ℕ
round_text every number moves before after =
    if not (nat_eq before after) && is_step every after then rounds_line after number moves else []

-- what is written after all rounds from a state on, given the number of rounds and moves before them
unfoldable pub rounds_text : (every : Option ℕ) (number moves : ℕ) → State → List (List Made) → List ℕ
rounds_text every number moves s [] = []
rounds_text every number moves s (made ∷ rounds) =
    round_text every (number + 1) (moves + length made) s.retired (state_after_made s made).retired
    ++ rounds_text every (number + 1) (moves + length made) (state_after_made s made) rounds

-- the report failed after the last round: it got the lines of the rounds before, and a prefix of what is written there
pub record BreaksBehind (every : Option ℕ) (s : State) (rounds : List (List Made)) (blank full : Option (List ℕ)) : Type 0 where
  pub earlier : List (List Made)
  pub made : List Made
  pub are : rounds ≡ earlier ++ made ∷ []
  pub text : List ℕ
  pub last : rounds_text every 0 0 s rounds ≡ rounds_text every 0 0 s earlier ++ text
  pub half : Option (List ℕ)
  pub put : Writes blank half (rounds_text every 0 0 s earlier)
  pub breaks : WritesFront half full text

-- what the report got of the rounds of a run that stopped with this answer
abbrev pub Says : Option ℕ → State → List (List Made) → (blank full : Option (List ℕ)) → Clocked → Type 0
Says every s rounds blank full ReportFault = BreaksBehind every s rounds blank full
Says every s rounds blank full answer = Writes blank full (rounds_text every 0 0 s rounds)
