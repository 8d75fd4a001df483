-- A run in rounds: round after round, until the program ends or the limit is reached.
use Rattle.std.specs.Prelude.{◌≡◌, ℕ, ◌+◌, List, [], ◌∷◌, ◌++◌, length, Err}
use Rattle.run_options.specs.declared.guess_rule.GuessRule.{GuessRule}
use Rattle.run_options.specs.Reportings as show
use Rattle.cf_layout.specs.Layout.{Plan}
use Rattle.cf_bind.specs.declared.moves.Move.TheVariants.{Serve}
use Rattle.cf_semantics.specs.state.State.{State}
use Rattle.cf_sched.specs.Paces.{offered_by}
use Rattle.run_finishes.specs.declared.finish.Ran.{Ran as Answer}
use Rattle.run_finishes.specs.declared.finish.Ran.TheVariants as ran
use Rattle.cf_run.specs.Made.{Made, moves_of}
use Rattle.cf_run.specs.Moving.{RunPlace, MoveDoes}
use Rattle.cf_run.specs.Reaching.{GoesOn, IsOver, Reaches}
use Rattle.cf_rounds.specs.declared.answer.Clocked.{Clocked}
use Rattle.cf_rounds.specs.declared.answer.Clocked.TheVariants.{Exit, Trap, Limit, ReadFault, WriteFault, ReportFault}
use Rattle.cf_rounds.specs.Firing.{paced_by}
use Rattle.cf_rounds.specs.Rounds.{round_of}

-- the state after some moves
abbrev pub state_after_made : State → List Made → State
state_after_made s [] = s
state_after_made s (made ∷ trace) = state_after_made made.state trace

-- the moves of all rounds
abbrev pub all_of : List (List Made) → List Made
all_of [] = []
all_of (made ∷ rounds) = made ++ all_of rounds

-- the rounds are made one after the other, each while the run goes on. Each is the round of the candidates there that
-- the guess rule keeps, held back by the count of the Issue moves before it
unfoldable pub InRounds : GuessRule → Plan → ℕ → ℕ → State → List (List Made) → (last : ℕ) → (end : State) → Type 0
InRounds rule plan limit count s [] last end = (last ≡ count) × (end ≡ s)
InRounds rule plan limit count s (made ∷ rounds) last end =
    GoesOn limit s × (moves_of made ≡ round_of plan s (offered_by rule plan count s))
    × InRounds rule plan limit (paced_by count made) (state_after_made s made) rounds last end

-- the round there is Serve alone, whose call failed
pub record FailsThere (rule : GuessRule) (limit count : ℕ) (now new : RunPlace) (answer : Answer) : Type 0 where
  pub goes : GoesOn limit now.core.state
  pub serves : round_of now.core.plan now.core.state (offered_by rule now.core.plan count now.core.state) ≡ Serve ∷ []
  pub does : MoveDoes show.report Serve now new (Err answer)

-- the run stops here: it is over, or the report failed, and nothing changes; or the call of its next round failed
abbrev pub StopsRounds : GuessRule → (limit count : ℕ) → (now new : RunPlace) → Clocked → Type 0
StopsRounds rule limit count now new (Exit status) = IsOver limit now.core.state (ran.Exit status) × (new ≡ now)
StopsRounds rule limit count now new (Trap cause pc detail) = IsOver limit now.core.state (ran.Trap cause pc detail) × (new ≡ now)
StopsRounds rule limit count now new Limit = IsOver limit now.core.state ran.Limit × (new ≡ now)
StopsRounds rule limit count now new ReadFault = FailsThere rule limit count now new ran.ReadFault
StopsRounds rule limit count now new WriteFault = FailsThere rule limit count now new ran.WriteFault
StopsRounds rule limit count now new ReportFault = new ≡ now

-- the run makes this many rounds, and stops after them with this answer. After the Leave with which the limit is
-- reached a round may have another move
pub record RunsRounds (rule : GuessRule) (limit : ℕ) (start new : RunPlace) (number : ℕ) (answer : Clocked) : Type 0 where
  pub now : RunPlace
  pub reaches : Reaches (limit + 1) show.report start now
  pub rounds : List (List Made)
  pub are : reaches.trace ≡ all_of rounds
  pub held : ℕ
  pub chosen : InRounds rule start.core.plan limit 0 start.core.state rounds held now.core.state
  pub count : number ≡ length rounds
  pub stops : StopsRounds rule limit held now new answer

-- the answer that a run under a policy has there
abbrev pub ran_of : Clocked → Answer
ran_of (Exit status) = ran.Exit status
ran_of (Trap cause pc detail) = ran.Trap cause pc detail
ran_of Limit = ran.Limit
ran_of ReadFault = ran.ReadFault
ran_of WriteFault = ran.WriteFault
ran_of ReportFault = ran.ReportFault
