-- One turn of a run in rounds: the round of what is offered is made, or the run stops.
use Rattle.std.specs.Prelude.{◌≡◌, ℕ, ◌<◌, List, [], ◌∷◌, length, Option, Some, None, Result, Ok, Err}
use Rattle.run_options.specs.declared.guess_rule.GuessRule.{GuessRule}
use Rattle.run_options.specs.Reportings as show
use Rattle.cf_bind.specs.declared.moves.Move.{Move}
use Rattle.cf_bind.specs.declared.moves.Move.TheVariants.{Serve}
use Rattle.cf_index.specs.Alone.{HasSidings}
use Rattle.cf_sched.specs.Paces.{PaceCount, HasCounted, offered_by}
use Rattle.run_finishes.specs.declared.finish.Ran.{Ran as Answer}
use Rattle.run_finishes.specs.declared.finish.Ran.TheVariants as ran
use Rattle.cf_run.specs.Moving.{RunPlace, MoveDoes}
use Rattle.cf_run.specs.Reaching.{GoesOn, IsOver}
use Rattle.cf_rounds.specs.declared.answer.Clocked.{Clocked}
use Rattle.cf_rounds.specs.declared.answer.Clocked.TheVariants.{Exit, Trap, Limit, ReadFault, WriteFault, ReportFault}
use Rattle.cf_rounds.specs.declared.answer.Fired.{Fired}
use Rattle.cf_rounds.specs.declared.answer.Fired.TheVariants as fired
use Rattle.cf_rounds.specs.Firing.{FiresAll}
use Rattle.cf_rounds.specs.Rounds.{IsRound, round_of}

-- these candidates are offered there, whatever guess rule and count of Issue moves the pace has, and this is their
-- round
pub record IsOffered (now : RunPlace) (pace : PaceCount) (moves round : List Move) : Type 0 where
  pub moves_are : (rule : GuessRule) (count : ℕ) → HasCounted rule now.core.plan.stages count pace → moves ≡ offered_by rule now.core.plan count now.core.state
  pub round_is : round ≡ round_of now.core.plan now.core.state moves
  pub is_round : IsRound now.core.plan now.core.state round
  pub sidings : HasSidings now.core.plan now.core.state
  pub some : 0 < length round

-- the run goes on, and the round is made
pub record GoesRound (limit : ℕ) (now new : RunPlace) (pace later : PaceCount) : Type 0 where
  pub goes : GoesOn limit now.core.state
  pub moves : List Move
  pub round : List Move
  pub offer : IsOffered now pace moves round
  pub fired : Fired
  pub fires : FiresAll round now new pace later fired

-- the run goes on, and the round is Serve, whose call fails
pub record FailsRound (limit : ℕ) (now new : RunPlace) (pace : PaceCount) (answer : Answer) : Type 0 where
  pub goes : GoesOn limit now.core.state
  pub moves : List Move
  pub round : List Move
  pub offer : IsOffered now pace moves round
  pub serves : round ≡ Serve ∷ []
  pub does : MoveDoes show.report Serve now new (Err answer)

-- one turn
unfoldable pub RoundTurns : ℕ → (now new : RunPlace) → (pace later : PaceCount) → Option Clocked → Type 0
RoundTurns limit now new pace later None = GoesRound limit now new pace later
RoundTurns limit now new pace later (Some (Exit status)) = IsOver limit now.core.state (ran.Exit status) × (new ≡ now)
RoundTurns limit now new pace later (Some (Trap cause pc detail)) = IsOver limit now.core.state (ran.Trap cause pc detail) × (new ≡ now)
RoundTurns limit now new pace later (Some Limit) = IsOver limit now.core.state ran.Limit × (new ≡ now)
RoundTurns limit now new pace later (Some ReadFault) = FailsRound limit now new pace ran.ReadFault
RoundTurns limit now new pace later (Some WriteFault) = FailsRound limit now new pace ran.WriteFault
RoundTurns limit now new pace later (Some ReportFault) = ⊥

-- how the run finishes after a round that shows this, if it does
abbrev pub finish_with : Fired → Option Clocked
finish_with fired.ReadFault = Some ReadFault
finish_with fired.WriteFault = Some WriteFault
finish_with f = None

-- an error if the input failed the turn
abbrev pub input_turned : Option Clocked → Result (Unit {0}) (Unit {0})
input_turned (Some ReadFault) = Err tt
input_turned answer = Ok tt

-- an error if the output failed the turn
abbrev pub output_turned : Option Clocked → Result (Unit {0}) (Unit {0})
output_turned (Some WriteFault) = Err tt
output_turned answer = Ok tt

-- an error if the report failed after a round
abbrev pub report_turned : Option Clocked → Result (Unit {0}) (Unit {0})
report_turned (Some ReportFault) = Err tt
report_turned answer = Ok tt
