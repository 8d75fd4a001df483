-- What the run of a script does: the moves that it makes, why it stops after them, and what it leaves.
use Rattle.std.specs.Prelude.{◌≡◌, ℕ, List, map, take, drop, length, Option, Some, None, Result, Ok, Err}
use Rattle.run_options.specs.declared.reporting.Reporting.{Reporting}
use Rattle.cf_bind.specs.declared.moves.Move.{Move}
use Rattle.cf_semantics.specs.declared.event.Event.{Event}
use Rattle.cf_semantics.specs.moves.Bars.{bar as first_bar}
use Rattle.cf_report.specs.declared.tally.Tally.{Tally}
use Rattle.run_scripts.specs.Scripts.{ScriptLines, next_of, after_next}
use Rattle.run_finishes.specs.declared.finish.Ran.TheVariants as ran
use Rattle.run_finishes.specs.declared.finish.Scripted.{Scripted}
use Rattle.run_finishes.specs.declared.finish.Scripted.TheVariants.{Ran, ScriptEnd, BadScript, BarredAt}
use Rattle.cf_run.specs.Made.{moves_of}
use Rattle.cf_run.specs.Moving.{RunPlace, MoveDoes, MoveGoes}
use Rattle.cf_run.specs.Reaching.{Reaches, GoesOn, IsOver}

-- where the run of a script has arrived: its RunPlace, and what is left of the script
pub record ScriptRun : Type 0 where
  pub place : RunPlace
  pub script : ScriptLines

-- the ScriptRun with these parts
abbrev pub script_run_of : RunPlace → ScriptLines → ScriptRun
script_run_of place script = record { place = place; script = script }

-- the first moves of a script, as many as were counted
abbrev pub first_moves : ScriptLines → Tally → List Move
first_moves script tally = map (λ line. line.1) (take tally.moves script.moves)

-- the run has followed the script from one ScriptRun to another
pub record Follows (limit : ℕ) (show : Reporting) (start now : ScriptRun) : Type 0 where
  pub reaches : Reaches limit show start.place now.place
  -- its moves are the first of the script, and the others are left of it
  pub moves : moves_of reaches.trace ≡ map (λ line. line.1) (take (length reaches.trace) start.script.moves)
  pub script : now.script ≡ record start.script { moves = drop (length reaches.trace) start.script.moves }

-- the effect of the move of this line: it is made, or its first bar or another answer says why the run stops
unfoldable pub DoesLine : Reporting → ℕ → Move → (now new : RunPlace) → Option Scripted → Type 0
DoesLine show line mv now new None = (event : Event) × MoveDoes show mv now new (Ok event)
DoesLine show line mv now new (Some (Ran answer)) = MoveGoes show mv now new (Err answer)
DoesLine show line mv now new (Some (BarredAt at bar)) =
    (at ≡ line) × (first_bar now.core.plan now.core.state mv ≡ Some bar) × (new ≡ now)
DoesLine show line mv now new (Some ScriptEnd) = ⊥
DoesLine show line mv now new (Some (BadScript refusal)) = ⊥

-- the run goes on to the next move of the script, which does this
pub record ScriptTries (limit : ℕ) (show : Reporting) (now new : ScriptRun) (answer : Option Scripted) : Type 0 where
  pub goes : GoesOn limit now.place.core.state
  pub line : ℕ
  pub move : Move
  pub next : next_of now.script ≡ Ok (Some (line, move))
  pub script : new.script ≡ after_next now.script
  pub does : DoesLine show line move now.place new.place answer

-- the run stops here: it is over, or the script has no further move or a line that is not a move, and nothing changes;
-- or its next move is the last that it tries
unfoldable pub ScriptStops : ℕ → Reporting → (now new : ScriptRun) → Scripted → Type 0
ScriptStops limit show now new ScriptEnd =
    GoesOn limit now.place.core.state × (next_of now.script ≡ Ok None) × (new ≡ now)
ScriptStops limit show now new (BadScript refusal) =
    GoesOn limit now.place.core.state × (next_of now.script ≡ Err refusal) × (new ≡ now)
ScriptStops limit show now new (BarredAt line bar) = ScriptTries limit show now new (Some (BarredAt line bar))
ScriptStops limit show now new (Ran ran.ReadFault) = ScriptTries limit show now new (Some (Ran ran.ReadFault))
ScriptStops limit show now new (Ran ran.WriteFault) = ScriptTries limit show now new (Some (Ran ran.WriteFault))
ScriptStops limit show now new (Ran ran.ReportFault) = ScriptTries limit show now new (Some (Ran ran.ReportFault))
ScriptStops limit show now new (Ran answer) = IsOver limit now.place.core.state answer × (new ≡ now)

-- the run makes the first moves of the script, and stops after them with this answer
pub record RunsScript (limit : ℕ) (show : Reporting) (start new : ScriptRun) (answer : Scripted) : Type 0 where
  pub now : ScriptRun
  pub follows : Follows limit show start now
  pub stops : ScriptStops limit show now new answer

-- one turn of a run: the next move of the script is made, or the run stops
abbrev pub ScriptTurns : ℕ → Reporting → (now new : ScriptRun) → Option Scripted → Type 0
ScriptTurns limit show now new None = ScriptTries limit show now new None
ScriptTurns limit show now new (Some answer) = ScriptStops limit show now new answer

-- an error if the input failed the run
abbrev pub input_scripted : Option Scripted → Result (Unit {0}) (Unit {0})
input_scripted (Some (Ran ran.ReadFault)) = Err tt
input_scripted answer = Ok tt

-- an error if the output failed the run
abbrev pub output_scripted : Option Scripted → Result (Unit {0}) (Unit {0})
output_scripted (Some (Ran ran.WriteFault)) = Err tt
output_scripted answer = Ok tt

-- an error if the report failed the run
abbrev pub report_scripted : Option Scripted → Result (Unit {0}) (Unit {0})
report_scripted (Some (Ran ran.ReportFault)) = Err tt
report_scripted answer = Ok tt
