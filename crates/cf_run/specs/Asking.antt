-- Which moves of a run use the input or the output: a stream that no move uses is unchanged ("Counterflow Pipeline
-- Processor Architecture", 1994).
use Rattle.std.specs.Prelude.{◌≡◌, ◌⊎◌, ℕ, List, [], ◌∷◌, Some, Ok}
use Rattle.run_options.specs.declared.reporting.Reporting.{Reporting}
use Rattle.cf_layout.specs.Layout.{Plan}
use Rattle.cf_bind.specs.declared.moves.Move.{Move}
use Rattle.cf_semantics.specs.state.State.{State}
use Rattle.cf_core.specs.Processors.{Processor}
use Rattle.cf_core.specs.Asking.{AsksInput, AsksOutput}
use Rattle.run_scripts.specs.Scripts.{ScriptLines, next_of}
use Rattle.run_finishes.specs.declared.finish.Scripted.{Scripted}
use Rattle.cf_run.specs.Made.{Made}
use Rattle.cf_run.specs.Reaching.{GoesOn}
use Rattle.cf_run.specs.Scripts.{ScriptRun, RunsScript}

-- one of these moves uses the stream; the first move was made in that state, and each other in the state that the move
-- before it left
unfoldable pub SomeAsks : (asks : Processor → Move → Type 0) → Plan → State → List Made → Type 0
SomeAsks asks plan s [] = ⊥
SomeAsks asks plan s (made ∷ trace) =
    asks (record { plan = plan; state = s }) made.move ⊎ SomeAsks asks plan made.state trace

-- the run goes on to the next move of the script, which uses the stream
pub record NextAsks (asks : Processor → Move → Type 0) (limit : ℕ) (core : Processor) (script : ScriptLines) : Type 0 where
  pub goes : GoesOn limit core.state
  pub line : ℕ
  pub move : Move
  pub next : next_of script ≡ Ok (Some (line, move))
  pub asked : asks core move

-- a move of the run uses the stream: one of those that lead to where it stops, or the next one there
abbrev pub RunAsks : (asks : Processor → Move → Type 0) (limit : ℕ) (show : Reporting) (start new : ScriptRun) (answer : Scripted) →
    RunsScript limit show start new answer → Type 0
RunAsks asks limit show start new answer runs =
    SomeAsks asks start.place.core.plan start.place.core.state runs.follows.reaches.trace
    ⊎ NextAsks asks limit runs.now.place.core runs.now.script

-- a run, with a claim about the input that is true unless a move of the run uses it, and one about the output
pub record RunsUnasked (limit : ℕ) (show : Reporting) (start new : ScriptRun) (answer : Scripted) (input output : Type 0) : Type 0 where
  pub runs : RunsScript limit show start new answer
  pub input_asked : (RunAsks AsksInput limit show start new answer runs → ⊥) → input
  pub output_asked : (RunAsks AsksOutput limit show start new answer runs → ⊥) → output
