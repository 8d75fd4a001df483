-- Where a session is: at a moment of a run, whatever moves were made and taken back.
use Rattle.std.specs.Prelude.{◌≡◌, ℕ, List, [], length, Option, Some, None}
use Rattle.cf_io.specs.Puts.{Writes}
use Rattle.rv_machine.specs.Hart.{Hart}
use Rattle.rv_machine.specs.Machine.{Machine}
use Rattle.rv_machine.specs.Streams.{streams_of}
use Rattle.cf_bind.specs.declared.moves.Move.{Move}
use Rattle.cf_semantics.specs.moves.Kept.{Kept}
use Rattle.cf_semantics.specs.runs.Runs.{IsReached}
use Rattle.cf_semantics.specs.state.State.{Moment}
use Rattle.cf_core.specs.Processors.{Processor, opened_processor}
use Rattle.cf_run.specs.Headline.{machine_on, moment_after, IsRight, StandsAt, FailsOutput}
use Rattle.cf_run.specs.Moving.{RunPlace, run_place_of}
use Rattle.cf_run.specs.Reaching.{no_tally}
use Rattle.cf_debug.specs.declared.answer.Debugged.{Debugged}
use Rattle.cf_debug.specs.declared.answer.Debugged.TheVariants.{Done, Limit, ReadFault, WriteFault, ReportFault}
use Rattle.cf_debug.specs.Making.{ProcessorState}
use Rattle.cf_debug.specs.Rings.{RecordsLead}

-- moves of a run with empty input lead from the processor, as it was opened, to this one, and what they write was added
-- to the output, none of it by the last of them, which are kept in the ring
pub record StandsAfterMoves (start core : Processor) (ring : List Kept) (blank full : Option (List ℕ)) : Type 0 where
  pub hart : Hart
  pub opened_is : start ≡ opened_processor start.plan hart
  pub wide : length hart.regs ≡ 32
  pub older : Moment
  pub reached : IsReached start.plan (machine_on hart []) older
  pub none : older.rest ≡ []
  pub kept : RecordsLead start.plan older.state ring core.state
  pub plan : core.plan ≡ start.plan
  pub output : Writes blank full older.output

-- the same for a session, whose output exposed this when it began
abbrev pub StandsNow : Processor → Option (List ℕ) → ProcessorState → Type 0
StandsNow start blank now = StandsAfterMoves start now.core now.ring blank now.output

-- the same, from some processor, whatever was written
abbrev pub StandsSomewhere : Processor → List Kept → Type 0
StandsSomewhere core ring = (start : Processor) × StandsAfterMoves start core ring None None

-- a processor with an input of which nothing is left, and with what the output exposes
abbrev pub session_place : Processor → Option (List ℕ) → RunPlace
session_place core output = run_place_of core (streams_of (Some []) output) None no_tally

-- where a session that ended in this way is: at the moment; or the output failed the call that was to be served there
abbrev pub IsLeftAt : Machine → Moment → (begin new : RunPlace) → Debugged → Type 0
IsLeftAt x m begin new Done = StandsAt m begin new
IsLeftAt x m begin new Limit = StandsAt m begin new
IsLeftAt x m begin new ReadFault = StandsAt m begin new
IsLeftAt x m begin new WriteFault = FailsOutput x m begin new
IsLeftAt x m begin new ReportFault = StandsAt m begin new

-- The session ends at a moment of a run: the moves that lead there are right, from the machine on which the processor
-- was opened and with nothing to read. What they write is what was added to the output.
pub record IsOnRun (start core : Processor) (blank full : Option (List ℕ)) (answer : Debugged) : Type 0 where
  pub hart : Hart
  pub opened_is : start ≡ opened_processor start.plan hart
  pub moves : List Move
  pub right : IsRight start.plan (machine_on hart []) moves
  pub left : IsLeftAt (machine_on hart []) (moment_after start.plan (machine_on hart []) moves) (session_place start blank) (session_place core full) answer
