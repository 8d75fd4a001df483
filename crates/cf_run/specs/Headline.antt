-- The headline: after each move of a run the processor shows what the sequential machine on which it was opened shows,
-- whether or not the input's remaining bytes are known; and it can drain ("Counterflow Pipeline Processor
-- Architecture", 1994: the order of the local actions is free).
use Rattle.std.specs.Prelude.{◌≡◌, ℕ, ◌+◌, ◌≤◌, List, [], ◌∷◌, ◌++◌, length, Option, Some, None}
use Rattle.run_options.specs.declared.reporting.Reporting.{Reporting}
use Rattle.run_options.specs.Reportings as show
use Rattle.cf_io.specs.Puts.{Writes}
use Rattle.rv_inst.specs.declared.isa.Isa.{Isa}
use Rattle.rv_machine.specs.After.{after}
use Rattle.rv_machine.specs.Hart.{Hart}
use Rattle.rv_machine.specs.Machine.{Machine}
use Rattle.rv_machine.specs.Streams.{Streams, Leaves}
use Rattle.rv_machine.specs.declared.outcome.Retired.{Retired}
use Rattle.cf_layout.specs.Layout.{Plan}
use Rattle.cf_bind.specs.declared.moves.Move.{Move}
use Rattle.cf_bind.specs.declared.moves.Move.TheVariants.{Serve}
use Rattle.cf_semantics.specs.moves.Bars.{bar}
use Rattle.cf_semantics.specs.claims.Determined.{Drains, EndsAs, EndAlike}
use Rattle.cf_semantics.specs.moves.Events.{Shows}
use Rattle.cf_semantics.specs.state.Layouts.{isa_of}
use Rattle.cf_semantics.specs.runs.Lines.{Line, lines, sequence}
use Rattle.cf_semantics.specs.claims.Refines.{Refines, gained}
use Rattle.cf_semantics.specs.runs.Runs.{IsRun, run, start as start_on}
use Rattle.cf_semantics.specs.state.State.{State, Moment}
use Rattle.cf_semantics.specs.claims.Weight.{issues, weight}
use Rattle.theory_unknown_input.specs.UnknownInput.{finding, GoesTo, LeadsTo}
use Rattle.cf_core.specs.Processors.{in_state, opened_processor}
use Rattle.cf_core.specs.Stepping.{FailsToRead, FailsToWrite}
use Rattle.cf_report.specs.Lines.{retired_line}
use Rattle.cf_report.specs.Putting.{WritesPart}
use Rattle.run_finishes.specs.declared.finish.Ran.TheVariants as ran
use Rattle.run_finishes.specs.declared.finish.Scripted.{Scripted}
use Rattle.run_finishes.specs.declared.finish.Scripted.TheVariants.{Ran}
use Rattle.cf_run.specs.Made.{Made, all_shown}
use Rattle.cf_run.specs.Moving.{RunPlace}

-- The sequential machine as a run begins: the hart on which the processor was opened, with this input and nothing
-- written.
abbrev pub machine_on : Hart → List ℕ → Machine
machine_on hart rest = record { hart = hart; rest = rest; output = [] }

-- The moment to which the moves lead from the machine.
abbrev pub moment_after : Plan → Machine → List Move → Moment
moment_after plan x moves = run plan (start_on plan x) moves

-- The instructions that the machine retires: as many as have retired at that moment.
abbrev pub lines_after : Plan → Machine → List Move → List Line
lines_after plan x moves = sequence (isa_of plan) x (gained x (moment_after plan x moves).state)

-- With Issue held back the processor drains, within a stated number of moves, to one end: drained, in one state except
-- for the cache at the bottom, or with the end of the program.
pub record Settles (plan : Plan) (x : Machine) (m : Moment) : Type 0 where
  -- every run without Issue has at most as many moves as the weight of the state
  pub bounded : (moves : List Move) → IsRun plan m moves → issues moves ≡ 0 → length moves ≤ weight plan m.state
  -- there is a maximal run without Issue
  pub drains : (t : Moment) × Drains plan m t
  -- if the program goes on, each such run retires what is on the sequential path, and ends drained there or with the
  -- program's end
  pub ends : m.state.ending ≡ None → (t : Moment) → Drains plan m t → EndsAs plan x m t
  -- any two such runs end alike
  pub alike : (t u : Moment) → Drains plan m t → Drains plan m u → EndAlike t u

-- The moves are a run of the processor from the machine. At the moment to which they lead, the retired instructions,
-- the registers and the ending are those of the sequential machine after as many instructions, and input, output and
-- memory are those after the instructions that were served or have passed the memory port; and from there the processor
-- drains.
pub record IsRight (plan : Plan) (x : Machine) (moves : List Move) : Type 0 where
  pub allowed : IsRun plan (start_on plan x) moves
  pub refines : Refines plan x (lines plan (start_on plan x) moves) (moment_after plan x moves)
  pub settles : Settles plan x (moment_after plan x moves)

-- The processor is at the moment: the remaining input and the output are the moment's.
pub record StandsAt (m : Moment) (begin new : RunPlace) : Type 0 where
  pub core : new.core ≡ in_state begin.core m.state
  pub streams : Leaves begin.streams new.streams m.rest m.output

-- Registers, count and ending are those of the moment.
pub record IsUnmoved (m : Moment) (s : State) : Type 0 where
  pub regs : s.regs ≡ m.state.regs
  pub retired : s.retired ≡ m.state.retired
  pub ending : s.ending ≡ m.state.ending

-- The input failed the call that was to be served at the moment: registers, count and ending are those before the call,
-- and the output is the moment's.
pub record FailsInput (m : Moment) (begin new : RunPlace) : Type 0 where
  pub allowed : bar begin.core.plan m.state Serve ≡ None
  pub before : Streams
  pub reached : Leaves begin.streams before m.rest m.output
  pub fails : FailsToRead (in_state begin.core m.state) new.core before new.streams
  pub unmoved : IsUnmoved m new.core.state
  pub output : Writes begin.streams.output new.streams.output m.output

-- The bytes are a prefix of what the machine has written after n steps, all of which it makes.
pub record IsFrontAfter (isa : Isa) (x : Machine) (n : ℕ) (written : List ℕ) : Type 0 where
  pub at : Machine
  pub count : after isa x n ≡ Some at
  pub more : List ℕ
  pub front : at.output ≡ written ++ more

-- The output failed the call that was to be served at the moment: registers, count and ending are those before the
-- call, and what was written is a prefix of what the sequential machine has written after its next step, which is the
-- call.
pub record FailsOutput (x : Machine) (m : Moment) (begin new : RunPlace) : Type 0 where
  pub allowed : bar begin.core.plan m.state Serve ≡ None
  pub before : Streams
  pub reached : Leaves begin.streams before m.rest m.output
  pub fails : FailsToWrite (in_state begin.core m.state) new.core before new.streams
  pub unmoved : IsUnmoved m new.core.state
  pub written : List ℕ
  pub output : Writes begin.streams.output new.streams.output written
  pub front : IsFrontAfter (isa_of begin.core.plan) x (gained x m.state + 1) written

-- Where the run stops: at the moment, or at a failed call that was to be served there.
unfoldable pub StopsAt : Machine → Moment → (begin new : RunPlace) → Scripted → Type 0
StopsAt x m begin new (Ran ran.ReadFault) = FailsInput m begin new
StopsAt x m begin new (Ran ran.WriteFault) = FailsOutput x m begin new
StopsAt x m begin new answer = StandsAt m begin new

-- The text is a line for each of these instructions that retired, numbered from n on.
abbrev pub AreTexts : ℕ → List Line → List ℕ → Type 0
AreTexts n [] text = text ≡ []
AreTexts n (line ∷ more) text =
    (shown : Retired) × (later : List ℕ) × Shows line shown × (text ≡ retired_line n shown ++ later) × AreTexts (n + 1) more later

-- The report got the text; if it failed, a prefix of it, which may be the whole text if it failed before a further
-- move.
unfoldable pub Gets : Option (List ℕ) → Option (List ℕ) → Scripted → List ℕ → Type 0
Gets before after (Ran ran.ReportFault) text = WritesPart before after text
Gets before after answer text = Writes before after text

-- What the report got about these instructions: what is shown of some moves, whose retirement lines are those of the
-- instructions.
abbrev pub ReportsLines : Reporting → ℕ → List Line → (begin new : RunPlace) → Scripted → Type 0
ReportsLines reporting n written begin new answer =
    (trace : List Made) × AreTexts n written (all_shown show.retired begin.core.plan 1 trace)
    × Gets begin.report new.report answer (all_shown reporting begin.core.plan 1 trace)

-- The run is a run of this machine, by these moves: they are right, and so are the moves made up to any moment of the
-- run; it stops at the moment to which they lead, and the instructions that it reports are those that the machine
-- retires, numbered by its count.
pub record RunsAs (shows : Reporting) (x : Machine) (moves : List Move) (begin new : RunPlace) (answer : Scripted) : Type 0 where
  pub right : IsRight begin.core.plan x moves
  pub throughout : (made more : List Move) → moves ≡ made ++ more → IsRight begin.core.plan x made
  pub stops : StopsAt x (moment_after begin.core.plan x moves) begin new answer
  pub report : ReportsLines shows (x.hart.retired + 1) (lines_after begin.core.plan x moves) begin new answer

-- The moves lead from the start of the machine on this hart to the moment. Each is allowed where it is made and finds
-- some input, and these are the lines of the instructions that retire in them.
pub record IsLed (plan : Plan) (hart : Hart) (moves : List Move) (last : Moment) (written : List Line) : Type 0 where
  pub found : List ℕ
  pub left : List ℕ
  pub leads : LeadsTo plan (start_on plan (machine_on hart found)) moves (finding left last) written

-- The moves are a run of the processor from the machine that starts on this hart, over an input whose remaining bytes
-- are unknown. As many steps as instructions have retired, each with some input, lead to a machine, with these lines,
-- which are those of the moves. With some input left, the moment to which the moves lead shows what that machine does,
-- and from there the processor drains.
-- that machine does, and from there the processor drains.
pub record IsRightOverUnknownInput (plan : Plan) (hart : Hart) (moves : List Move) (at : Machine) (written : List Line) (m : Moment) : Type 0 where
  pub led : IsLed plan hart moves m written
  pub rises : hart.retired ≤ m.state.retired
  pub goes : GoesTo (isa_of plan) (machine_on hart []) (gained (machine_on hart []) m.state) at written
  pub refines : Refines plan at [] m
  pub settles : Settles plan at m
  -- whatever input further moves find, without Issue there are at most as many as the weight of the state
  pub bounded : (more : List Move) (t : Moment) (later : List Line) → LeadsTo plan m more t later → issues more ≡ 0 → length more ≤ weight plan m.state

-- The moves made so far are right over such an input; from the moment to which they lead, with some input left, the
-- others lead on to the last moment; and the lines are those of the former and then of the latter.
pub record IsRightOnTheWay (plan : Plan) (hart : Hart) (made more : List Move) (last : Moment) (written : List Line) : Type 0 where
  pub at : Machine
  pub earlier : List Line
  pub moment : Moment
  pub right : IsRightOverUnknownInput plan hart made at earlier moment
  pub left : List ℕ
  pub later : List Line
  pub leads : LeadsTo plan moment more (finding left last) later
  pub lines : written ≡ earlier ++ later

-- The run is a run of the machine that starts on this hart, over an input whose remaining bytes are unknown, by these
-- moves: they are right, and so are the moves made up to any moment of the run; it stops at the moment to which they
-- lead, and the instructions that it reports are those that retire in them.
pub record RunsOverUnknownInput (shows : Reporting) (hart : Hart) (moves : List Move) (begin new : RunPlace) (answer : Scripted) : Type 0 where
  pub at : Machine
  pub written : List Line
  pub last : Moment
  pub right : IsRightOverUnknownInput begin.core.plan hart moves at written last
  pub throughout : (made more : List Move) → moves ≡ made ++ more → IsRightOnTheWay begin.core.plan hart made more last written
  pub stops : StopsAt at last begin new answer
  pub report : ReportsLines shows (hart.retired + 1) written begin new answer

-- The run is a run of the machine that starts on this hart with what the input exposes, by these moves; if the input
-- exposes nothing, it is a run of the machine each of whose calls finds some input, by these moves too.
abbrev pub RunsOver : Option (List ℕ) → Reporting → Hart → List Move → (begin new : RunPlace) → Scripted → Type 0
RunsOver (Some rest) shows hart moves begin new answer = RunsAs shows (machine_on hart rest) moves begin new answer
RunsOver None shows hart moves begin new answer = RunsOverUnknownInput shows hart moves begin new answer

-- The headline for a run that made these moves, whatever chose them: whatever hart the processor was opened on, and
-- whatever the input exposes, the run is a run of the machine that starts on that hart, at each of its moments.
unfoldable pub RunsSequentially : Reporting → List Move → (begin new : RunPlace) → Scripted → Type 0
RunsSequentially shows moves begin new answer =
    (plan : Plan) (hart : Hart) → begin.core ≡ opened_processor plan hart → RunsOver begin.streams.input shows hart moves begin new answer
