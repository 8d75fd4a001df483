-- One move of a run: it is made, counted and shown, or the answer says why the run stops there.
use Rattle.std.specs.Prelude.{◌≡◌, ◌⊎◌, ℕ, List, Option, None, Result, Ok, Err}
use Rattle.run_options.specs.declared.reporting.Reporting.{Reporting}
use Rattle.cf_io.specs.Puts.{Writes, WritesFront, WritesNothing}
use Rattle.rv_machine.specs.Streams.{Streams, streams_of}
use Rattle.cf_bind.specs.declared.moves.Move.{Move}
use Rattle.cf_bind.specs.declared.moves.Move.TheVariants.{Serve}
use Rattle.cf_semantics.specs.declared.event.Event.{Event}
use Rattle.cf_semantics.specs.moves.Bars.{bar as first_bar}
use Rattle.cf_semantics.specs.moves.Events.{IsEvent}
use Rattle.cf_core.specs.Processors.{Processor}
use Rattle.cf_core.specs.Stepping.{Makes, FailsToRead, FailsToWrite}
use Rattle.cf_report.specs.declared.tally.Tally.{Tally}
use Rattle.run_finishes.specs.declared.finish.Ran.{Ran as Answer}
use Rattle.run_finishes.specs.declared.finish.Ran.TheVariants as ran
use Rattle.cf_run.specs.Made.{counted_event, shown}

-- where a run has arrived: the processor, what input and output expose, what the report exposes, and what was counted
pub record RunPlace : Type 0 where
  pub core : Processor
  pub streams : Streams
  pub report : Option (List ℕ)
  pub tally : Tally

-- the RunPlace with these parts
abbrev pub run_place_of : Processor → Streams → Option (List ℕ) → Tally → RunPlace
run_place_of core streams report tally = record { core = core; streams = streams; report = report; tally = tally }

-- the RunPlace of what a source and two sinks expose
abbrev pub place_by : {S K R : Type 0} → (S → Option (List ℕ)) → (K → Option (List ℕ)) → (R → Option (List ℕ)) →
    Processor → S → K → R → Tally → RunPlace
place_by unread written reported core input output report tally =
    run_place_of core (streams_of (unread input) (written output)) (reported report) tally

-- nothing barred the move; it was made and counted, with this event
pub record MakesMove (mv : Move) (event : Event) (now new : RunPlace) : Type 0 where
  pub allowed : first_bar now.core.plan now.core.state mv ≡ None
  pub makes : Makes now.core new.core mv now.streams new.streams
  pub is_event : IsEvent now.core.plan now.core.state mv event
  pub tally : new.tally ≡ counted_event now.tally mv event

-- what a report shows of it
abbrev pub shown_of : Reporting → (mv : Move) → Event → (now new : RunPlace) → List ℕ
shown_of show mv e now new =
    shown show now.core.plan new.tally.moves (record { move = mv; event = e; state = new.core.state })

-- it was made and shown
pub record MakesAndShows (show : Reporting) (mv : Move) (event : Event) (now new : RunPlace) : Type 0 where
  pub makes : MakesMove mv event now new
  pub report : Writes now.report new.report (shown_of show mv event now new)

-- it was made, and the report failed after a prefix of what is shown of it, before it had all
pub record MakesUnshown (show : Reporting) (mv : Move) (event : Event) (now new : RunPlace) : Type 0 where
  pub makes : MakesMove mv event now new
  pub report : WritesFront now.report new.report (shown_of show mv event now new)

-- what else is true if the input or the output fails a call: nothing barred the move, it was Serve, and nothing was
-- counted or shown
pub record FailsOutside (mv : Move) (now new : RunPlace) : Type 0 where
  pub allowed : first_bar now.core.plan now.core.state mv ≡ None
  pub serves : mv ≡ Serve
  pub report : WritesNothing now.report new.report
  pub tally : new.tally ≡ now.tally

-- what the move does: it is made with this event, or the answer of the run says why it stops
unfoldable pub MoveDoes : Reporting → Move → (now new : RunPlace) → Result Event Answer → Type 0
MoveDoes show mv now new (Ok event) = MakesAndShows show mv event now new
MoveDoes show mv now new (Err ran.ReadFault) =
    FailsOutside mv now new × FailsToRead now.core new.core now.streams new.streams
MoveDoes show mv now new (Err ran.WriteFault) =
    FailsOutside mv now new × FailsToWrite now.core new.core now.streams new.streams
MoveDoes show mv now new (Err ran.ReportFault) = (event : Event) × MakesUnshown show mv event now new
MoveDoes show mv now new (Err (ran.Exit status)) = ⊥
MoveDoes show mv now new (Err (ran.Trap cause pc detail)) = ⊥
MoveDoes show mv now new (Err ran.Limit) = ⊥

-- the report failed to pass on what it had gathered before the move, which was not made: nothing barred the move, it
-- was Serve, and nothing changed
pub record FailsBefore (mv : Move) (now new : RunPlace) : Type 0 where
  pub allowed : first_bar now.core.plan now.core.state mv ≡ None
  pub serves : mv ≡ Serve
  pub core : new.core ≡ now.core
  pub streams : new.streams ≡ now.streams
  pub report : WritesNothing now.report new.report
  pub tally : new.tally ≡ now.tally

-- what the move does if the report may gather its text: the same, or the report fails before it
abbrev pub MoveGoes : Reporting → Move → (now new : RunPlace) → Result Event Answer → Type 0
MoveGoes show mv now new (Ok event) = MoveDoes show mv now new (Ok event)
MoveGoes show mv now new (Err ran.ReportFault) = MoveDoes show mv now new (Err ran.ReportFault) ⊎ FailsBefore mv now new
MoveGoes show mv now new (Err answer) = MoveDoes show mv now new (Err answer)

-- an error if the input failed the run
abbrev pub input_done : Result Event Answer → Result (Unit {0}) (Unit {0})
input_done (Err ran.ReadFault) = Err tt
input_done answer = Ok tt

-- an error if the output failed the run
abbrev pub output_done : Result Event Answer → Result (Unit {0}) (Unit {0})
output_done (Err ran.WriteFault) = Err tt
output_done answer = Ok tt

-- an error if the report failed the run
abbrev pub report_done : Result Event Answer → Result (Unit {0}) (Unit {0})
report_done (Err ran.ReportFault) = Err tt
report_done answer = Ok tt
