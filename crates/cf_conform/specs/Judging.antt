-- The judgement of a line of a log: its move is made, or its observation is compared with the processor; or it is refused.
use Rattle.std.specs.Prelude.{◌≡◌, ℕ, ◌+◌, List, Option, Some, None, Result, Ok, Err}
use Rattle.run_options.specs.Reportings as show
use Rattle.cf_bind.specs.declared.moves.Move.{Move}
use Rattle.cf_semantics.specs.declared.event.Event.{Event}
use Rattle.cf_semantics.specs.moves.Bars.{bar as first_bar}
use Rattle.cf_core.specs.Processors.{Processor}
use Rattle.run_scripts.specs.Words.{words_of}
use Rattle.cf_log.specs.declared.kind.LogKind.{LogKind}
use Rattle.cf_log.specs.declared.kind.LogKind.TheVariants.{TooLong, NotAscii, BadTime, UnknownLine, BadNumber, ExtraWords, Barred}
use Rattle.cf_log.specs.declared.kind.LogKind.TheVariants as kind
use Rattle.cf_log.specs.declared.said.ObservedPart.{ObservedPart}
use Rattle.cf_log.specs.declared.said.Said.{Said}
use Rattle.cf_log.specs.declared.said.Said.TheVariants.{Makes, Observes}
use Rattle.cf_log.specs.declared.said.TimedLine.{TimedLine}
use Rattle.cf_log.specs.Lines.{after_time, log_line_read}
use Rattle.run_finishes.specs.declared.finish.Ran.TheVariants as ran
use Rattle.cf_run.specs.Made.{counted_event}
use Rattle.cf_run.specs.Moving.{MakesAndShows, MoveDoes}
use Rattle.cf_conform.specs.declared.answer.Conformed.{Conformed}
use Rattle.cf_conform.specs.declared.answer.Conformed.TheVariants as answer
use Rattle.cf_conform.specs.declared.answer.LineStop.{LineStop}
use Rattle.cf_conform.specs.declared.answer.LineStop.TheVariants.{Refused, Differs, WriteFault}
use Rattle.cf_conform.specs.declared.progress.LogProgress.{LogProgress}
use Rattle.cf_conform.specs.LogPlaces.{LogPlace, as_run, at_time, noted_event}
use Rattle.cf_conform.specs.Wanted.{without_feed, wanted_line}

-- a text has the same words as the line that it should be, if there is such a line
abbrev pub AgreesWith : List ℕ → Option (List ℕ) → Type 0
AgreesWith text None = ⊥
AgreesWith text (Some wanted) = words_of text ≡ words_of (without_feed wanted)

-- nothing bars the move; it is made, counted and noted
pub record MakesLogged (mv : Move) (now new : LogPlace) : Type 0 where
  pub event : Event
  pub makes : MakesAndShows show.report mv event (as_run now) (as_run new)
  pub progress : new.progress ≡ noted_event (record now.progress { tally = counted_event now.progress.tally mv event }) event new.core.state.retired

-- nothing bars the move, and the output failed its call
pub record FailsLogged (mv : Move) (now new : LogPlace) : Type 0 where
  pub does : MoveDoes show.report mv (as_run now) (as_run new) (Err ran.WriteFault)
  pub progress : new.progress ≡ now.progress

-- the effect of a move in a log: it is made; or this is its first bar, and nothing changes; or the output failed its
-- call
unfoldable pub TriesMove : Move → (now new : LogPlace) → Result (Unit {0}) LineStop → Type 0
TriesMove mv now new (Ok done) = MakesLogged mv now new
TriesMove mv now new (Err (Refused (Barred bar))) = (first_bar now.core.plan now.core.state mv ≡ Some bar) × (new ≡ now)
TriesMove mv now new (Err (Refused TooLong)) = ⊥
TriesMove mv now new (Err (Refused NotAscii)) = ⊥
TriesMove mv now new (Err (Refused BadTime)) = ⊥
TriesMove mv now new (Err (Refused UnknownLine)) = ⊥
TriesMove mv now new (Err (Refused BadNumber)) = ⊥
TriesMove mv now new (Err (Refused ExtraWords)) = ⊥
TriesMove mv now new (Err (Refused kind.Differs)) = ⊥
TriesMove mv now new (Err (Differs part)) = ⊥
TriesMove mv now new (Err WriteFault) = FailsLogged mv now new

-- the effect of an observation of this part: its words, after the time, are those of the line that it should be, and it
-- is counted; or they are not, and nothing changes
unfoldable pub JudgesPart : List ℕ → ObservedPart → Processor → (now new : LogProgress) → Result (Unit {0}) LineStop → Type 0
JudgesPart line part core now new (Ok done) =
    AgreesWith (after_time line) (wanted_line core.plan core.state now.latest part) × (new ≡ record now { observed = now.observed + 1 })
JudgesPart line part core now new (Err (Refused why)) = ⊥
JudgesPart line part core now new (Err (Differs other)) =
    (other ≡ part) × (AgreesWith (after_time line) (wanted_line core.plan core.state now.latest part) → ⊥) × (new ≡ now)
JudgesPart line part core now new (Err WriteFault) = ⊥

-- the same, and nothing but the progress changes
pub record JudgesPartAt (line : List ℕ) (part : ObservedPart) (now new : LogPlace) (result : Result (Unit {0}) LineStop) : Type 0 where
  pub compares : JudgesPart line part now.core now.progress new.progress result
  pub core : new.core ≡ now.core
  pub output : new.output ≡ now.output

-- the effect of what a line says
unfoldable pub JudgesSaid : List ℕ → Said → (now new : LogPlace) → Result (Unit {0}) LineStop → Type 0
JudgesSaid line (Makes mv) now new result = TriesMove mv now new result
JudgesSaid line (Observes part) now new result = JudgesPartAt line part now new result

-- the effect of a line by how it is read: a line that says nothing or is refused changes nothing
unfoldable pub JudgesReading : List ℕ → Result (Option TimedLine) LogKind → (now new : LogPlace) → Result (Unit {0}) LineStop → Type 0
JudgesReading line (Ok None) now new result = (result ≡ Ok tt) × (new ≡ now)
JudgesReading line (Ok (Some timed)) now new result = JudgesSaid line timed.said (at_time now timed.time) new result
JudgesReading line (Err why) now new result = (result ≡ Err (Refused why)) × (new ≡ now)

-- the effect of a line
unfoldable pub JudgesLine : List ℕ → (now new : LogPlace) → Result (Unit {0}) LineStop → Type 0
JudgesLine line now new result = JudgesReading line (log_line_read now.progress.time (now.progress.tally.moves + 1) line) now new result

-- an error if the output failed the line
abbrev pub output_judged : Result (Unit {0}) LineStop → Result (Unit {0}) (Unit {0})
output_judged (Err WriteFault) = Err tt
output_judged (Err (Refused why)) = Ok tt
output_judged (Err (Differs part)) = Ok tt
output_judged (Ok done) = Ok tt

-- an error if the log failed
abbrev pub log_judged : Option Conformed → Result (Unit {0}) (Unit {0})
log_judged (Some (answer.Ran ran.ReadFault)) = Err tt
log_judged other = Ok tt

-- an error if the output failed
abbrev pub output_stopped_log : Option Conformed → Result (Unit {0}) (Unit {0})
output_stopped_log (Some (answer.Ran ran.WriteFault)) = Err tt
output_stopped_log other = Ok tt
