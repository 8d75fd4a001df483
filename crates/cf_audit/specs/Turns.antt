-- One turn of an audit: the next group of the trace is tested and its move is made, or the audit ends.
use Rattle.std.specs.Prelude.{◌≡◌, ◌⊎◌, ℕ, ◌+◌, ◌<◌, ◌≤◌, true, false, List, length, take, drop, Option, Some, None, Result, Ok, Err}
use Rattle.run_options.specs.Reportings as show
use Rattle.cf_io.specs.Puts.{Writes}
use Rattle.rv_machine.specs.Streams.{streams_of}
use Rattle.cf_bind.specs.declared.moves.Move.{Move}
use Rattle.cf_semantics.specs.declared.event.Event.{Event}
use Rattle.cf_semantics.specs.moves.Bars.{bar as first_bar}
use Rattle.cf_core.specs.Processors.{Processor}
use Rattle.cf_report.specs.declared.tally.Tally.{Tally}
use Rattle.run_finishes.specs.declared.finish.Ran.TheVariants as ran
use Rattle.cf_run.specs.Moving.{RunPlace, run_place_of, MakesMove, MakesAndShows, MoveDoes, shown_of}
use Rattle.cf_audit.specs.declared.answer.Audit.{Audit}
use Rattle.cf_audit.specs.declared.answer.Audit.TheVariants as outcome
use Rattle.cf_audit.specs.declared.stop.AuditStop.{AuditStop}
use Rattle.cf_audit.specs.declared.stop.AuditStop.TheVariants.{Agrees, Wrong, ReadFault}
use Rattle.run_scripts.specs.declared.trace_refusal.TraceKind.TheVariants.{NotAMove, Barred, Differs, Cut}
use Rattle.cf_audit.specs.Compared.{Comparison, exposed_by_sink, HasOther, AllAgrees}
use Rattle.cf_audit.specs.Traces.{BeginsWithMove, has_line, line_of_byte}

-- the state of an audit: the RunPlace of its run, and the comparison that is its report
pub record AuditRun : Type 0 where
  pub place : RunPlace
  pub seen : Comparison

-- the AuditRun with these parts
abbrev pub audit_run_of : RunPlace → Comparison → AuditRun
audit_run_of place seen = record { place = place; seen = seen }

-- the same, given how a source exposes its bytes; the program's output is discarded
abbrev pub stand_by : {S : Type 0} → (S → Option (List ℕ)) → Processor → S → Comparison → Tally → AuditRun
stand_by unread core input seen tally = audit_run_of (run_place_of core (streams_of (unread input) None) (Some (exposed_by_sink seen)) tally) seen

-- the text that is left
abbrev pub left_of : Comparison → List ℕ
left_of seen = drop seen.agreed seen.text

-- what is left begins with the line of this move, the next one
abbrev pub NextIs : AuditRun → Move → Type 0
NextIs now mv = BeginsWithMove (left_of now.seen) (now.place.tally.moves + 1) mv

-- how a comparison stops the audit if a byte does not agree
unfoldable pub ComparisonAnswers : Comparison → Option AuditStop → Type 0
ComparisonAnswers seen None = AllAgrees seen
ComparisonAnswers seen (Some (Wrong place Differs)) =
    HasOther seen × (seen.agreed < length seen.text) × (place ≡ seen.agreed)
ComparisonAnswers seen (Some (Wrong place Cut)) =
    HasOther seen × (seen.agreed ≡ length seen.text) × (place ≡ seen.agreed)
ComparisonAnswers seen (Some stop) = ⊥

-- the move was made, and all that is shown for it comes next in the text
pub record Advances (mv : Move) (now new : AuditRun) : Type 0 where
  pub event : Event
  pub makes : MakesAndShows show.moves mv event now.place new.place
  pub same : AllAgrees new.seen

-- a prefix of these bytes was written, or all of them
abbrev pub PutsSome : Option (List ℕ) → Option (List ℕ) → List ℕ → Type 0
PutsSome before after bytes = (n : ℕ) × (n ≤ length bytes) × Writes before after (take n bytes)

-- the move was made, and a byte of what is shown for it does not agree with the text
pub record ShownDiffers (mv : Move) (now new : AuditRun) : Type 0 where
  pub event : Event
  pub makes : MakesMove mv event now.place new.place
  pub report : PutsSome now.place.report new.place.report (shown_of show.moves mv event now.place new.place)
  pub differs : HasOther new.seen

-- what the move of the next line leads to
unfoldable pub AuditTries : Move → (now new : AuditRun) → Option AuditStop → Type 0
AuditTries mv now new None = Advances mv now new
AuditTries mv now new (Some (Agrees n)) = ⊥
AuditTries mv now new (Some (Wrong place NotAMove)) = ⊥
AuditTries mv now new (Some (Wrong place (Barred b))) =
    (first_bar now.place.core.plan now.place.core.state mv ≡ Some b) × (place ≡ now.seen.agreed) × (new ≡ now)
AuditTries mv now new (Some (Wrong place Differs)) =
    ShownDiffers mv now new × (new.seen.agreed < length new.seen.text) × (place ≡ new.seen.agreed)
AuditTries mv now new (Some (Wrong place Cut)) =
    ShownDiffers mv now new × (new.seen.agreed ≡ length new.seen.text) × (place ≡ new.seen.agreed)
AuditTries mv now new (Some ReadFault) = MoveDoes show.moves mv now.place new.place (Err ran.ReadFault)

-- the next group is tested: its first line names a move, which is tried, or names none
unfoldable pub Tests : (now new : AuditRun) → Option AuditStop → Type 0
Tests now new (Some (Agrees n)) =
    (length (left_of now.seen) ≡ 0) × (n ≡ now.place.tally.moves) × (new ≡ now)
Tests now new (Some (Wrong place NotAMove)) =
    (has_line (left_of now.seen) ≡ true) × ((mv : Move) → NextIs now mv → ⊥) × (place ≡ now.seen.agreed)
    × (new ≡ now)
Tests now new (Some (Wrong place Cut)) =
    ((0 < length (left_of now.seen)) × (has_line (left_of now.seen) ≡ false) × (place ≡ now.seen.agreed)
    × (new ≡ now))
    ⊎ ((mv : Move) × NextIs now mv × AuditTries mv now new (Some (Wrong place Cut)))
Tests now new stop = (mv : Move) × NextIs now mv × AuditTries mv now new stop

-- the outcome of an audit of the text that stops in this way: the line is that of the byte at the index
abbrev pub outcome_of : List ℕ → AuditStop → Audit
outcome_of text (Agrees n) = outcome.Agrees n
outcome_of text (Wrong place kind) = outcome.Wrong (line_of_byte text place) kind
outcome_of text ReadFault = outcome.ReadFault

-- an error if the input failed the audit
abbrev pub audit_input_stopped : Option AuditStop → Result (Unit {0}) (Unit {0})
audit_input_stopped (Some ReadFault) = Err tt
audit_input_stopped (Some (Agrees n)) = Ok tt
audit_input_stopped (Some (Wrong place kind)) = Ok tt
audit_input_stopped None = Ok tt

-- the same, by the outcome
abbrev pub input_tested : Option Audit → Result (Unit {0}) (Unit {0})
input_tested (Some outcome.ReadFault) = Err tt
input_tested (Some (outcome.Agrees n)) = Ok tt
input_tested (Some (outcome.Wrong line kind)) = Ok tt
input_tested None = Ok tt
