-- What a move that was made and shown says about the next group of the trace.
use Rattle.std.proofs.Common.{◌≡◌, ℕ, List, length, Option, Some, None, Ok, Err, sym, subst, arith}
use Rattle.std.proofs.Math.Seq.{take-length}
use Rattle.run_options.specs.Reportings as show
use Rattle.cf_io.specs.Causes.{HasCause, Rose}
use Rattle.cf_io.specs.Puts.{Writes, WritesFront}
use Rattle.cf_bind.specs.declared.moves.Move.{Move}
use Rattle.cf_semantics.specs.declared.event.Event.{Event}
use Rattle.run_finishes.specs.declared.finish.Ran.TheVariants as ran
use Rattle.cf_run.specs.Moving.{MakesAndShows, MakesUnshown, MoveDoes, shown_of}
use Rattle.cf_audit.specs.declared.stop.AuditStop.{AuditStop}
use Rattle.cf_audit.specs.declared.stop.AuditStop.TheVariants.{Agrees, Wrong, ReadFault}
use Rattle.run_scripts.specs.declared.trace_refusal.TraceKind.TheVariants.{NotAMove, Barred, Differs, Cut}
use Rattle.cf_audit.specs.Compared.{Comparison, HasOther}
use Rattle.cf_audit.specs.Turns.{AuditRun, ComparisonAnswers, ShownDiffers, PutsSome, AuditTries, audit_input_stopped}

-- all of a text was written
puts_all : (a b : Option (List ℕ)) (text : List ℕ) → Writes a b text → PutsSome a b text
puts_all a b text h = (length text, omega arith, subst (Writes a b) (sym (take-length text)) h)

-- or a prefix of it
puts_front : (a b : Option (List ℕ)) (text : List ℕ) → WritesFront a b text → PutsSome a b text
puts_front None b text front = (0, omega arith, tt)
puts_front (Some told) b text (n, short, k) = (n, omega (arith, short), k)

parts_shown : (mv : Move) (now new : AuditRun) (e : Event) → MakesAndShows show.moves mv e now.place new.place → HasOther new.seen → ShownDiffers mv now new
parts_shown mv now new e d other =
    record {
      event = e;
      makes = d.makes;
      report = puts_all now.place.report new.place.report (shown_of show.moves mv e now.place new.place) d.report;
      differs =
          other;
    }

parts_unshown : (mv : Move) (now new : AuditRun) (e : Event) → MakesUnshown show.moves mv e now.place new.place → HasOther new.seen → ShownDiffers mv now new
parts_unshown mv now new e d other =
    record {
      event = e;
      makes = d.makes;
      report = puts_front now.place.report new.place.report (shown_of show.moves mv e now.place new.place) d.report;
      differs = other;
    }

-- the move was made and shown
pub tried-shown : (mv : Move) (now new : AuditRun) (e : Event) (answer : Option AuditStop) → MoveDoes show.moves mv now.place new.place (Ok e) →
    ComparisonAnswers new.seen answer → AuditTries mv now new answer
unfolding MoveDoes ComparisonAnswers AuditTries
tried-shown mv now new e None d h = record { event = e; makes = d; same = h }
tried-shown mv now new e (Some (Agrees n)) d h = absurd h
tried-shown mv now new e (Some (Wrong place NotAMove)) d h = absurd h
tried-shown mv now new e (Some (Wrong place (Barred b))) d h = absurd h
tried-shown mv now new e (Some (Wrong place Differs)) d h = (parts_shown mv now new e d h.0, h.1, h.2)
tried-shown mv now new e (Some (Wrong place Cut)) d h = (parts_shown mv now new e d h.0, h.1, h.2)
tried-shown mv now new e (Some ReadFault) d h = absurd h

-- the move was made, and the comparison failed
pub tried-unshown : (mv : Move) (now new : AuditRun) (before : ℕ) (answer : Option AuditStop) →
    MoveDoes show.moves mv now.place new.place (Err ran.ReportFault) → Rose before new.seen.faults → ComparisonAnswers new.seen answer →
    AuditTries mv now new answer
unfolding MoveDoes ComparisonAnswers AuditTries
tried-unshown mv now new before None d rose h = absurd (omega (arith, rose, h.works))
tried-unshown mv now new before (Some (Agrees n)) d rose h = absurd h
tried-unshown mv now new before (Some (Wrong place NotAMove)) d rose h = absurd h
tried-unshown mv now new before (Some (Wrong place (Barred b))) d rose h = absurd h
tried-unshown mv now new before (Some (Wrong place Differs)) d rose h = (parts_unshown mv now new d.0 d.1 h.0, h.1, h.2)
tried-unshown mv now new before (Some (Wrong place Cut)) d rose h = (parts_unshown mv now new d.0 d.1 h.0, h.1, h.2)
tried-unshown mv now new before (Some ReadFault) d rose h = absurd h

-- the input did not fail then
pub tried-still : (seen : Comparison) (before now : ℕ) (answer : Option AuditStop) → ComparisonAnswers seen answer → now ≡ before →
    HasCause before now (audit_input_stopped answer)
unfolding ComparisonAnswers
tried-still seen before now None h still = record { never_falls = omega (arith, still); rose = tt; still = still }
tried-still seen before now (Some (Agrees n)) h still = absurd h
tried-still seen before now (Some (Wrong place kind)) h still = record { never_falls = omega (arith, still); rose = tt; still = still }
tried-still seen before now (Some ReadFault) h still = absurd h
