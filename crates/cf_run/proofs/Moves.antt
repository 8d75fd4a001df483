-- What a move of the processor does, as a move of a run.
use Rattle.std.proofs.Common.{◌≡◌, ℕ, List, Option, Some, None, Result, Ok, Err, refl, subst, inl, inr}
use Rattle.cf_io.specs.Causes.{HasCause}
use Rattle.cf_io.specs.Puts.{WritesNothing}
use Rattle.run_options.specs.declared.reporting.Reporting.{Reporting}
use Rattle.rv_machine.specs.Streams.{Streams}
use Rattle.cf_bind.specs.declared.moves.Move.{Move}
use Rattle.cf_bind.specs.declared.moves.Move.TheVariants.{Serve}
use Rattle.cf_layout.specs.Layout.{Plan}
use Rattle.cf_semantics.specs.declared.event.Event.{Event}
use Rattle.cf_semantics.specs.moves.Bars.{bar}
use Rattle.cf_core.specs.Processors.{Processor}
use Rattle.cf_core.specs.Stepping.{MakesOrFails}
use Rattle.cf_core.specs.declared.fault.Fault.TheVariants as fault
use Rattle.cf_report.specs.declared.tally.Tally.{Tally}
use Rattle.cf_report.specs.Putting.{PutsText}
use Rattle.cf_report.proofs.Parts.{front-after, nothing-after, nothing-written, text-after}
use Rattle.run_finishes.specs.declared.finish.Ran.{Ran as Answer}
use Rattle.run_finishes.specs.declared.finish.Ran.TheVariants as ran
use Rattle.run_finishes.specs.declared.finish.Scripted.TheVariants.{Ran}
use Rattle.cf_run.specs.Made.{counted_event, shown}
use Rattle.cf_run.specs.Moving.{RunPlace, run_place_of, MakesMove, MakesAndShows, MakesUnshown, MoveDoes, MoveGoes, shown_of}
use Rattle.cf_run.specs.Reaching.{GoesOn}
use Rattle.cf_run.specs.Scripts.{ScriptRun, DoesLine, ScriptStops, ScriptTries}
use Rattle.run_scripts.specs.Scripts.{next_of, after_next}

-- the move was made and counted
made : (mv : Move) (now new : RunPlace) (e : Event) → bar now.core.plan now.core.state mv ≡ None →
    MakesOrFails now.core new.core mv now.streams new.streams (Ok e) → new.tally ≡ counted_event now.tally mv e → MakesMove mv e now new
unfolding MakesOrFails
made mv now new e free h counts = record { allowed = free; makes = h.0; is_event = h.1; tally = counts }

-- and its report is that of the layout before it
same_plan : (mv : Move) (now new : RunPlace) (e : Event) → MakesOrFails now.core new.core mv now.streams new.streams (Ok e) → new.core.plan ≡ now.core.plan
unfolding MakesOrFails
same_plan mv now new e h = h.0.plan

pub made-shown : {E : Type 0} (show : Reporting) (mv : Move) (now new : RunPlace) (e : Event) (i j : ℕ) (done : Unit {0}) →
    bar now.core.plan now.core.state mv ≡ None → MakesOrFails now.core new.core mv now.streams new.streams (Ok e) → new.tally ≡ counted_event now.tally mv e
    → PutsText {E = E} now.report new.report i j (shown show new.core.plan new.tally.moves (record { move = mv; event = e; state = new.core.state }))
    (Ok done) → MakesAndShows show mv e now new
unfolding MakesOrFails made
made-shown {E = E} show mv now new e i j done free h counts put =
    let P : Plan → Type 0 = λ plan. PutsText {T = Unit {0}} {E = E} now.report new.report i j
    (shown show plan new.tally.moves (record { move = mv; event = e; state = new.core.state })) (Ok done) in
    record { makes = made mv now new e free h counts; report = (subst P (same_plan mv now new e h) put).all }

pub made-unshown : {T E : Type 0} (show : Reporting) (mv : Move) (now new : RunPlace) (e : Event) (i j : ℕ) (failed : E) →
    bar now.core.plan now.core.state mv ≡ None → MakesOrFails now.core new.core mv now.streams new.streams (Ok e) → new.tally ≡ counted_event now.tally mv e
    → PutsText {T = T} now.report new.report i j (shown show new.core.plan new.tally.moves (record { move = mv; event = e; state = new.core.state }))
    (Err failed) → MakesUnshown show mv e now new
unfolding MakesOrFails made
made-unshown {T = T} {E = E} show mv now new e i j failed free h counts put =
    let P : Plan → Type 0 = λ plan. PutsText {T = T} {E = E} now.report new.report i j (shown show plan new.tally.moves
    (record { move = mv; event = e; state = new.core.state })) (Err failed) in
    record { makes = made mv now new e free h counts; report = (subst P (same_plan mv now new e h) put).front }

-- a stream failed the move
pub does-read_fault : (show : Reporting) (mv : Move) (old new : Processor) (before after : Streams) (report : Option (List ℕ)) (tally : Tally) →
    bar old.plan old.state mv ≡ None → MakesOrFails old new mv before after (Err fault.Read) →
    MoveDoes show mv (run_place_of old before report tally) (run_place_of new after report tally) (Err ran.ReadFault)
unfolding MakesOrFails MoveDoes
does-read_fault show mv old new before after report tally free h =
    (record { allowed = free; serves = h.0; report = nothing-written report; tally = refl }, h.1)

pub does-write_fault : (show : Reporting) (mv : Move) (old new : Processor) (before after : Streams) (report : Option (List ℕ)) (tally : Tally) →
    bar old.plan old.state mv ≡ None → MakesOrFails old new mv before after (Err fault.Write) →
    MoveDoes show mv (run_place_of old before report tally) (run_place_of new after report tally) (Err ran.WriteFault)
unfolding MakesOrFails MoveDoes
does-write_fault show mv old new before after report tally free h =
    (record { allowed = free; serves = h.0; report = nothing-written report; tally = refl }, h.1)

-- the move was made after the report had passed on what it had gathered
made_after : (mv : Move) (e : Event) (old new : Processor) (before after : Streams) (report mid later : Option (List ℕ)) (tally more : Tally) →
    MakesMove mv e (run_place_of old before mid tally) (run_place_of new after later more) →
    MakesMove mv e (run_place_of old before report tally) (run_place_of new after later more)
made_after mv e old new before after report mid later tally more d =
    record { allowed = d.allowed; makes = d.makes; is_event = d.is_event; tally = d.tally }

pub goes-after : (show : Reporting) (mv : Move) (old new : Processor) (before after : Streams) (report mid later : Option (List ℕ)) (tally more : Tally)
    (result : Result Event Answer) → WritesNothing report mid → MoveDoes show mv (run_place_of old before mid tally) (run_place_of new after later more)
    result →
    MoveGoes show mv (run_place_of old before report tally) (run_place_of new after later more) result
unfolding MoveDoes
goes-after show mv old new before after report mid later tally more (Ok e) same d = record {
  makes = made_after mv e old new before after report mid later tally more d.makes;
  report = text-after report mid later (shown_of show mv e (run_place_of old before report tally) (run_place_of new after later more)) same d.report;
}
goes-after show mv old new before after report mid later tally more (Err ran.ReportFault) same d =
    inl (
      d.0,
      record {
        makes = made_after mv d.0 old new before after report mid later tally more d.1.makes;
        report = front-after report mid later (shown_of show mv d.0 (run_place_of old before report tally) (run_place_of new after later more)) same d.1.report;
      },
    )
goes-after show mv old new before after report mid later tally more (Err ran.ReadFault) same d = (
  record { allowed = d.0.allowed; serves = d.0.serves; report = nothing-after report mid later same d.0.report; tally = d.0.tally },
  d.1,
)
goes-after show mv old new before after report mid later tally more (Err ran.WriteFault) same d = (
  record { allowed = d.0.allowed; serves = d.0.serves; report = nothing-after report mid later same d.0.report; tally = d.0.tally },
  d.1,
)
goes-after show mv old new before after report mid later tally more (Err (ran.Exit status)) same d = d
goes-after show mv old new before after report mid later tally more (Err (ran.Trap cause pc detail)) same d = d
goes-after show mv old new before after report mid later tally more (Err ran.Limit) same d = d

-- no fault was counted before it
pub cause-after : {T E : Type 0} (i j k : ℕ) (r : Result T E) → j ≡ i → HasCause j k r → HasCause i k r
cause-after i j k r same h = subst (λ (n : ℕ). HasCause n k r) same h

-- or the report failed to pass it on
pub goes-unpassed : (show : Reporting) (mv : Move) (core : Processor) (streams : Streams) (report later : Option (List ℕ)) (tally : Tally) →
    bar core.plan core.state mv ≡ None → mv ≡ Serve → WritesNothing report later →
    MoveGoes show mv (run_place_of core streams report tally) (run_place_of core streams later tally) (Err ran.ReportFault)
goes-unpassed show mv core streams report later tally free serves same =
    inr (record { allowed = free; serves = serves; core = refl; streams = refl; report = same; tally = refl })

-- a turn whose move is made
pub turned-made : (limit : ℕ) (show : Reporting) (now new : ScriptRun) (line : ℕ) (mv : Move) (event : Event) → GoesOn limit now.place.core.state →
    next_of now.script ≡ Ok (Some (line, mv)) → new.script ≡ after_next now.script → MoveDoes show mv now.place new.place (Ok event) →
    ScriptTries limit show now new None
unfolding DoesLine
turned-made limit show now new line mv event goes next left does =
    record { goes = goes; line = line; move = mv; next = next; script = left; does = (event, does) }

-- and a turn whose move stops the run
pub turned-stopped : (limit : ℕ) (show : Reporting) (now new : ScriptRun) (line : ℕ) (mv : Move) (answer : Answer) → GoesOn limit now.place.core.state →
    next_of now.script ≡ Ok (Some (line, mv)) → new.script ≡ after_next now.script → MoveGoes show mv now.place new.place (Err answer) →
    ScriptStops limit show now new (Ran answer)
unfolding ScriptStops DoesLine MoveDoes
turned-stopped limit show now new line mv ran.ReadFault goes next left does =
    record { goes = goes; line = line; move = mv; next = next; script = left; does = does }
turned-stopped limit show now new line mv ran.WriteFault goes next left does =
    record { goes = goes; line = line; move = mv; next = next; script = left; does = does }
turned-stopped limit show now new line mv ran.ReportFault goes next left does =
    record { goes = goes; line = line; move = mv; next = next; script = left; does = does }
turned-stopped limit show now new line mv (ran.Exit status) goes next left does = absurd does
turned-stopped limit show now new line mv (ran.Trap cause pc detail) goes next left does = absurd does
turned-stopped limit show now new line mv ran.Limit goes next left does = absurd does
