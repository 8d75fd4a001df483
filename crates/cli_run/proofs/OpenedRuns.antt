-- The outcome of opening and running a processor.
use Rattle.std.proofs.Common.{◌≡◌, ℕ, List, [], ◌++◌, Option, Result, Ok, Err, refl, sym, ap, subst, ◌∙◌, inl, inr}
use Rattle.run_options.specs.declared.reporting.Reporting.{Reporting}
use Rattle.rv_machine.specs.Hart.{Hart}
use Rattle.rv_machine.specs.Streams.{Streams}
use Rattle.cf_io.specs.declared.failed.Failed.{Failed}
use Rattle.cf_bind.specs.declared.moves.Move.{Move}
use Rattle.cf_layout.specs.Layout.{Plan}
use Rattle.cf_core.specs.Processors.{Processor, opened_processor}
use Rattle.run_finishes.specs.declared.finish.Ran.{Ran as RunAnswer}
use Rattle.run_finishes.specs.declared.finish.Ran.TheVariants as ran
use Rattle.run_finishes.specs.declared.finish.Scripted.{Scripted}
use Rattle.run_finishes.specs.declared.finish.Scripted.TheVariants.{Ran}
use Rattle.cf_run.specs.Made.{Made}
use Rattle.cf_run.specs.Moving.{RunPlace}
use Rattle.cli_files.specs.Outside.{Report}
use Rattle.cli_reports.specs.Reporting.{PutsReport, Adds, Carries, Comes}
use Rattle.cli_files.specs.Memory.{LacksProcessor}
use Rattle.cli_run.specs.Run.{chosen_by, IsComplete, RunsCore, RunsWithTail, RunsOpened, BreaksCore, ComesOf}
use Rattle.cli_processor.specs.Statuses.{status_of}
use Rattle.cli_processor.proofs.Agreement.{agrees}
use Rattle.cli_run.specs.Tail.{tail_text}
use Rattle.cli_reports.specs.declared.reporting.Reported.{Reported}
use Rattle.cli_run.specs.declared.tail.Tail.{Tail}
use Rattle.cli_reports.proofs.PutReports.{shows-none, adds-after}
use Rattle.cli_files.specs.Schedules.{ReadySchedule, in_script, drawn_from, in_turn}
use Rattle.cli_files.specs.declared.status.Status.{Status}

-- under a policy a run finishes as any run may
complete_ran : (limit moves : ℕ) (schedule : ReadySchedule) (end : RunAnswer) (answer : Status) → answer ≡ status_of limit moves (Ran end) →
    IsComplete schedule answer
complete_ran limit moves (in_script text) end answer said = tt
complete_ran limit moves (drawn_from seed rule) end answer said = subst (IsComplete (drawn_from seed rule)) (sym said) (of end)
  where
    of : (end : RunAnswer) → IsComplete (drawn_from seed rule) (status_of limit moves (Ran end))
    of (ran.Exit code) = tt
    of (ran.Trap cause pc detail) = tt
    of ran.Limit = tt
    of ran.ReadFault = tt
    of ran.WriteFault = tt
    of ran.ReportFault = tt
complete_ran limit moves (in_turn rule) end answer said = subst (IsComplete (in_turn rule)) (sym said) (of end)
  where
    of : (end : RunAnswer) → IsComplete (in_turn rule) (status_of limit moves (Ran end))
    of (ran.Exit code) = tt
    of (ran.Trap cause pc detail) = tt
    of ran.Limit = tt
    of ran.ReadFault = tt
    of ran.WriteFault = tt
    of ran.ReportFault = tt

pub complete : (limit : ℕ) (show : Reporting) (schedule : ReadySchedule) (start new : RunPlace) (finish : Scripted) (trace : List Made) (moves : List Move)
    (answer : Status) → chosen_by limit show schedule start new finish trace moves → answer ≡ status_of limit new.tally.moves finish →
    IsComplete schedule answer
complete limit show (in_script text) start new finish trace moves answer by said = tt
complete limit show (drawn_from seed rule) start new finish trace moves answer by said = complete_ran limit new.tally.moves
    (drawn_from seed rule) by.answer answer (said
    ∙ ap (status_of limit new.tally.moves) by.finish_is)
complete limit show (in_turn rule) start new finish trace moves answer by said = complete_ran limit new.tally.moves (in_turn rule) by.answer answer (said
    ∙ ap (status_of limit new.tally.moves) by.finish_is)

-- a run of the processor that was opened, and its tail
runs-opened : (limit : ℕ) (show : Reporting) (tail : Tail) (last : Processor) (plan : Plan) (hart : Hart) (schedule : ReadySchedule) (before after : Streams)
    (blank : Option (List ℕ)) (answer : Status) (shown closing : List ℕ) → hart.retired ≡ 0
    → RunsWithTail limit show tail (opened_processor plan hart) last (chosen_by limit show schedule) before after blank answer shown closing
    → RunsOpened limit show tail plan hart last schedule before after blank answer shown closing
runs-opened limit show tail last plan hart schedule before after blank answer shown closing fresh r = record {
  text = r.text;
  runs = r.runs;
  agrees = agrees limit plan hart before after blank r.runs.run.told last r.runs.run.tally r.runs.run.finish answer fresh r.runs.run.ends r.runs.status_is;
  complete = complete limit show schedule _ _ r.runs.run.finish r.runs.run.trace r.runs.run.moves answer r.runs.run.runs r.runs.status_is;
  closes = r.closes;
}

-- the outcome of the run, as it was seen
abbrev pub Opens : (limit : ℕ) (show : Reporting) (core last : Processor) → ReadySchedule → (before after : Streams) → (blank full : Report) →
    Result Reported Failed → Type 0
Opens limit show core last schedule before after blank full result =
    Comes (RunsCore limit show core last (chosen_by limit show schedule) before after blank.written)
    (BreaksCore limit show core (chosen_by limit show schedule) before after blank.written full.written) blank full result

-- the same with its tail
abbrev pub OpensWithTail : (limit : ℕ) (show : Reporting) → Tail → (core last : Processor) → ReadySchedule → (before after : Streams) → (blank full : Report) →
    Result Reported Failed → Type 0
OpensWithTail limit show tail core last schedule before after blank full result =
    Comes (RunsWithTail limit show tail core last (chosen_by limit show schedule) before after blank.written)
    (BreaksCore limit show core (chosen_by limit show schedule) before after blank.written full.written) blank full result

-- once the tail was written
pub tail-comes : (limit : ℕ) (show : Reporting) (tail : Tail) (core last : Processor) (schedule : ReadySchedule) (before after : Streams)
    (blank half full : Report)
    (reported later : Reported)
    → Opens limit show core last schedule before after blank half (Ok reported) → later.status ≡ reported.status →
    Adds reported.put half full (tail_text tail reported.status last) later.put
    → OpensWithTail limit show tail core last schedule before after blank full (Ok later)
tail-comes limit show tail core last schedule before after blank half full reported later run said added =
    let text : List ℕ = run.1 in (
      run.0,
      text ++ tail_text tail reported.status last,
      subst (λ (s : Status). RunsWithTail limit show tail core last (chosen_by limit show schedule) before after blank.written s run.0 (text
          ++ tail_text tail reported.status last)) (sym said)
          (record { text = text; runs = run.2; closes = refl }),
      adds-after blank half full run.0 text (tail_text tail reported.status last) reported.put later.put run.3 added,
    )

-- this is the outcome for the layout, the hart and the schedule
on-opened : (limit : ℕ) (show : Reporting) (tail : Tail) (last : Processor) (plan : Plan) (hart : Hart) (schedule : ReadySchedule) (before after : Streams)
    (blank full : Report) (result : Result Reported Failed) → hart.retired ≡ 0
    → OpensWithTail limit show tail (opened_processor plan hart) last schedule before after blank full result
    → Comes (ComesOf limit show tail plan hart schedule before after blank.written) (BreaksCore limit show (opened_processor plan hart)
    (chosen_by limit show schedule) before after blank.written full.written) blank full result
on-opened limit show tail last plan hart schedule before after blank full (Ok reported) fresh (shown, closing, runs, puts) =
    (shown, closing, inl (last, runs-opened limit show tail last plan hart schedule before after blank.written reported.status shown closing fresh runs), puts)
on-opened limit show tail last plan hart schedule before after blank full (Err failed) fresh (breaks, rose) = (breaks, rose)

pub opened-comes : (limit : ℕ) (show : Reporting) (tail : Tail) (core last : Processor) (plan : Plan) (hart : Hart) (schedule : ReadySchedule)
    (before after : Streams) (blank full : Report) (result : Result Reported Failed) → core ≡ opened_processor plan hart → hart.retired ≡ 0
    → OpensWithTail limit show tail core last schedule before after blank full result
    → Comes (ComesOf limit show tail plan hart schedule before after blank.written) (BreaksCore limit show (opened_processor plan hart)
    (chosen_by limit show schedule) before after blank.written full.written) blank full result
opened-comes limit show tail core last plan hart schedule before after blank full result is fresh opens =
    on-opened limit show tail last plan hart schedule before after blank full result fresh
    (subst (λ (p : Processor). OpensWithTail limit show tail p last schedule before after blank full result) is opens)

-- or memory for it was refused
pub unopened-comes : (limit : ℕ) (show : Reporting) (tail : Tail) (plan : Plan) (hart : Hart) (schedule : ReadySchedule) (before after : Streams)
    (told : Option (List ℕ)) (blank full : Report) (answer : Status) (text : List ℕ) (reported : Reported) → reported.status ≡ answer
    → LacksProcessor before after answer text → PutsReport blank full text reported.put
    → Carries (ComesOf limit show tail plan hart schedule before after told) blank full reported
unopened-comes limit show tail plan hart schedule before after told blank full answer text reported same lacks puts = (
  [],
  text,
  inr (subst (λ (s : Status). LacksProcessor before after s text) (sym same) lacks),
  shows-none blank full text reported.put puts,
)
