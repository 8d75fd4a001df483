-- The outcome for the files of a run.
use Rattle.std.proofs.Common.{◌≡◌, ℕ, List, [], Option, Ok, Result, Err, sym, subst, inl, inr}
use Rattle.cf_io.specs.declared.failed.Failed.{Failed}
use Rattle.rv_machine.specs.Hart.{Hart}
use Rattle.cf_core.specs.Processors.{opened_processor}
use Rattle.cf_layout.specs.Layout.{Plan}
use Rattle.cli_files.specs.Outside.{Outside, Report}
use Rattle.cli_files.specs.RunFiles.{RunAsked, RunFilesRead, RefusesRun}
use Rattle.cli_files.specs.Schedules.{ReadySchedule}
use Rattle.cli_files.specs.declared.status.Status.{Status}
use Rattle.cli_reports.specs.Reporting.{PutsReport, Carries, Comes}
use Rattle.cli_run.specs.Run.{chosen_by, ComesOf, BreaksCore, AnswersRun, BreaksRun}
use Rattle.cli_reports.specs.declared.reporting.Reported.{Reported}
use Rattle.cli_run.specs.declared.tail.Tail.{Tail}
use Rattle.cli_reports.proofs.PutReports.{shows-none}

-- the outcome for the files is that of the command that reads them
pub run-comes : (tail : Tail) (asked : RunAsked) (before after : Outside) (plan : Plan) (hart : Hart)
    (schedule : ReadySchedule) (blank full : Report) (result : Result Reported Failed) →
    RunFilesRead asked before.files after.files plan hart schedule →
    Comes (ComesOf asked.limit asked.reporting tail plan hart schedule before.streams after.streams blank.written)
    (BreaksCore asked.limit asked.reporting (opened_processor plan hart) (chosen_by asked.limit asked.reporting schedule) before.streams after.streams
    blank.written full.written)
    blank full result →
    Comes (AnswersRun tail asked before after blank.written) (BreaksRun asked before after blank.written full.written) blank full result
run-comes tail asked before after plan hart schedule blank full (Ok reported) ready (shown, closing, comes, puts) =
    (shown, closing, inl (record { plan = plan; hart = hart; schedule = schedule; ready = ready; comes = comes }), puts)
run-comes tail asked before after plan hart schedule blank full (Err failed) ready (breaks, rose) =
    (record { plan = plan; hart = hart; schedule = schedule; ready = ready; comes = breaks }, rose)

-- or one of them is missing
pub run-refused : (tail : Tail) (asked : RunAsked) (before after : Outside) (told : Option (List ℕ)) (blank full : Report)
    (answer : Status) (text : List ℕ) (reported : Reported) → reported.status ≡ answer →
    RefusesRun asked before after answer text → PutsReport blank full text reported.put →
    Carries (AnswersRun tail asked before after told) blank full reported
run-refused tail asked before after told blank full answer text reported same refused puts = (
  [],
  text,
  inr (subst (λ (s : Status). RefusesRun asked before after s text) (sym same) refused),
  shows-none blank full text reported.put puts,
)
