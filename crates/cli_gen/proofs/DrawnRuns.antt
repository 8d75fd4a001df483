-- The outcome of a program that was drawn and run.
use Rattle.std.proofs.Common.{◌≡◌, ℕ, List, [], Option, Ok, Result, Err, sym, subst, inl, inr}
use Rattle.run_options.specs.Reportings as show
use Rattle.run_options.specs.declared.guess_rule.GuessRule.TheVariants as rules
use Rattle.cf_io.specs.declared.failed.Failed.{Failed}
use Rattle.rv_machine.specs.Hart.{Hart}
use Rattle.rv_machine.specs.Streams.{Streams}
use Rattle.cf_core.specs.Processors.{opened_processor}
use Rattle.cf_layout.specs.Layout.{Plan}
use Rattle.cf_layout.specs.Plain.{plain}
use Rattle.cli_arguments.specs.Options.{default_limit}
use Rattle.cli_files.specs.Outside.{Report}
use Rattle.cli_files.specs.Schedules.{drawn_from}
use Rattle.cli_files.specs.declared.status.Status.{Status}
use Rattle.cli_gen.specs.Drawn.{StartsDrawn, RefusesDrawn, AnswersDrawn, BreaksDrawn}
use Rattle.cli_reports.specs.Reporting.{PutsReport, Carries, Comes}
use Rattle.cli_run.specs.Run.{chosen_by, ComesOf, BreaksCore}
use Rattle.cli_reports.specs.declared.reporting.Reported.{Reported}
use Rattle.cli_run.specs.declared.tail.Tail.TheVariants.{Nothing}
use Rattle.cli_reports.proofs.PutReports.{shows-none}

-- the outcome of the run is that of `gen` with `--run`, which reads no file
pub drawn-comes : (number : ℕ) (plan : Plan) (hart : Hart) (before after : Streams) (blank full : Report)
    (result : Result Reported Failed) → plan ≡ plain → StartsDrawn number hart →
    Comes (ComesOf default_limit show.report Nothing plan hart (drawn_from number rules.Any) before after blank.written)
    (BreaksCore default_limit show.report (opened_processor plan hart) (chosen_by default_limit show.report (drawn_from number rules.Any)) before after
    blank.written
    full.written)
    blank full result →
    Comes (AnswersDrawn number before after blank.written) (BreaksDrawn number before after blank.written full.written) blank full result
drawn-comes number plan hart before after blank full (Ok reported) same starts (shown, closing, comes, puts) =
    (shown, closing, inl (record { hart = hart; starts = starts; comes = rw same at comes }), puts)
drawn-comes number plan hart before after blank full (Err failed) same starts (breaks, rose) =
    (record { hart = hart; starts = starts; breaks = rw same at breaks }, rose)

-- or its text was not a program
pub drawn-refused : (number : ℕ) (before after : Streams) (told : Option (List ℕ)) (blank full : Report)
    (answer : Status) (text : List ℕ) (reported : Reported) → reported.status ≡ answer →
    RefusesDrawn before after answer text → PutsReport blank full text reported.put →
    Carries (AnswersDrawn number before after told) blank full reported
drawn-refused number before after told blank full answer text reported same refused puts = (
  [],
  text,
  inr (subst (λ (s : Status). RefusesDrawn before after s text) (sym same) refused),
  shows-none blank full text reported.put puts,
)
