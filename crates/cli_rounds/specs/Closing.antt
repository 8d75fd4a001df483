-- What is written after a run in rounds that finished, and the outcome of the command.
use Rattle.std.specs.Prelude.{ℕ, Result}
use Rattle.cf_io.specs.declared.failed.Failed.{Failed}
use Rattle.cf_core.specs.Processors.{Processor}
use Rattle.cf_report.specs.declared.tally.Tally.{Tally}
use Rattle.run_finishes.specs.declared.finish.Ran.{Ran as Answer}
use Rattle.run_finishes.specs.declared.finish.Scripted.TheVariants.{Ran}
use Rattle.report_closing.specs.Closing.{closing_in_rounds, is_report_fault}
use Rattle.cli_files.specs.Outside.{Report}
use Rattle.cli_reports.specs.RunStatuses.{status_of_run}
use Rattle.cli_reports.specs.Reporting.{PutsClosing}
use Rattle.cli_reports.specs.declared.reporting.Reported.{Reported}

-- the closing lines were written if the report had not failed during the run; if it had, nothing more was written
abbrev pub ClosesRounds : (limit : ℕ) → Answer → (rounds : ℕ) → Processor → Tally → (half full : Report) → Result Reported Failed → Type 0
ClosesRounds limit finish rounds last tally half full result =
    PutsClosing (is_report_fault (Ran finish)) (status_of_run limit finish) (closing_in_rounds limit (Ran finish) rounds last.plan last.state tally)
    half full result
