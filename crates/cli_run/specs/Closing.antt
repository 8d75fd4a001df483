-- What is written after a run of the processor that finished, and the outcome of the command.
use Rattle.std.specs.Prelude.{ℕ, Result}
use Rattle.cf_io.specs.declared.failed.Failed.{Failed}
use Rattle.cf_core.specs.Processors.{Processor}
use Rattle.cf_report.specs.declared.tally.Tally.{Tally}
use Rattle.run_finishes.specs.declared.finish.Scripted.{Scripted}
use Rattle.report_closing.specs.Closing.{closing, is_report_fault}
use Rattle.cli_files.specs.Outside.{Report}
use Rattle.cli_reports.specs.Reporting.{PutsClosing}
use Rattle.cli_reports.specs.declared.reporting.Reported.{Reported}
use Rattle.cli_processor.specs.Statuses.{status_of}

-- the closing lines were written if the report had not failed during the run; if it had, nothing more was written
abbrev pub ClosesCore : (limit : ℕ) → Scripted → Processor → Tally → (half full : Report) → Result Reported Failed → Type 0
ClosesCore limit finish last tally half full result =
    PutsClosing (is_report_fault finish) (status_of limit tally.moves finish) (closing limit finish last.plan last.state tally) half full result
