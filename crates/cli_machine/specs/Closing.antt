-- What is written after a run of the sequential machine that finished, and the outcome of the command.
use Rattle.std.specs.Prelude.{ℕ, Bool, Result}
use Rattle.cf_io.specs.declared.failed.Failed.{Failed}
use Rattle.rv_machine.specs.Hart.{Hart}
use Rattle.run_finishes.specs.declared.finish.Ran.{Ran as Answer}
use Rattle.run_finishes.specs.declared.finish.Scripted.TheVariants.{Ran}
use Rattle.report_closing.specs.Closing.{machine_closing, is_report_fault}
use Rattle.cli_files.specs.Outside.{Report}
use Rattle.cli_reports.specs.Reporting.{PutsClosing}
use Rattle.cli_reports.specs.declared.reporting.Reported.{Reported}
use Rattle.cli_reports.specs.RunStatuses.{status_of_run}

-- the report failed during the run
abbrev pub report_failed : Answer → Bool
report_failed finish = is_report_fault (Ran finish)

-- the closing lines were written if the report had not failed during the run; if it had, nothing more was written
abbrev pub ClosesMachine : (limit : ℕ) → Answer → Hart → (half full : Report) → Result Reported Failed → Type 0
ClosesMachine limit finish last half full result =
    PutsClosing (report_failed finish) (status_of_run limit finish) (machine_closing limit finish last.retired last.regs) half full result
