-- The status that a run of the processor ends with.
use Rattle.std.specs.Prelude.{ℕ}
use Rattle.run_finishes.specs.declared.finish.Scripted.{Scripted}
use Rattle.run_finishes.specs.declared.finish.Scripted.TheVariants.{Ran, ScriptEnd, BadScript, BarredAt}
use Rattle.report_refusals.specs.declared.faults.ScriptFault.TheVariants as fault
use Rattle.cli_files.specs.declared.status.Status.{Status}
use Rattle.cli_files.specs.declared.status.Status.TheVariants as status
use Rattle.cli_reports.specs.RunStatuses.{status_of_run}

-- under this limit, with this many moves made
abbrev pub status_of : (limit moves : ℕ) → Scripted → Status
status_of limit moves (Ran answer) = status_of_run limit answer
status_of limit moves ScriptEnd = status.ScriptEnd moves
status_of limit moves (BadScript refusal) = status.BadScript (fault.Line refusal)
status_of limit moves (BarredAt number bar) = status.BarredAt number bar
