-- The status that a run ends with.
use Rattle.std.specs.Prelude.{ℕ, Some}
use Rattle.run_finishes.specs.declared.finish.Ran.{Ran as Answer}
use Rattle.run_finishes.specs.declared.finish.Ran.TheVariants as ran
use Rattle.cli_files.specs.declared.status.Status.{Status}
use Rattle.cli_files.specs.declared.status.Status.TheVariants as status
use Rattle.cli_files.specs.declared.status.Which.TheVariants as which

-- for a run that finished in this way under this limit, whether of the sequential machine or of the processor
abbrev pub status_of_run : (limit : ℕ) → Answer → Status
status_of_run limit (ran.Exit code) = status.Exit code
status_of_run limit (ran.Trap cause pc detail) = status.Trap cause pc detail
status_of_run limit ran.Limit = status.Limit (Some limit)
status_of_run limit ran.ReadFault = status.ReadFault which.Input
status_of_run limit ran.WriteFault = status.WriteFault
status_of_run limit ran.ReportFault = status.WriteFault
