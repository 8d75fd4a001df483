-- The effect of a command that has only files, one with the program's input, on the files and on its report.
use Rattle.std.specs.Prelude.{◌≡◌, ℕ, List, Option, Result, Ok, Err, IfOk}
use Rattle.cf_io.specs.Causes.{HasCause}
use Rattle.cf_io.specs.Reads.{FilesSeen}
use Rattle.cf_io.specs.declared.failed.Failed.{Failed}
use Rattle.cf_io.specs.declared.files.Files.{Ghosts as FilesMembers}
use Rattle.cf_io.specs.declared.sink.Sink.{Ghosts as SinkMembers}
use Rattle.cli_files.specs.Causes.{output_answered, reading_answered}
use Rattle.cli_files.specs.Outside.{report_in}
use Rattle.cli_files.specs.declared.status.Status.{Status}
use Rattle.cli_reports.specs.Reporting.{Comes}
use Rattle.cli_reports.specs.declared.reporting.Reported.{Reported}

-- an error if the answer says that a file, or the program's input in one, could not be read
abbrev pub reading_reported : Result Reported Failed → Result (Unit {0}) (Unit {0})
reading_reported (Ok reported) = reading_answered reported.status
reading_reported (Err failed) = Ok tt

-- the command was carried out, or the report failed meanwhile; the files' count of faults rose exactly if the answer
-- says that a file could not be read, and no answer says that the output failed
pub record CarriesOutOverFiles {F R : Type 0} (answers : Option FilesSeen → Option FilesSeen → Status → List ℕ → List ℕ → Type 0)
    (breaks : Option FilesSeen → Option FilesSeen → Option (List ℕ) → Option (List ℕ) → Type 0) (of_files : FilesMembers F)
    (of_report : SinkMembers R) (before after : F × R) (result : Result Reported Failed) : Type 0 where
  pub comes : Comes (answers (of_files.told before.0) (of_files.told after.0))
      (breaks (of_files.told before.0) (of_files.told after.0) (of_report.written before.1) (of_report.written after.1))
      (report_in of_report before.1) (report_in of_report after.1) result
  pub files : HasCause (of_files.faults before.0) (of_files.faults after.0) (reading_reported result)
  pub output : IfOk result (λ reported. output_answered reported.status ≡ Ok tt)
