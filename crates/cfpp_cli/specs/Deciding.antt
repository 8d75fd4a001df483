-- What is decided from the arguments.
use Rattle.std.specs.Prelude.{◌≡◌, ℕ, List, Bool, true, false, if◌then◌else◌, Result}
use Rattle.cf_io.specs.Causes.{HasCause}
use Rattle.cf_io.specs.declared.failed.Failed.{Failed}
use Rattle.cli_arguments.specs.Arguments.{Asked}
use Rattle.cli_files.specs.Causes.{input_answered, output_answered}
use Rattle.cli_reports.specs.Reporting.{CarriesOut, FaultsReported, files_reported}
use Rattle.cfpp_cli.specs.Top.{ReadsArguments, Answers, Breaks, input_is_file}
use Rattle.cli_reports.specs.OutsideChanges.{OutsideChange}
use Rattle.cli_reports.specs.declared.reporting.Reported.{Reported}
use Rattle.cli_time.specs.Effects.{reading_reported}

-- an error if the answer says that a file could not be read; a program's input that is in a file counts as one
abbrev pub files_told : (is_file : Bool) → Result Reported Failed → Result (Unit {0}) (Unit {0})
files_told is_file result = if is_file then reading_reported result else files_reported result

-- the input's count of faults rose exactly if the answer says so; it is unchanged if the program's input is in a file
abbrev pub InputTold : (is_file : Bool) → (before now : ℕ) → Result Reported Failed → Type 0
InputTold true before now result = now ≡ before
InputTold false before now result = FaultsReported input_answered before now result

-- the request of the arguments was carried out, or the report failed meanwhile
pub record Decided (arguments : List (List ℕ)) (s : OutsideChange) (result : Result Reported Failed) : Type 0 where
  pub reading : Result Asked ℕ
  pub reads : ReadsArguments arguments reading
  pub comes : CarriesOut (Answers reading) (Breaks reading) s result
  pub files : HasCause s.before.file_faults s.after.file_faults (files_told (input_is_file reading) result)
  pub input : InputTold (input_is_file reading) s.before.input_faults s.after.input_faults result
  pub output : FaultsReported output_answered s.before.output_faults s.after.output_faults result
