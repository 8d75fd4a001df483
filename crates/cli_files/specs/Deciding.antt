-- What a command decides before the closing lines of its report are written.
use Rattle.std.specs.Prelude.{◌≡◌, ℕ, List, ◌++◌, Option, Result, Ok, Err}
use Rattle.cf_io.specs.Causes.{HasCause}
use Rattle.cf_io.specs.Puts.{Writes}
use Rattle.cf_io.specs.declared.failed.Failed.{Failed}
use Rattle.cli_files.specs.Causes.{files_answered, reading_answered}
use Rattle.cli_files.specs.declared.answer.Answer.{Answer}
use Rattle.cli_files.specs.declared.status.Status.{Status}

-- some lines were written, and followed by the closing lines they are the answer's report; or the report failed
abbrev pub Decides : (Status → List ℕ → Type 0) → Type 0 → Option (List ℕ) → Option (List ℕ) →
    Result Answer Failed → Type 0
Decides answers breaks blank full (Ok answer) =
    (lines : List ℕ) × Writes blank full lines × answers answer.status (lines ++ answer.closing)
Decides answers breaks blank full (Err failed) = breaks

-- an error if the decision is that a file could not be read
abbrev pub files_decided : Result Answer Failed → Result (Unit {0}) (Unit {0})
files_decided (Ok answer) = files_answered answer.status
files_decided (Err failed) = Ok tt

-- the same, if the program's input is in a file too
abbrev pub reading_decided : Result Answer Failed → Result (Unit {0}) (Unit {0})
reading_decided (Ok answer) = reading_answered answer.status
reading_decided (Err failed) = Ok tt

-- a count of faults, given what was decided: it rose exactly if the answer says so; if the report failed, nothing else
-- did
abbrev pub FaultsCounted : (Status → Result (Unit {0}) (Unit {0})) → ℕ → ℕ → Result Answer Failed → Type 0
FaultsCounted answered before now (Ok answer) = HasCause before now (answered answer.status)
FaultsCounted answered before now (Err failed) = now ≡ before
