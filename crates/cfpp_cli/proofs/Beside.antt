-- The answer of a command, and what the command leaves unchanged.
use Rattle.std.proofs.Common.{◌≡◌, ℕ, List, Ok, Result, Err, IfOk, refl}
use Rattle.cf_io.specs.declared.failed.Failed.{Failed}
use Rattle.cli_files.proofs.NoStreams.{no-cause}
use Rattle.cli_files.specs.Outside.{Report}
use Rattle.cli_files.specs.declared.status.Status.{Status}
use Rattle.cli_reports.specs.Reporting.{Comes, FaultsReported}
use Rattle.cli_reports.specs.declared.reporting.Reported.{Reported}

-- in addition to the answer, another fact is true
pub comes-beside : (Answers : Status → List ℕ → List ℕ → Type 0) (Breaks Beside : Type 0) (blank full : Report)
    (result : Result Reported Failed) → Beside → Comes Answers Breaks blank full result →
    Comes (λ answer shown closing. Answers answer shown closing × Beside) (Breaks × Beside) blank full result
comes-beside Answers Breaks Beside blank full (Ok reported) beside (shown, closing, answers, puts) =
    (shown, closing, (answers, beside), puts)
comes-beside Answers Breaks Beside blank full (Err failed) beside (breaks, rose) = ((breaks, beside), rose)

-- a count is unchanged if the command does not deal with what it counts, and no answer says otherwise
pub untouched : (answered : Status → Result (Unit {0}) (Unit {0})) (count : ℕ) (result : Result Reported Failed) →
    IfOk result (λ reported. answered reported.status ≡ Ok tt) → FaultsReported answered count count result
untouched answered count (Ok reported) h = no-cause count (answered reported.status) h
untouched answered count (Err failed) h = refl
