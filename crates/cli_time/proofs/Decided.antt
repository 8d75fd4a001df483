-- What was decided, once its closing lines were written.
use Rattle.std.proofs.Common.{◌≡◌, Result, Ok, Err, IfOk, refl, ap, ◌∙◌}
use Rattle.cf_io.specs.declared.failed.Failed.{Failed}
use Rattle.cli_files.specs.Causes.{reading_answered}
use Rattle.cli_files.specs.Deciding.{reading_decided}
use Rattle.cli_files.specs.Outside.{Report}
use Rattle.cli_files.specs.declared.answer.Answer.{Answer}
use Rattle.cli_files.specs.declared.status.Status.{Status}
use Rattle.cli_reports.specs.Reporting.{PutsDecided}
use Rattle.cli_reports.specs.declared.reporting.Reported.{Reported}
use Rattle.cli_time.specs.Effects.{reading_reported}

-- the answer says about files what was decided
pub decided-reading : (half full : Report) (decided : Result Answer Failed) (result : Result Reported Failed) →
    PutsDecided decided half full result → reading_reported result ≡ reading_decided decided
decided-reading half full (Ok answer) (Ok reported) closes = ap reading_answered closes.0
decided-reading half full (Ok answer) (Err failed) closes = absurd closes
decided-reading half full (Err failed) (Ok reported) closes = absurd closes
decided-reading half full (Err failed) (Err other) closes = refl

-- and if that does not say that something failed, neither does the answer
pub decided-works : (answered : Status → Result (Unit {0}) (Unit {0})) (half full : Report) (decided : Result Answer Failed)
    (result : Result Reported Failed) → IfOk decided (λ answer. answered answer.status ≡ Ok tt) → PutsDecided decided half full result →
    IfOk result (λ reported. answered reported.status ≡ Ok tt)
decided-works answered half full (Ok answer) (Ok reported) works closes = ap answered closes.0 ∙ works
decided-works answered half full (Ok answer) (Err failed) works closes = tt
decided-works answered half full (Err failed) (Ok reported) works closes = absurd closes
decided-works answered half full (Err failed) (Err other) works closes = tt
