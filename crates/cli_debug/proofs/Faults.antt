-- What the end of a session says about the streams and the files.
use Rattle.std.proofs.Common.{◌≡◌, ℕ, true, false, Some, Result, Ok, Err, refl}
use Rattle.cf_io.specs.Causes.{HasCause}
use Rattle.cf_io.specs.declared.failed.Failed.{Failed}
use Rattle.cf_debug.specs.declared.answer.Debugged.{Debugged}
use Rattle.cf_debug.specs.declared.answer.Debugged.TheVariants.{Done, Limit, ReadFault, WriteFault, ReportFault}
use Rattle.cf_debug.specs.Sessions.{commands_ended, output_ended}
use Rattle.cli_files.specs.Causes.{files_answered, input_answered, output_answered}
use Rattle.cli_files.specs.Outside.{Report}
use Rattle.cli_reports.specs.Reporting.{FaultsReported, files_reported}
use Rattle.cli_reports.specs.declared.reporting.Reported.{Reported}
use Rattle.cli_reports.proofs.PutReports.{closed-tells}
use Rattle.cli_debug.specs.Closing.{ClosesSession, closing_of_session, session_broken, session_status}

-- about the input and the output the status says what the session says, and about files nothing
input-said : (ended : Debugged) → input_answered (session_status ended) ≡ commands_ended (Some ended)
input-said Done = refl
input-said Limit = refl
input-said ReadFault = refl
input-said WriteFault = refl
input-said ReportFault = refl

output-said : (ended : Debugged) → session_broken ended ≡ false → output_answered (session_status ended) ≡ output_ended (Some ended)
output-said Done sound = refl
output-said Limit sound = refl
output-said ReadFault sound = refl
output-said WriteFault sound = refl
output-said ReportFault sound = absurd (cc)

files-said : (ended : Debugged) → files_answered (session_status ended) ≡ Ok tt
files-said Done = refl
files-said Limit = refl
files-said ReadFault = refl
files-said WriteFault = refl
files-said ReportFault = refl

-- if the report failed, neither of the two did
input-works : (ended : Debugged) → session_broken ended ≡ true → commands_ended (Some ended) ≡ Ok tt
input-works ReportFault cut = refl
input-works Done cut = absurd (cc)
input-works Limit cut = absurd (cc)
input-works ReadFault cut = absurd (cc)
input-works WriteFault cut = absurd (cc)

output-works : (ended : Debugged) → session_broken ended ≡ true → output_ended (Some ended) ≡ Ok tt
output-works ReportFault cut = refl
output-works Done cut = absurd (cc)
output-works Limit cut = absurd (cc)
output-works ReadFault cut = absurd (cc)
output-works WriteFault cut = absurd (cc)

-- the same for the counts
pub session-input : (ended : Debugged) (half full : Report) (result : Result Reported Failed) (before now : ℕ) → ClosesSession ended half full result →
    HasCause before now (commands_ended (Some ended)) → FaultsReported input_answered before now result
session-input ended half full result before now closes h =
    closed-tells input_answered (session_broken ended) (session_status ended) _ (closing_of_session ended) half full result before now
    (λ sound. input-said ended) (λ cut. input-works ended cut) closes h

pub session-output : (ended : Debugged) (half full : Report) (result : Result Reported Failed) (before now : ℕ) → ClosesSession ended half full result →
    HasCause before now (output_ended (Some ended)) → FaultsReported output_answered before now result
session-output ended half full result before now closes h =
    closed-tells output_answered (session_broken ended) (session_status ended) _ (closing_of_session ended) half full result before now
    (λ sound. output-said ended sound) (λ cut. output-works ended cut) closes h

pub session-files : (ended : Debugged) (half full : Report) (result : Result Reported Failed) → ClosesSession ended half full result →
    files_reported result ≡ Ok tt
session-files ended half full (Ok reported) (sound, closes) = rw closes.status_is (files-said ended)
session-files ended half full (Err failed) closes = refl
