-- What is written after a session that finished, and the outcome of the command.
use Rattle.std.specs.Prelude.{ℕ, List, [], codes, Bool, true, false, None, Result}
use Rattle.cf_io.specs.declared.failed.Failed.{Failed}
use Rattle.cf_debug.specs.declared.answer.Debugged.{Debugged}
use Rattle.cf_debug.specs.declared.answer.Debugged.TheVariants.{Done, Limit, ReadFault, WriteFault, ReportFault}
use Rattle.texts.specs.Lines.{line}
use Rattle.cli_files.specs.Outside.{Report}
use Rattle.cli_files.specs.declared.status.Status.{Status}
use Rattle.cli_files.specs.declared.status.Status.TheVariants as status
use Rattle.cli_files.specs.declared.status.Which.TheVariants as which
use Rattle.cli_reports.specs.Reporting.{PutsClosing}
use Rattle.cli_reports.specs.declared.reporting.Reported.{Reported}

-- the report failed during the session
abbrev pub session_broken : Debugged → Bool
session_broken ReportFault = true
session_broken _ = false

-- the status of a session that ended in this way
abbrev pub session_status : Debugged → Status
session_status Done = status.Done
session_status Limit = status.Limit None
session_status ReadFault = status.ReadFault which.Input
session_status WriteFault = status.WriteFault
session_status ReportFault = status.WriteFault

-- the closing line of its report, if the commands did not end it
abbrev pub closing_of_session : Debugged → List ℕ
closing_of_session Done = []
closing_of_session Limit = line (codes "limit")
closing_of_session ReadFault = line (codes "read fault input")
closing_of_session WriteFault = line (codes "write fault output")
closing_of_session ReportFault = line (codes "write fault output")

-- that line was written if the report had not failed during the session; if it had, nothing more was written
abbrev pub ClosesSession : Debugged → (half full : Report) → Result Reported Failed → Type 0
ClosesSession ended half full result =
    PutsClosing (session_broken ended) (session_status ended) (closing_of_session ended) half full result
