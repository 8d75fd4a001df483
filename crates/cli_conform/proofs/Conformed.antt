-- The judgement of a log, its report, and what `conform` answers.
use Rattle.std.proofs.Common.{◌≡◌, ℕ, List, Option, Some, Ok, refl, subst, inl, inr}
use Rattle.cf_io.specs.Causes.{HasCause}
use Rattle.rv_machine.specs.Hart.{Hart}
use Rattle.rv_machine.specs.Streams.{Streams}
use Rattle.cf_layout.specs.Layout.{Plan}
use Rattle.cf_core.specs.Processors.{Processor, opened_processor}
use Rattle.run_finishes.specs.declared.finish.Ran.TheVariants as ran
use Rattle.cf_conform.specs.declared.answer.Conformed.{Conformed}
use Rattle.cf_conform.specs.declared.answer.Conformed.TheVariants.{Ran, LogEnd, BadLog, Differs}
use Rattle.cf_conform.specs.declared.progress.LogProgress.{LogProgress}
use Rattle.cf_conform.specs.Conforming.{JudgesLog}
use Rattle.cf_conform.specs.Judging.{log_judged, output_stopped_log}
use Rattle.cf_conform.specs.LogPlaces.{LogPlace, log_place, no_progress}
use Rattle.cf_conform.proofs.ReportFaults.{no-log-faults}
use Rattle.cli_files.specs.Causes.{files_answered, input_answered, output_answered}
use Rattle.cli_files.specs.Loading.{IsLoaded}
use Rattle.cli_files.specs.Outside.{Outside, Report}
use Rattle.cli_files.specs.declared.status.Status.{Status}
use Rattle.cli_reports.specs.Reporting.{PutsReport, ReportsAlone}
use Rattle.cli_reports.specs.declared.reporting.Reported.{Reported}
use Rattle.cli_reports.proofs.PutReports.{answer-put}
use Rattle.cli_conform.specs.Conform.{AnswersConform, ClosesLog, ComesOfLog, ConformAsked, JudgesCore, RefusesConform, log_status}
use Rattle.cli_conform.specs.LogLines.{log_closing}

-- the report of a log was written, or failed
pub log-closed : (limit : ℕ) (core last : Processor) (before after : Streams) (blank full : Report) (start progress : LogProgress) (found : Conformed)
    (reported : Reported) → start ≡ no_progress →
    JudgesLog limit before.input after.input (log_place core before.output start) (log_place last after.output progress) found →
    ClosesLog limit found last progress blank full reported → ReportsAlone (JudgesCore limit core last before after) blank full reported
log-closed limit core last before after blank full start progress found reported fresh judges closes = (
  log_closing limit found last.plan last.state progress,
  record {
    progress = progress;
    found = found;
    judges = subst (λ (p : LogProgress). JudgesLog limit before.input after.input (log_place core before.output p) (log_place last after.output progress) found)
        fresh judges;
    status_is = closes.status_is;
    reports = refl;
  },
  closes.puts,
)

-- about the input and the output the status says what the judgement says, and about files nothing
input_found : (limit moves : ℕ) (found : Conformed) → input_answered (log_status limit moves found) ≡ log_judged (Some found)
input_found limit moves (Ran (ran.Exit status)) = refl
input_found limit moves (Ran (ran.Trap cause pc detail)) = refl
input_found limit moves (Ran ran.Limit) = refl
input_found limit moves (Ran ran.ReadFault) = refl
input_found limit moves (Ran ran.WriteFault) = refl
input_found limit moves (Ran ran.ReportFault) = refl
input_found limit moves LogEnd = refl
input_found limit moves (BadLog refusal) = refl
input_found limit moves (Differs number part) = refl

files_found : (limit moves : ℕ) (found : Conformed) → files_answered (log_status limit moves found) ≡ Ok tt
files_found limit moves (Ran (ran.Exit status)) = refl
files_found limit moves (Ran (ran.Trap cause pc detail)) = refl
files_found limit moves (Ran ran.Limit) = refl
files_found limit moves (Ran ran.ReadFault) = refl
files_found limit moves (Ran ran.WriteFault) = refl
files_found limit moves (Ran ran.ReportFault) = refl
files_found limit moves LogEnd = refl
files_found limit moves (BadLog refusal) = refl
files_found limit moves (Differs number part) = refl

-- the same for the counts
pub log-input : (limit moves : ℕ) (found : Conformed) (said : Status) (before now : ℕ) → said ≡ log_status limit moves found →
    HasCause before now (log_judged (Some found)) → HasCause before now (input_answered said)
log-input limit moves found said before now is h = rw (is, input_found limit moves found) h

pub log-files : (limit moves : ℕ) (found : Conformed) (said : Status) → said ≡ log_status limit moves found → files_answered said ≡ Ok tt
log-files limit moves found said is = rw is (files_found limit moves found)

-- on the processor of a layout, opened on a hart, this is the outcome for the layout and the hart
pub log-comes : (limit : ℕ) (core last : Processor) (plan : Plan) (hart : Hart) (before after : Streams) (blank full : Report) (reported : Reported) →
    core ≡ opened_processor plan hart → ReportsAlone (JudgesCore limit core last before after) blank full reported →
    ReportsAlone (ComesOfLog limit plan hart before after) blank full reported
log-comes limit core last plan hart before after blank full reported is (text, judges, puts) =
    (text, inl (last, subst (λ (p : Processor). JudgesCore limit p last before after reported.status text) is judges), puts)

-- and of its files
pub loaded-log : (asked : ConformAsked) (before after : Outside) (plan : Plan) (hart : Hart) (blank full : Report) (reported : Reported) →
    IsLoaded asked.layout asked.program before.files after.files plan hart →
    ReportsAlone (ComesOfLog asked.limit plan hart before.streams after.streams) blank full reported →
    ReportsAlone (AnswersConform asked before after) blank full reported
loaded-log asked before after plan hart blank full reported loaded (text, comes, puts) =
    (text, inl (record { plan = plan; hart = hart; loaded = loaded; comes = comes }), puts)

-- or one of them is missing
pub log-refused : (asked : ConformAsked) (before after : Outside) (blank full : Report) (answer : Status) (text : List ℕ) (reported : Reported) →
    reported.status ≡ answer → RefusesConform asked before after answer text → PutsReport blank full text reported.put →
    ReportsAlone (AnswersConform asked before after) blank full reported
log-refused asked before after blank full answer text reported same refused puts =
    answer-put (λ answer text. AnswersConform asked before after answer text) answer text blank full reported same (inr refused) puts

output_found : (limit moves : ℕ) (found : Conformed) (before now : ℕ) → (found ≡ Ran ran.ReportFault → ⊥) →
    HasCause before now (output_stopped_log (Some found)) →
    HasCause before now (output_answered (log_status limit moves found))
output_found limit moves (Ran (ran.Exit status)) before now sound h = h
output_found limit moves (Ran (ran.Trap cause pc detail)) before now sound h = h
output_found limit moves (Ran ran.Limit) before now sound h = h
output_found limit moves (Ran ran.ReadFault) before now sound h = h
output_found limit moves (Ran ran.WriteFault) before now sound h = h
output_found limit moves (Ran ran.ReportFault) before now sound h = absurd (sound refl)
output_found limit moves LogEnd before now sound h = h
output_found limit moves (BadLog refusal) before now sound h = h
output_found limit moves (Differs number part) before now sound h = h

pub log-output : (limit moves : ℕ) (found : Conformed) (said : Status) (before now : ℕ) (input left : Option (List ℕ)) (start new : LogPlace) →
    said ≡ log_status limit moves found → JudgesLog limit input left start new found → HasCause before now (output_stopped_log (Some found)) →
    HasCause before now (output_answered said)
log-output limit moves found said before now input left start new is judges h =
    rw is (output_found limit moves found before now (no-log-faults limit input left start new found judges) h)
