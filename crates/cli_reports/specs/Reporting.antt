-- The outcome of a command once its report was written.
use Rattle.std.specs.Prelude.{◌≡◌, ℕ, List, Bool, true, false, Option, Result, Ok, Err}
use Rattle.cf_io.specs.Causes.{Rose, HasCause}
use Rattle.cf_io.specs.Puts.{Writes}
use Rattle.cf_io.specs.declared.failed.Failed.{Failed}
use Rattle.cf_io.specs.declared.sink.Sink.{Ghosts as SinkMembers}
use Rattle.rv_machine.specs.Streams.{Streams}
use Rattle.cf_report.specs.Putting.{PutsText}
use Rattle.cli_files.specs.Causes.{files_answered, input_answered, output_answered}
use Rattle.cli_files.specs.Outside.{Outside, Report, report_in}
use Rattle.cli_files.specs.declared.answer.Answer.{Answer}
use Rattle.cli_files.specs.declared.status.Status.{Status}
use Rattle.cli_reports.specs.OutsideChanges.{OutsideChange, RunChange, RunSeen}
use Rattle.cli_reports.specs.declared.reporting.Reported.{Reported}

-- the text was written to the report, or the report failed after a prefix of it
abbrev pub PutsReport : (half full : Report) → (text : List ℕ) → Result (Unit {0}) Failed → Type 0
PutsReport half full text put = PutsText half.written full.written half.faults full.faults text put

-- the same for the sink of the report
abbrev pub PutsInto : {R : Type 0} → SinkMembers R → (before after : R) → (text : List ℕ) → Result (Unit {0}) Failed → Type 0
PutsInto of_report before after text put = PutsReport (report_in of_report before) (report_in of_report after) text put

-- what was shown was written, followed by the closing lines, or the report failed after a prefix of these
pub record PutsAfter (blank full : Report) (shown closing : List ℕ) (put : Result (Unit {0}) Failed) : Type 0 where
  pub told : Option (List ℕ)
  pub shows : Writes blank.written told shown
  pub closes : PutsReport (record blank { written = told }) full closing put

-- the command was carried out with such an answer: what it showed, and the closing lines of its report
abbrev pub Carries : (Status → List ℕ → List ℕ → Type 0) → (blank full : Report) → Reported → Type 0
Carries answers blank full reported =
    (shown : List ℕ) × (closing : List ℕ) × answers reported.status shown closing
    × PutsAfter blank full shown closing reported.put

-- a command that shows nothing: this is its whole report
abbrev pub ReportsAlone : (Status → List ℕ → Type 0) → (blank full : Report) → Reported → Type 0
ReportsAlone answers blank full reported =
    (report : List ℕ) × answers reported.status report × PutsReport blank full report reported.put

-- the same for everything that the command borrows
abbrev pub ReportsAll : (Outside → Outside → Status → List ℕ → Type 0) → OutsideChange → Reported → Type 0
ReportsAll answers s reported = ReportsAlone (answers s.before s.after) s.blank s.full reported

-- the same for a run, which has only its streams and its report
abbrev pub ReportsOver : (Streams → Streams → Status → List ℕ → Type 0) → RunChange → Reported → Type 0
ReportsOver answers c reported = ReportsAlone (answers c.before.streams c.after.streams) c.before.report c.after.report reported

-- the command was carried out, or the report failed meanwhile
abbrev pub Comes : (Status → List ℕ → List ℕ → Type 0) → Type 0 → (blank full : Report) → Result Reported Failed → Type 0
Comes answers breaks blank full (Ok reported) = Carries answers blank full reported
Comes answers breaks blank full (Err failed) = breaks × Rose blank.faults full.faults

-- the same for everything that the command borrows
abbrev pub CarriesOut : (Outside → Outside → Option (List ℕ) → Status → List ℕ → List ℕ → Type 0) →
    (Outside → Outside → Option (List ℕ) → Option (List ℕ) → Type 0) → OutsideChange → Result Reported Failed → Type 0
CarriesOut answers breaks s result =
    Comes (answers s.before s.after s.blank.written) (breaks s.before s.after s.blank.written s.full.written) s.blank s.full result

-- the same for a run, which has only its streams and its report
abbrev pub ComesOver : (Streams → Streams → Option (List ℕ) → Status → List ℕ → List ℕ → Type 0) →
    (Streams → Streams → Option (List ℕ) → Option (List ℕ) → Type 0) → RunChange → Result Reported Failed → Type 0
ComesOver answers breaks c result =
    Comes (answers c.before.streams c.after.streams c.before.report.written)
    (breaks c.before.streams c.after.streams c.before.report.written c.after.report.written) c.before.report c.after.report result

-- an error if a file could not be read
abbrev pub files_reported : Result Reported Failed → Result (Unit {0}) (Unit {0})
files_reported (Ok reported) = files_answered reported.status
files_reported (Err failed) = Ok tt

-- a count of faults: it rose exactly if the answer says so; if the report failed while the command was carried out,
-- nothing else did
abbrev pub FaultsReported : (Status → Result (Unit {0}) (Unit {0})) → ℕ → ℕ → Result Reported Failed → Type 0
FaultsReported answered before now (Ok reported) = HasCause before now (answered reported.status)
FaultsReported answered before now (Err failed) = now ≡ before

-- the counts of faults of the files, the input and the output: each rose exactly if the status says so; if the report
-- failed while the command was carried out, none of them did
pub record FaultsAre (before after : Outside) (result : Result Reported Failed) : Type 0 where
  pub files : HasCause before.file_faults after.file_faults (files_reported result)
  pub input : FaultsReported input_answered before.input_faults after.input_faults result
  pub output : FaultsReported output_answered before.output_faults after.output_faults result

-- the same for a run, which reads no file: its status does not say that one could not be read
pub record StreamFaultsAre (before after : RunSeen) (result : Result Reported Failed) : Type 0 where
  pub files : files_reported result ≡ Ok tt
  pub input : FaultsReported input_answered before.input_faults after.input_faults result
  pub output : FaultsReported output_answered before.output_faults after.output_faults result

-- the effect of a command that shows lines on everything that it borrows, with the counts of faults
pub record CarriesOutCommand (answers : Outside → Outside → Option (List ℕ) → Status → List ℕ → List ℕ → Type 0)
    (breaks : Outside → Outside → Option (List ℕ) → Option (List ℕ) → Type 0) (s : OutsideChange)
    (result : Result Reported Failed) : Type 0 where
  pub comes : CarriesOut answers breaks s result
  pub faults : FaultsAre s.before s.after result

-- the same for a command that shows nothing
pub record ReportsCommand (answers : Outside → Outside → Status → List ℕ → Type 0) (s : OutsideChange) (reported : Reported) :
    Type 0 where
  pub reports : ReportsAll answers s reported
  pub faults : FaultsAre s.before s.after (Ok reported)

-- the effect of a run on its streams and its report, with the counts of faults of the streams
pub record CarriesOutRun (answers : Streams → Streams → Option (List ℕ) → Status → List ℕ → List ℕ → Type 0)
    (breaks : Streams → Streams → Option (List ℕ) → Option (List ℕ) → Type 0) (c : RunChange)
    (result : Result Reported Failed) : Type 0 where
  pub comes : ComesOver answers breaks c result
  pub faults : StreamFaultsAre c.before c.after result

-- the same for a run that shows nothing
pub record ReportsRun (answers : Streams → Streams → Status → List ℕ → Type 0) (c : RunChange) (reported : Reported) :
    Type 0 where
  pub reports : ReportsOver answers c reported
  pub faults : StreamFaultsAre c.before c.after (Ok reported)

-- the closing lines of what was decided were written; if the report had failed, no lines were
abbrev pub PutsDecided : Result Answer Failed → (half full : Report) → Result Reported Failed → Type 0
PutsDecided (Ok answer) half full (Ok reported) =
    (reported.status ≡ answer.status) × PutsReport half full answer.closing reported.put
PutsDecided (Ok answer) half full (Err failed) = ⊥
PutsDecided (Err failed) half full (Ok reported) = ⊥
PutsDecided (Err failed) half full (Err same) = full ≡ half

-- a text was written after the report so far; if that had failed, nothing was
abbrev pub Adds : (so_far : Result (Unit {0}) Failed) → (half full : Report) → (text : List ℕ) →
    Result (Unit {0}) Failed → Type 0
Adds (Ok u) half full text put = PutsReport half full text put
Adds (Err failed) half full text put = (full ≡ half) × (put ≡ Err failed)

-- these lines, or a prefix of them, were written after a run with this status
pub record ClosesWith (said : Status) (lines : List ℕ) (half full : Report) (reported : Reported) : Type 0 where
  pub status_is : reported.status ≡ said
  pub puts : PutsReport half full lines reported.put

-- the lines were written if the report had not failed during the run; if it had, nothing more was written
abbrev pub PutsClosing : (cut : Bool) → Status → (lines : List ℕ) → (half full : Report) → Result Reported Failed → Type 0
PutsClosing cut said lines half full (Ok reported) = (cut ≡ false) × ClosesWith said lines half full reported
PutsClosing cut said lines half full (Err failed) = (cut ≡ true) × (full ≡ half)
