-- The outcome of a command whose report was written, or failed.
use Rattle.std.proofs.Common.{◌≡◌, ℕ, List, [], ◌++◌, Bool, true, false, Option, Result, Ok, Err, refl, sym, ap, subst}
use Rattle.cf_io.specs.Causes.{Rose, HasCause}
use Rattle.cf_io.specs.declared.failed.Failed.{Failed}
use Rattle.cf_io.proofs.Owing.{writes-nothing}
use Rattle.cf_report.proofs.Puttings.{puts-again, failed-more}
use Rattle.cli_files.specs.Causes.{files_answered, input_answered, output_answered}
use Rattle.cli_files.specs.Deciding.{FaultsCounted, Decides, files_decided}
use Rattle.cli_files.proofs.NoStreams.{SaysNoStream, no-cause}
use Rattle.cli_files.specs.Outside.{Outside, Report, report_of}
use Rattle.cli_files.specs.declared.answer.Answer.{Answer}
use Rattle.cli_files.specs.declared.status.Status.{Status}
use Rattle.cli_reports.specs.Reporting.{PutsReport, PutsAfter, PutsClosing, ReportsAlone, Comes, PutsDecided, Adds}
use Rattle.cli_reports.specs.Reporting.{FaultsReported, FaultsAre, StreamFaultsAre, files_reported}
use Rattle.cli_reports.specs.OutsideChanges.{RunSeen}
use Rattle.cli_reports.specs.declared.reporting.Reported.{Reported}

-- nothing was shown before the text
pub shows-none : (blank full : Report) (text : List ℕ) (put : Result (Unit {0}) Failed) → PutsReport blank full text put →
    PutsAfter blank full [] text put
shows-none blank full text put puts =
    record { told = blank.written; shows = writes-nothing blank.written; closes = puts }

-- an answer whose lines were written
pub answer-put : (answers : Status → List ℕ → Type 0) (answer : Status) (text : List ℕ) (blank full : Report)
    (reported : Reported) → reported.status ≡ answer → answers answer text → PutsReport blank full text reported.put →
    ReportsAlone answers blank full reported
answer-put answers answer text blank full reported same holds puts =
    (text, subst (λ (s : Status). answers s text) (sym same) holds, puts)

-- what was decided, and its closing lines
pub decided-comes : (answers : Status → List ℕ → Type 0) (breaks : Option (List ℕ) → Type 0) (blank half full : Report)
    (decided : Result Answer Failed) (result : Result Reported Failed) →
    Decides answers (breaks half.written) blank.written half.written decided →
    HasCause blank.faults half.faults decided → PutsDecided decided half full result →
    Comes (λ answer shown closing. answers answer (shown ++ closing)) (breaks full.written) blank full result
decided-comes answers breaks blank half full (Ok answer) (Ok reported) (lines, put, holds) cause (same, closes) = (
  lines,
  answer.closing,
  subst (λ (s : Status). answers s (lines ++ answer.closing)) (sym same) holds,
  record {
    told = half.written;
    shows = put;
    closes = subst (λ (n : ℕ). PutsReport (report_of half.written n) full answer.closing reported.put) cause.still closes;
  },
)
decided-comes answers breaks blank half full (Ok answer) (Err failed) decides cause closes = absurd closes
decided-comes answers breaks blank half full (Err failed) (Ok reported) decides cause closes = absurd closes
decided-comes answers breaks blank half full (Err failed) (Err other) decides cause same = (
  subst (λ (r : Report). breaks r.written) (sym same) decides,
  subst (λ (r : Report). Rose blank.faults r.faults) (sym same) cause.rose,
)

-- a count of faults that goes with it
pub decided-tells : (answered : Status → Result (Unit {0}) (Unit {0})) (before now : ℕ) (half full : Report)
    (decided : Result Answer Failed) (result : Result Reported Failed) → FaultsCounted answered before now decided →
    PutsDecided decided half full result → FaultsReported answered before now result
decided-tells answered before now half full (Ok answer) (Ok reported) counts closes = rw closes.0 counts
decided-tells answered before now half full (Ok answer) (Err failed) counts closes = absurd closes
decided-tells answered before now half full (Err failed) (Ok reported) counts closes = absurd closes
decided-tells answered before now half full (Err failed) (Err other) counts closes = counts

pub decided-files : (half full : Report) (decided : Result Answer Failed) (result : Result Reported Failed) →
    PutsDecided decided half full result → files_reported result ≡ files_decided decided
decided-files half full (Ok answer) (Ok reported) closes = ap files_answered closes.0
decided-files half full (Ok answer) (Err failed) closes = absurd closes
decided-files half full (Err failed) (Ok reported) closes = absurd closes
decided-files half full (Err failed) (Err other) closes = refl

-- the part of the outside and the report that a run sees
abbrev run_of : Outside → Report → RunSeen
run_of outside report = record {
  streams = outside.streams;
  input_faults = outside.input_faults;
  output_faults = outside.output_faults;
  report = report;
}

-- after files were read, and the program in one of them ran, the counts are those that the reading and the run leave
pub faults-ran : (before after : Outside) (blank full : Report) (result : Result Reported Failed) →
    after.file_faults ≡ before.file_faults →
    StreamFaultsAre (run_of before blank) (run_of after full) result → FaultsAre before after result
faults-ran before after blank full result same ran = record {
  files = rw same (no-cause before.file_faults (files_reported result) ran.files);
  input = ran.input;
  output = ran.output;
}

-- if a file was missing nothing ran, and the answer does not say that a stream failed
pub faults-refused : (before after : Outside) (answer : Status) (reported : Reported) → reported.status ≡ answer →
    HasCause before.file_faults after.file_faults (files_answered answer) → SaysNoStream answer →
    after.input_faults ≡ before.input_faults → after.output_faults ≡ before.output_faults → FaultsAre before after (Ok reported)
faults-refused before after answer reported same read none input output = record {
  files = rw same read;
  input = rw (same, input) (no-cause before.input_faults (input_answered answer) none.input);
  output = rw (same, output) (no-cause before.output_faults (output_answered answer) none.output);
}

-- if a run was closed, a count rose exactly if the status says so; if the report had failed, nothing else did
pub closed-tells : (answered : Status → Result (Unit {0}) (Unit {0})) (cut : Bool) (said : Status)
    (cause : Result (Unit {0}) (Unit {0})) (lines : List ℕ) (half full : Report) (result : Result Reported Failed)
    (before now : ℕ) → (cut ≡ false → answered said ≡ cause) → (cut ≡ true → cause ≡ Ok tt) → PutsClosing cut said lines half full result →
    HasCause before now cause → FaultsReported answered before now result
closed-tells answered cut said cause lines half full (Ok reported) before now same alone (sound, closes) h =
    rw (closes.status_is, same sound) h
closed-tells answered cut said cause lines half full (Err failed) before now same alone (failed_first, closes) h =
    (subst (HasCause before now) (alone failed_first) h).still

-- a text was written after another, or one of them failed
pub adds : (blank half full : Report) (text more : List ℕ) (so_far put : Result (Unit {0}) Failed) →
    PutsReport blank half text so_far → Adds so_far half full more put → PutsReport blank full (text ++ more) put
adds blank half full text more (Ok u) put puts more_puts = puts-again (text ++ more) refl refl puts more_puts
adds blank half full text more (Err failed) put puts (same, is) =
    subst (λ (r : Report). PutsReport blank r (text ++ more) put) (sym same)
    (subst (λ (p : Result (Unit {0}) Failed). PutsReport blank half (text ++ more) p) (sym is)
    (failed-more more (Err failed) refl puts))

pub adds-after : (blank half full : Report) (shown text more : List ℕ) (so_far put : Result (Unit {0}) Failed) →
    PutsAfter blank half shown text so_far → Adds so_far half full more put →
    PutsAfter blank full shown (text ++ more) put
adds-after blank half full shown text more so_far put puts more_puts = record {
  told = puts.told;
  shows = puts.shows;
  closes = adds (record blank { written = puts.told }) half full text more so_far put puts.closes more_puts;
}
