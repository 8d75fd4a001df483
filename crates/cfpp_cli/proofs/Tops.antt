-- The top call does what was decided from the arguments.
use Rattle.std.proofs.Common.{◌≡◌, ◌∙◌, ◌⊎◌, ℕ, List, Bool, true, false, Option, Result, Ok, Err, refl, subst, inl, inr, arith}
use Rattle.cf_io.specs.Causes.{HasCause, Rose}
use Rattle.cf_io.specs.Puts.{Writes, WritesNothing}
use Rattle.cf_report.specs.Putting.{WritesPart}
use Rattle.cf_report.proofs.Parts.{part-front, part-whole, text-before}
use Rattle.cf_io.specs.declared.failed.Failed.{Failed}
use Rattle.cli_arguments.specs.Arguments.{Asked}
use Rattle.cli_files.specs.Causes.{files_answered, input_answered, output_answered, reading_answered}
use Rattle.cfpp_cli.specs.Deciding.{Decided, InputTold, files_told}
use Rattle.cli_files.specs.Outside.{Outside, Report}
use Rattle.cli_reports.specs.Reporting.{PutsReport}
use Rattle.cli_reports.specs.OutsideChanges.{OutsideChange, change_of}
use Rattle.cfpp_cli.specs.Top.{Completes, IsTop, NoneRose, Reports, files_failed, input_failed, input_is_file, says_fault}
use Rattle.cli_reports.specs.declared.reporting.Reported.{Reported}
use Rattle.cfpp_cli.proofs.FilesRead.{answers-read, breaks-read}
use Rattle.cli_files.specs.declared.status.Status.{Status}
use Rattle.cli_files.specs.declared.status.Status.TheVariants as status

-- counts of faults rose exactly if the status says so; is_file: the program's input is in a file
pub record HasCauses (is_file : Bool) (before after : Outside) (answer : Status) : Type 0 where
  pub files : HasCause before.file_faults after.file_faults (files_failed is_file answer)
  pub input : HasCause before.input_faults after.input_faults (input_failed is_file answer)
  pub output : HasCause before.output_faults after.output_faults (output_answered answer)

-- the closing lines of the report were written, and the status is the answer; or the report failed at them
abbrev pub Ends : (answer said : Status) → (half full : Report) → (closing : List ℕ) → Type 0
Ends answer said half full closing =
    ((said ≡ answer) × Writes half.written full.written closing × (full.faults ≡ half.faults))
    ⊎ ((said ≡ status.WriteFault) × WritesPart half.written full.written closing × Rose half.faults full.faults)

-- the count of the faults of the input
input-counts : (is_file : Bool) (before now : ℕ) (reported : Reported) → InputTold is_file before now (Ok reported) →
    HasCause before now (input_failed is_file reported.status)
input-counts true before now reported same = record { never_falls = omega (arith, same); rose = tt; still = same }
input-counts false before now reported h = h

-- and if the report failed, no count but its own rose
input-stays : (is_file : Bool) (before now : ℕ) (failed : Failed) → InputTold is_file before now (Err failed) → now ≡ before
input-stays true before now failed same = same
input-stays false before now failed same = same

files-stay : (is_file : Bool) (before now : ℕ) (failed : Failed) → HasCause before now (files_told is_file (Err failed)) → now ≡ before
files-stay true before now failed h = h.still
files-stay false before now failed h = h.still

-- the command was carried out, and its report ends in this way; it began with what the report had before the command
-- was read
carried-out : (arguments : List (List ℕ)) (s : OutsideChange) (reported : Reported) (said : Status) (blank full : Report) → s.blank ≡ blank →
    (d : Decided arguments s (Ok reported)) →
    Ends reported.status said (record s.blank { written = d.comes.3.told }) full d.comes.1 → IsTop arguments (change_of s.before s.after blank full) said
carried-out arguments s reported said blank full same d ends =
    let carried = d.comes in
    subst (λ (r : Report). IsTop arguments (change_of s.before s.after r full) said) same
    (record {
      reading = d.reading;
      reads = d.reads;
      read = answers-read d.reading s.before s.after s.blank.written reported.status carried.0 carried.1 carried.2;
      ends = inl (record {
        answer = reported.status;
        shown = carried.0;
        closing = carried.1;
        answers = carried.2;
        files = d.files;
        input = input-counts (input_is_file d.reading) _ _ reported d.input;
        output = d.output;
        reports = record { told = carried.3.told; shows = carried.3.shows; closes = ends };
      });
    })

-- its report was written, and all of it was passed on
pub top-put : (arguments : List (List ℕ)) (s : OutsideChange) (reported : Reported) (blank full : Report) → s.blank ≡ blank →
    Decided arguments s (Ok reported) →
    reported.put ≡ Ok tt →
    WritesNothing s.full.written full.written → full.faults ≡ s.full.faults → IsTop arguments (change_of s.before s.after blank full) reported.status
top-put arguments s reported blank full same d put passed still =
    let closes : PutsReport (record s.blank { written = d.comes.3.told }) s.full d.comes.1 (Ok tt) = rw put at d.comes.3.closes in
    carried-out arguments s reported reported.status blank full same d
    (inl (refl, text-before d.comes.3.told s.full.written full.written d.comes.1 closes.all passed, still ∙ closes.cause.still))

-- it was written, and the report failed while passing it on
pub top-unpassed : (arguments : List (List ℕ)) (s : OutsideChange) (reported : Reported) (blank full : Report) → s.blank ≡ blank →
    Decided arguments s (Ok reported) →
    reported.put ≡ Ok tt →
    WritesNothing s.full.written full.written → Rose s.full.faults full.faults → IsTop arguments (change_of s.before s.after blank full) status.WriteFault
top-unpassed arguments s reported blank full same d put passed rose =
    let closes : PutsReport (record s.blank { written = d.comes.3.told }) s.full d.comes.1 (Ok tt) = rw put at d.comes.3.closes in
    carried-out arguments s reported status.WriteFault blank full same d
    (inr (
      refl,
      part-whole d.comes.3.told full.written d.comes.1 (text-before d.comes.3.told s.full.written full.written d.comes.1 closes.all passed),
      subst (λ (n : ℕ). Rose n full.faults) closes.cause.still rose,
    ))

-- the report failed at its closing lines
pub top-failed : {failed : Failed} (arguments : List (List ℕ)) (s : OutsideChange) (reported : Reported) (blank : Report) → s.blank ≡ blank →
    Decided arguments s (Ok reported) → reported.put ≡ Err failed →
    IsTop arguments (change_of s.before s.after blank s.full) status.WriteFault
top-failed {failed = failed} arguments s reported blank same d put =
    let closes : PutsReport (record s.blank { written = d.comes.3.told }) s.full d.comes.1 (Err failed) = rw put at d.comes.3.closes in
    carried-out arguments s reported status.WriteFault blank s.full same d
    (inr (refl, part-front d.comes.3.told s.full.written d.comes.1 closes.front, closes.cause.rose))

-- the report failed before these lines
pub top-cut : {failed : Failed} (arguments : List (List ℕ)) (s : OutsideChange) (blank : Report) → s.blank ≡ blank → Decided arguments s (Err failed) →
    IsTop arguments (change_of s.before s.after blank s.full) status.WriteFault
top-cut {failed = failed} arguments s blank same d = subst (λ (r : Report). IsTop arguments (change_of s.before s.after r s.full) status.WriteFault) same
    (record {
      reading = d.reading;
      reads = d.reads;
      read = breaks-read d.reading s.before s.after s.blank.written s.full.written d.comes.0;
      ends = inr (record {
        status_is = refl;
        breaks = d.comes.0;
        rose = d.comes.1;
        files = files-stay (input_is_file d.reading) _ _ failed d.files;
        input = input-stays (input_is_file d.reading) _ _ failed d.input;
        output = d.output;
      });
    })

-- a status that reports no failure reports none of the files and none of the streams
record SaysNone (answer : Status) : Type 0 where
  files : files_answered answer ≡ Ok tt
  reading : reading_answered answer ≡ Ok tt
  input : input_answered answer ≡ Ok tt
  output : output_answered answer ≡ Ok tt

says-none : (answer : Status) → says_fault answer ≡ false → SaysNone answer
says-none (status.ReadFault kind) h = absurd (cc)
says-none status.WriteFault h = absurd (cc)
says-none (status.Exit code) h = record { files = refl; reading = refl; input = refl; output = refl }
says-none (status.Trap cause pc detail) h = record { files = refl; reading = refl; input = refl; output = refl }
says-none (status.Limit limit) h = record { files = refl; reading = refl; input = refl; output = refl }
says-none (status.ScriptEnd moves) h = record { files = refl; reading = refl; input = refl; output = refl }
says-none status.Done h = record { files = refl; reading = refl; input = refl; output = refl }
says-none (status.BadWords index) h = record { files = refl; reading = refl; input = refl; output = refl }
says-none (status.BadLayout error) h = record { files = refl; reading = refl; input = refl; output = refl }
says-none (status.BadProgram error) h = record { files = refl; reading = refl; input = refl; output = refl }
says-none (status.BadScript fault) h = record { files = refl; reading = refl; input = refl; output = refl }
says-none (status.BarredAt line bar) h = record { files = refl; reading = refl; input = refl; output = refl }
says-none (status.BadSource error) h = record { files = refl; reading = refl; input = refl; output = refl }
says-none (status.BadDelays fault) h = record { files = refl; reading = refl; input = refl; output = refl }
says-none (status.BadTrace fault) h = record { files = refl; reading = refl; input = refl; output = refl }
says-none (status.BadLog refusal) h = record { files = refl; reading = refl; input = refl; output = refl }
says-none (status.LogEnd moves) h = record { files = refl; reading = refl; input = refl; output = refl }
says-none status.Wrong h = record { files = refl; reading = refl; input = refl; output = refl }
says-none (status.TooMany most) h = record { files = refl; reading = refl; input = refl; output = refl }
says-none status.BadInput h = record { files = refl; reading = refl; input = refl; output = refl }
says-none status.NoMemory h = record { files = refl; reading = refl; input = refl; output = refl }

-- the same, whether the program's input is in a file or not
no-file-failed : (is_file : Bool) (answer : Status) → SaysNone answer → files_failed is_file answer ≡ Ok tt
no-file-failed true answer none = none.reading
no-file-failed false answer none = none.files

no-input-failed : (is_file : Bool) (answer : Status) → SaysNone answer → input_failed is_file answer ≡ Ok tt
no-input-failed true answer none = refl
no-input-failed false answer none = none.input

-- if there is no error, a count is unchanged
stays : (before now : ℕ) (r : Result (Unit {0}) (Unit {0})) → r ≡ Ok tt → HasCause before now r → now ≡ before
stays before now (Ok u) e h = h.still
stays before now (Err u) e h = absurd (cc)

-- so if the whole report was written too, no count rose
completed-rose : (is_file : Bool) (before after : Outside) (blank full : Report) (answer : Status) →
    HasCauses is_file before after answer → says_fault answer ≡ false → full.faults ≡ blank.faults →
    NoneRose (change_of before after blank full)
completed-rose is_file before after blank full answer causes h put =
    let none = says-none answer h in
    record {
      files = stays _ _ (files_failed is_file answer) (no-file-failed is_file answer none) causes.files;
      input = stays _ _ (input_failed is_file answer) (no-input-failed is_file answer none) causes.input;
      output = stays _ _ (output_answered answer) none.output causes.output;
      report = put;
    }

causes-of : (reading : Result Asked ℕ) (before after : Outside) (blank full : Report) (result : Status)
    (c : Completes reading before after blank full result) → HasCauses (input_is_file reading) before after c.answer
causes-of reading before after blank full result c =
    record { files = c.files; input = c.input; output = c.output }

-- WriteFault says that something failed
write-says : (result : Status) → result ≡ status.WriteFault → says_fault result ≡ false → ⊥
write-says result is h = cc (is, h)

ended-rose : (is_file : Bool) (before after : Outside) (blank full : Report) (result answer : Status)
    (shown closing : List ℕ) → HasCauses is_file before after answer → Reports blank full shown closing answer result →
    says_fault result ≡ false → NoneRose (change_of before after blank full)
ended-rose is_file before after blank full result answer shown closing causes reports h = elim reports.closes [
  | inl (same, put, faults) ↦ completed-rose is_file before after blank full answer causes (rw same at h) faults
  | inr (is, front, rose) ↦ absurd (write-says result is h)
]

pub none-rose : (arguments : List (List ℕ)) (s : OutsideChange) (result : Status) → IsTop arguments s result → says_fault result ≡ false →
    NoneRose s
none-rose arguments s result top h = elim top.ends [
  | inl c ↦ ended-rose (input_is_file top.reading) s.before s.after s.blank s.full result c.answer c.shown c.closing
      (causes-of top.reading s.before s.after s.blank s.full result c) c.reports h
  | inr cut ↦ absurd (write-says result cut.status_is h)
]
