-- The outcome of a program that is run on the sequential machine.
use Rattle.std.proofs.Common.{◌≡◌, ℕ, List, [], Option, true, false, Some, Result, Ok, Err, refl, sym, ap, subst, ◌∙◌, inl, inr}
use Rattle.cf_io.specs.Causes.{Rose, HasCause}
use Rattle.cf_io.specs.Puts.{Writes}
use Rattle.cf_io.specs.declared.failed.Failed.{Failed}
use Rattle.rv_machine.specs.Hart.{Hart}
use Rattle.rv_machine.specs.Streams.{Streams}
use Rattle.report_closing.specs.Closing.{machine_closing}
use Rattle.run_finishes.specs.declared.finish.Ran.{Ran as Answer}
use Rattle.run_finishes.specs.declared.finish.Ran.TheVariants as ran
use Rattle.run_finishes.specs.Stopped.{input_stopped, output_stopped, report_stopped}
use Rattle.cli_files.specs.Causes.{files_answered, input_answered, output_answered}
use Rattle.cli_files.specs.Outside.{Outside, Report, report_of}
use Rattle.cli_files.specs.Programs.{IsProgramAt}
use Rattle.cli_files.specs.declared.status.Status.{Status}
use Rattle.cli_machine.specs.Finish.{Runs, ReportFails, RunsToFinish}
use Rattle.cli_machine.specs.Closing.{ClosesMachine, report_failed}
use Rattle.cli_machine.specs.Machine.{RunsHart, BreaksHart, RefusesMachine, AnswersMachine, BreaksProgram}
use Rattle.cli_machine.specs.Options.{Chosen}
use Rattle.cli_reports.specs.Reporting.{PutsReport, Carries, Comes, FaultsReported, files_reported}
use Rattle.cli_reports.specs.RunStatuses.{status_of_run}
use Rattle.cli_reports.specs.declared.reporting.Reported.{Reported}
use Rattle.cli_reports.proofs.PutReports.{closed-tells, shows-none}

-- a run whose report did not fail: its lines were written
record Ended (c : Chosen) (start last : Hart) (before after : Streams) (blank half : Option (List ℕ)) (finish : Answer) :
    Type 0 where
  lines : List ℕ
  runs : Runs c start last before after finish lines
  shows : Writes blank half lines

ended : (c : Chosen) (start last : Hart) (before after : Streams) (blank half : Option (List ℕ)) (finish : Answer) →
    report_failed finish ≡ false → RunsToFinish c start last before after blank half finish →
    Ended c start last before after blank half finish
ended c start last before after blank half (ran.Exit status) sound runs = record { lines = runs.0; runs = runs.1; shows = runs.2 }
ended c start last before after blank half (ran.Trap cause pc detail) sound runs = record { lines = runs.0; runs = runs.1; shows = runs.2 }
ended c start last before after blank half ran.Limit sound runs = record { lines = runs.0; runs = runs.1; shows = runs.2 }
ended c start last before after blank half ran.ReadFault sound runs = record { lines = runs.0; runs = runs.1; shows = runs.2 }
ended c start last before after blank half ran.WriteFault sound runs = record { lines = runs.0; runs = runs.1; shows = runs.2 }
ended c start last before after blank half ran.ReportFault sound runs = absurd (cc)

-- a run whose report failed
broken : (c : Chosen) (start last : Hart) (before after : Streams) (blank half : Option (List ℕ)) (finish : Answer) →
    report_failed finish ≡ true → RunsToFinish c start last before after blank half finish →
    ReportFails c start last before after blank half
broken c start last before after blank half ran.ReportFault cut runs = runs
broken c start last before after blank half (ran.Exit status) cut runs = absurd (cc)
broken c start last before after blank half (ran.Trap cause pc detail) cut runs = absurd (cc)
broken c start last before after blank half ran.Limit cut runs = absurd (cc)
broken c start last before after blank half ran.ReadFault cut runs = absurd (cc)
broken c start last before after blank half ran.WriteFault cut runs = absurd (cc)

-- the count of the report's faults is unchanged if the report did not fail in the run, and rises if it did
report-stays : (before now : ℕ) (finish : Answer) → report_failed finish ≡ false →
    HasCause before now (report_stopped (Some finish)) → now ≡ before
report-stays before now (ran.Exit code) sound h = h.still
report-stays before now (ran.Trap cause pc detail) sound h = h.still
report-stays before now ran.Limit sound h = h.still
report-stays before now ran.ReadFault sound h = h.still
report-stays before now ran.WriteFault sound h = h.still
report-stays before now ran.ReportFault sound h = absurd (cc)

report-rose : (before now : ℕ) (finish : Answer) → report_failed finish ≡ true →
    HasCause before now (report_stopped (Some finish)) → Rose before now
report-rose before now ran.ReportFault cut h = h.rose
report-rose before now (ran.Exit code) cut h = absurd (cc)
report-rose before now (ran.Trap cause pc detail) cut h = absurd (cc)
report-rose before now ran.Limit cut h = absurd (cc)
report-rose before now ran.ReadFault cut h = absurd (cc)
report-rose before now ran.WriteFault cut h = absurd (cc)

-- about the input and the output the status says what the run says, and about files nothing
input-said : (limit : ℕ) (finish : Answer) → input_answered (status_of_run limit finish) ≡ input_stopped (Some finish)
input-said limit (ran.Exit code) = refl
input-said limit (ran.Trap cause pc detail) = refl
input-said limit ran.Limit = refl
input-said limit ran.ReadFault = refl
input-said limit ran.WriteFault = refl
input-said limit ran.ReportFault = refl

output-said : (limit : ℕ) (finish : Answer) → report_failed finish ≡ false →
    output_answered (status_of_run limit finish) ≡ output_stopped (Some finish)
output-said limit (ran.Exit code) sound = refl
output-said limit (ran.Trap cause pc detail) sound = refl
output-said limit ran.Limit sound = refl
output-said limit ran.ReadFault sound = refl
output-said limit ran.WriteFault sound = refl
output-said limit ran.ReportFault sound = absurd (cc)

-- if the report failed, neither of them did
input-works : (finish : Answer) → report_failed finish ≡ true → input_stopped (Some finish) ≡ Ok tt
input-works ran.ReportFault cut = refl
input-works (ran.Exit code) cut = absurd (cc)
input-works (ran.Trap cause pc detail) cut = absurd (cc)
input-works ran.Limit cut = absurd (cc)
input-works ran.ReadFault cut = absurd (cc)
input-works ran.WriteFault cut = absurd (cc)

output-works : (finish : Answer) → report_failed finish ≡ true → output_stopped (Some finish) ≡ Ok tt
output-works ran.ReportFault cut = refl
output-works (ran.Exit code) cut = absurd (cc)
output-works (ran.Trap cause pc detail) cut = absurd (cc)
output-works ran.Limit cut = absurd (cc)
output-works ran.ReadFault cut = absurd (cc)
output-works ran.WriteFault cut = absurd (cc)

files-said : (limit : ℕ) (finish : Answer) → files_answered (status_of_run limit finish) ≡ Ok tt
files-said limit (ran.Exit code) = refl
files-said limit (ran.Trap cause pc detail) = refl
files-said limit ran.Limit = refl
files-said limit ran.ReadFault = refl
files-said limit ran.WriteFault = refl
files-said limit ran.ReportFault = refl

-- the closing lines of its report were written, or failed, or its report had failed before
pub machine-closed : (c : Chosen) (start last : Hart) (before after : Streams) (blank half full : Report) (finish : Answer)
    (result : Result Reported Failed) → RunsToFinish c start last before after blank.written half.written finish →
    HasCause blank.faults half.faults (report_stopped (Some finish)) → ClosesMachine c.limit finish last half full result →
    Comes (RunsHart c start before after) (BreaksHart c start before after blank.written full.written) blank full result
machine-closed c start last before after blank half full finish (Ok reported) runs cause (sound, closes) =
    let text : List ℕ = machine_closing c.limit finish last.retired last.regs in
    let end : Ended c start last before after blank.written half.written finish =
    ended c start last before after blank.written half.written finish sound runs in (
      end.lines,
      text,
      record { finish = finish; status_is = closes.status_is; last = last; runs = end.runs; closes = refl },
      record {
        told = half.written;
        shows = end.shows;
        closes = subst (λ (n : ℕ). PutsReport (report_of half.written n) full text reported.put)
            (report-stays blank.faults half.faults finish sound cause) closes.puts;
      },
    )
machine-closed c start last before after blank half full finish (Err failed) runs cause (cut, same) = (
  record {
    last = last;
    breaks = broken c start last before after blank.written full.written finish cut
        (subst (λ (told : Option (List ℕ)). RunsToFinish c start last before after blank.written told finish)
        (sym (ap (λ (r : Report). r.written) same)) runs);
  },
  subst (λ (r : Report). Rose blank.faults r.faults) (sym same)
      (report-rose blank.faults half.faults finish cut cause),
)

-- a count rose exactly if the answer says so
pub machine-input : (limit : ℕ) (finish : Answer) (last : Hart) (half full : Report) (result : Result Reported Failed)
    (before now : ℕ) → ClosesMachine limit finish last half full result →
    HasCause before now (input_stopped (Some finish)) → FaultsReported input_answered before now result
machine-input limit finish last half full result before now closes h =
    closed-tells input_answered (report_failed finish) (status_of_run limit finish) _
    (machine_closing limit finish last.retired last.regs) half full result before now
    (λ sound. input-said limit finish) (λ cut. input-works finish cut) closes h

pub machine-output : (limit : ℕ) (finish : Answer) (last : Hart) (half full : Report) (result : Result Reported Failed)
    (before now : ℕ) → ClosesMachine limit finish last half full result →
    HasCause before now (output_stopped (Some finish)) → FaultsReported output_answered before now result
machine-output limit finish last half full result before now closes h =
    closed-tells output_answered (report_failed finish) (status_of_run limit finish) _
    (machine_closing limit finish last.retired last.regs) half full result before now
    (λ sound. output-said limit finish sound) (λ cut. output-works finish cut) closes h

pub machine-files : (limit : ℕ) (finish : Answer) (last : Hart) (half full : Report) (result : Result Reported Failed) →
    ClosesMachine limit finish last half full result → files_reported result ≡ Ok tt
machine-files limit finish last half full (Ok reported) (sound, closes) =
    ap files_answered closes.status_is ∙ files-said limit finish
machine-files limit finish last half full (Err failed) closes = refl

-- the outcome of a program that was run is that of `machine`
pub program-comes : (chosen : Chosen) (before after : Outside) (name : List ℕ) (hart : Hart)
    (blank full : Report) (result : Result Reported Failed) →
    IsProgramAt name before.files after.files hart →
    Comes (RunsHart chosen hart before.streams after.streams)
    (BreaksHart chosen hart before.streams after.streams blank.written full.written) blank full result →
    Comes (AnswersMachine name chosen before after)
    (BreaksProgram name chosen before after blank.written full.written) blank full result
program-comes chosen before after name hart blank full (Ok reported) program (shown, closing, runs, puts) =
    (shown, closing, inl (record { start = hart; program = program; runs = runs }), puts)
program-comes chosen before after name hart blank full (Err failed) program (breaks, rose) =
    (record { start = hart; program = program; breaks = breaks }, rose)

-- or there was no program
pub program-refused : (chosen : Chosen) (before after : Outside) (name : List ℕ) (blank full : Report) (answer : Status)
    (text : List ℕ) (reported : Reported) → reported.status ≡ answer → RefusesMachine name before after answer text →
    PutsReport blank full text reported.put → Carries (AnswersMachine name chosen before after) blank full reported
program-refused chosen before after name blank full answer text reported same refused puts = (
  [],
  text,
  inr (subst (λ (s : Status). RefusesMachine name before after s text) (sym same) refused),
  shows-none blank full text reported.put puts,
)
