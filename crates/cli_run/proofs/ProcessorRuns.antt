-- A run of the processor, its closing lines, and what its report has after it.
use Rattle.std.proofs.Common.{◌≡◌, ◌≤◌, ◌-◌, ℕ, List, Bool, true, false, Option, Some, Result, Ok, Err, refl, sym, ap, subst, ◌∙◌}
use Rattle.run_options.specs.declared.guess_rule.GuessRule.{GuessRule}
use Rattle.run_options.specs.declared.reporting.Reporting.{Reporting}
use Rattle.cf_io.specs.Causes.{Rose, HasCause}
use Rattle.cf_io.specs.Puts.{Writes}
use Rattle.cf_io.specs.declared.failed.Failed.{Failed}
use Rattle.rv_machine.specs.Streams.{Streams}
use Rattle.cf_bind.specs.declared.moves.Move.{Move}
use Rattle.cf_core.specs.Processors.{Processor}
use Rattle.run_finishes.specs.declared.finish.Ran.{Ran as RunAnswer}
use Rattle.run_finishes.specs.declared.finish.Ran.TheVariants as ran
use Rattle.run_finishes.specs.declared.finish.Scripted.{Scripted}
use Rattle.run_finishes.specs.declared.finish.Scripted.TheVariants.{Ran, ScriptEnd, BadScript, BarredAt}
use Rattle.cf_report.proofs.Parts.{text-before}
use Rattle.cf_report.specs.declared.tally.Tally.{Tally}
use Rattle.run_scripts.specs.Scripts.{ScriptLines, script_of}
use Rattle.cf_run.specs.Ending.{EndsSequentially}
use Rattle.cf_run.specs.Headline.{RunsSequentially}
use Rattle.cf_run.specs.Made.{Made, all_shown}
use Rattle.cf_run.specs.Moving.{RunPlace, run_place_of, MoveDoes}
use Rattle.cf_run.specs.Policies.{RunsPolicy, RunsRight, most_moves}
use Rattle.run_finishes.specs.Stopped.{input_stopped, output_stopped, report_stopped}
use Rattle.cf_run.specs.Scripts.{ScriptRun, script_run_of, first_moves, RunsScript, DoesLine, ScriptStops, input_scripted, output_scripted, report_scripted}
use Rattle.report_closing.specs.Closing.{closing, is_report_fault}
use Rattle.cli_files.specs.Causes.{files_answered, input_answered, output_answered}
use Rattle.cli_files.specs.Outside.{Report, report_of}
use Rattle.cli_run.specs.Closing.{ClosesCore}
use Rattle.cli_reports.specs.Reporting.{PutsReport, PutsClosing, Comes, FaultsReported, files_reported}
use Rattle.cli_processor.specs.Agreement.{run_start}
use Rattle.cli_run.specs.Run.{RunRelation, ByScript, ByPolicy, ProcessorRun, RunsCore, BreaksCore}
use Rattle.cli_processor.specs.Statuses.{status_of}
use Rattle.cli_reports.specs.declared.reporting.Reported.{Reported}
use Rattle.cli_reports.proofs.PutReports.{closed-tells}

-- what the report has if the run stops at the place that it reached
stays : (blank : Option (List ℕ)) (now new : ScriptRun) (lines : List ℕ) →
    Writes blank now.place.report lines → new ≡ now → Writes blank new.place.report lines
stays blank now new lines put same =
    subst (λ (s : ScriptRun). Writes blank s.place.report lines) (sym same) put

same-place : (blank : Option (List ℕ)) (now new : RunPlace) (lines : List ℕ) →
    Writes blank now.report lines → new ≡ now → Writes blank new.report lines
same-place blank now new lines put same =
    subst (λ (p : RunPlace). Writes blank p.report lines) (sym same) put

-- after a run whose report did not fail, the report has what was shown of the moves
script-shown : (limit : ℕ) (show : Reporting) (start new : ScriptRun) (finish : Scripted)
    (r : RunsScript limit show start new finish) → is_report_fault finish ≡ false →
    Writes start.place.report new.place.report (all_shown show start.place.core.plan 1 r.follows.reaches.trace)
unfolding ScriptStops DoesLine MoveDoes
script-shown limit show start new ScriptEnd r sound = stays _ _ _ _ r.follows.reaches.report r.stops.2
script-shown limit show start new (BadScript refusal) r sound = stays _ _ _ _ r.follows.reaches.report r.stops.2
script-shown limit show start new (BarredAt line bar) r sound =
    same-place _ _ _ _ r.follows.reaches.report r.stops.does.2
script-shown limit show start new (Ran ran.ReadFault) r sound =
    text-before start.place.report r.now.place.report new.place.report (all_shown show start.place.core.plan 1 r.follows.reaches.trace)
    r.follows.reaches.report r.stops.does.0.report
script-shown limit show start new (Ran ran.WriteFault) r sound =
    text-before start.place.report r.now.place.report new.place.report (all_shown show start.place.core.plan 1 r.follows.reaches.trace)
    r.follows.reaches.report r.stops.does.0.report
script-shown limit show start new (Ran ran.ReportFault) r sound = absurd (cc)
script-shown limit show start new (Ran (ran.Exit code)) r sound = stays _ _ _ _ r.follows.reaches.report r.stops.1
script-shown limit show start new (Ran (ran.Trap cause pc detail)) r sound =
    stays _ _ _ _ r.follows.reaches.report r.stops.1
script-shown limit show start new (Ran ran.Limit) r sound = stays _ _ _ _ r.follows.reaches.report r.stops.1

policy-shown : {P : Type 0} (rule : GuessRule) (picked : P → List Move → ℕ) (onward : P → List Move → P) (limit : ℕ) (show : Reporting)
    (start new : RunPlace) (policy later : P) (moves : List Move) (answer : RunAnswer)
    (r : RunsPolicy rule picked onward limit show start new policy later moves answer) → is_report_fault (Ran answer) ≡ false →
    Writes start.report new.report (all_shown show start.core.plan 1 r.reaches.trace)
unfolding MoveDoes
policy-shown rule picked onward limit show start new policy later moves ran.ReadFault r sound =
    text-before start.report r.now.report new.report (all_shown show start.core.plan 1 r.reaches.trace) r.reaches.report r.stops.does.0.report
policy-shown rule picked onward limit show start new policy later moves ran.WriteFault r sound =
    text-before start.report r.now.report new.report (all_shown show start.core.plan 1 r.reaches.trace) r.reaches.report r.stops.does.0.report
policy-shown rule picked onward limit show start new policy later moves ran.ReportFault r sound = absurd (cc)
policy-shown rule picked onward limit show start new policy later moves (ran.Exit code) r sound =
    same-place _ _ _ _ r.reaches.report r.stops.1
policy-shown rule picked onward limit show start new policy later moves (ran.Trap cause pc detail) r sound =
    same-place _ _ _ _ r.reaches.report r.stops.1
policy-shown rule picked onward limit show start new policy later moves ran.Limit r sound =
    same-place _ _ _ _ r.reaches.report r.stops.1

-- a run, and where it ends
run_of : (limit : ℕ) (show : Reporting) (core last : Processor) (by : RunRelation) (before after : Streams)
    (blank told : Option (List ℕ)) (tally : Tally) (finish : Scripted) (trace : List Made) (moves : List Move) →
    by (run_start core before blank) (run_place_of last after told tally) finish trace moves →
    RunsSequentially show moves (run_start core before blank) (run_place_of last after told tally) finish →
    EndsSequentially limit (run_start core before blank) (run_place_of last after told tally) finish →
    ProcessorRun limit show core last by before after blank
run_of limit show core last by before after blank told tally finish trace moves runs sequential ends = record {
  tally = tally;
  told = told;
  finish = finish;
  trace = trace;
  moves = moves;
  runs = runs;
  sequential = sequential;
  ends = ends;
}

-- the count of the report's faults is unchanged if the report did not fail in the run, and rises if it did
pub report-stays : (before now : ℕ) (finish : Scripted) → is_report_fault finish ≡ false →
    HasCause before now (report_scripted (Some finish)) → now ≡ before
report-stays before now (Ran (ran.Exit code)) sound h = h.still
report-stays before now (Ran (ran.Trap cause pc detail)) sound h = h.still
report-stays before now (Ran ran.Limit) sound h = h.still
report-stays before now (Ran ran.ReadFault) sound h = h.still
report-stays before now (Ran ran.WriteFault) sound h = h.still
report-stays before now (Ran ran.ReportFault) sound h = absurd (cc)
report-stays before now ScriptEnd sound h = h.still
report-stays before now (BadScript refusal) sound h = h.still
report-stays before now (BarredAt line bar) sound h = h.still

pub report-rose : (before now : ℕ) (finish : Scripted) → is_report_fault finish ≡ true →
    HasCause before now (report_scripted (Some finish)) → Rose before now
report-rose before now (Ran ran.ReportFault) cut h = h.rose
report-rose before now (Ran (ran.Exit code)) cut h = absurd (cc)
report-rose before now (Ran (ran.Trap cause pc detail)) cut h = absurd (cc)
report-rose before now (Ran ran.Limit) cut h = absurd (cc)
report-rose before now (Ran ran.ReadFault) cut h = absurd (cc)
report-rose before now (Ran ran.WriteFault) cut h = absurd (cc)
report-rose before now ScriptEnd cut h = absurd (cc)
report-rose before now (BadScript refusal) cut h = absurd (cc)
report-rose before now (BarredAt line bar) cut h = absurd (cc)

pub stopped-report : (answer : RunAnswer) → report_stopped (Some answer) ≡ report_scripted (Some (Ran answer))
stopped-report (ran.Exit code) = refl
stopped-report (ran.Trap cause pc detail) = refl
stopped-report ran.Limit = refl
stopped-report ran.ReadFault = refl
stopped-report ran.WriteFault = refl
stopped-report ran.ReportFault = refl

-- its closing lines were written, or failed, or its report had failed at a move
run-closed : (limit : ℕ) (show : Reporting) (core last : Processor) (by : RunRelation) (before after : Streams)
    (blank half full : Report) (tally : Tally) (finish : Scripted) (trace : List Made) (moves : List Move)
    (result : Result Reported Failed) →
    by (run_start core before blank.written) (run_place_of last after half.written tally) finish trace moves →
    RunsSequentially show moves (run_start core before blank.written) (run_place_of last after half.written tally) finish →
    EndsSequentially limit (run_start core before blank.written) (run_place_of last after half.written tally) finish →
    (is_report_fault finish ≡ false → Writes blank.written half.written (all_shown show core.plan 1 trace)) →
    HasCause blank.faults half.faults (report_scripted (Some finish)) →
    ClosesCore limit finish last tally half full result →
    Comes (RunsCore limit show core last by before after blank.written)
    (BreaksCore limit show core by before after blank.written full.written) blank full result
unfolding run_of
run-closed limit show core last by before after blank half full tally finish trace moves (Ok reported) runs sequential ends put cause (sound, closes) = (
  all_shown show core.plan 1 trace,
  closing limit finish last.plan last.state tally,
  record {
    run = run_of limit show core last by before after blank.written half.written tally finish trace moves runs sequential ends;
    reported = sound;
    status_is = closes.status_is;
    shows = refl;
    closes = refl;
  },
  record {
    told = half.written;
    shows = put sound;
    closes = subst (λ (n : ℕ). PutsReport (report_of half.written n) full (closing limit finish last.plan last.state tally) reported.put)
        (report-stays blank.faults half.faults finish sound cause) closes.puts;
  },
)
run-closed limit show core last by before after blank half full tally finish trace moves (Err failed) runs sequential ends put cause (cut, same) = (
  record {
    last = last;
    run = run_of limit show core last by before after blank.written half.written tally finish trace moves runs sequential ends;
    cut = cut;
    told = ap (λ (r : Report). r.written) same;
  },
  subst (λ (r : Report). Rose blank.faults r.faults) (sym same) (report-rose blank.faults half.faults finish cut cause),
)

-- by a script
by_script : (limit : ℕ) (show : Reporting) (text : List ℕ) (start new : RunPlace) (left : ScriptLines) (finish : Scripted) →
    (r : RunsScript limit show (script_run_of start (script_of text)) (script_run_of new left) finish) →
    ByScript limit show text start new finish r.follows.reaches.trace (first_moves (script_of text) new.tally)
by_script limit show text start new left finish r = record { left = left; runs = r; trace_is = refl; moves_are = refl }

pub script-closed : (limit : ℕ) (show : Reporting) (core last : Processor) (text : List ℕ) (before after : Streams)
    (blank half full : Report) (tally : Tally) (left : ScriptLines) (finish : Scripted) (result : Result Reported Failed) →
    RunsScript limit show (script_run_of (run_start core before blank.written) (script_of text))
    (script_run_of (run_place_of last after half.written tally) left) finish →
    RunsSequentially show (first_moves (script_of text) tally) (run_start core before blank.written) (run_place_of last after half.written tally) finish →
    EndsSequentially limit (run_start core before blank.written) (run_place_of last after half.written tally) finish →
    HasCause blank.faults half.faults (report_scripted (Some finish)) → ClosesCore limit finish last tally half full result →
    Comes (RunsCore limit show core last (ByScript limit show text) before after blank.written)
    (BreaksCore limit show core (ByScript limit show text) before after blank.written full.written) blank full result
script-closed limit show core last text before after blank half full tally left finish result r sequential ends cause closes =
    run-closed limit show core last (ByScript limit show text) before after blank half full tally finish _ _ result
    (by_script limit show text _ _ left finish r) sequential ends (λ sound. script-shown limit show _ _ finish r sound) cause closes

-- by a policy
by_policy : {P : Type 0} (rule : GuessRule) (picked : P → List Move → ℕ) (onward : P → List Move → P) (limit : ℕ) (show : Reporting)
    (start new : RunPlace) (policy later : P) (moves : List Move) (answer : RunAnswer) →
    (r : RunsPolicy rule picked onward limit show start new policy later moves answer) →
    new.tally.moves ≤ most_moves start.core.plan (new.core.state.retired - start.core.state.retired) →
    ByPolicy rule picked onward limit show policy start new (Ran answer) r.reaches.trace moves
by_policy rule picked onward limit show start new policy later moves answer r bounded =
    record { answer = answer; finish_is = refl; later = later; runs = r; trace_is = refl; bounded = bounded }

pub policy-closed : {P : Type 0} (rule : GuessRule) (picked : P → List Move → ℕ) (onward : P → List Move → P) (limit : ℕ) (show : Reporting)
    (core last : Processor) (policy later : P) (before after : Streams) (blank half full : Report)
    (tally : Tally) (answer : RunAnswer) (result : Result Reported Failed) →
    RunsRight rule picked onward limit show (run_start core before blank.written) (run_place_of last after half.written tally) policy later answer →
    EndsSequentially limit (run_start core before blank.written) (run_place_of last after half.written tally) (Ran answer) →
    tally.moves ≤ most_moves core.plan (last.state.retired - core.state.retired) →
    HasCause blank.faults half.faults (report_stopped (Some answer)) → ClosesCore limit (Ran answer) last tally half full result →
    Comes (RunsCore limit show core last (ByPolicy rule picked onward limit show policy) before after blank.written)
    (BreaksCore limit show core (ByPolicy rule picked onward limit show policy) before after blank.written full.written) blank full result
policy-closed rule picked onward limit show core last policy later before after blank half full tally answer result r ends bounded cause closes =
    run-closed limit show core last (ByPolicy rule picked onward limit show policy) before after blank half full tally (Ran answer) _ _ result
    (by_policy rule picked onward limit show _ _ policy later r.moves answer r.runs bounded) r.sequential ends
    (λ sound. policy-shown rule picked onward limit show _ _ policy later r.moves answer r.runs sound)
    (rw (stopped-report answer) at cause) closes

-- about the input and the output the status says what the run says
pub input-said : (limit moves : ℕ) (finish : Scripted) →
    input_answered (status_of limit moves finish) ≡ input_scripted (Some finish)
input-said limit moves (Ran (ran.Exit code)) = refl
input-said limit moves (Ran (ran.Trap cause pc detail)) = refl
input-said limit moves (Ran ran.Limit) = refl
input-said limit moves (Ran ran.ReadFault) = refl
input-said limit moves (Ran ran.WriteFault) = refl
input-said limit moves (Ran ran.ReportFault) = refl
input-said limit moves ScriptEnd = refl
input-said limit moves (BadScript refusal) = refl
input-said limit moves (BarredAt line bar) = refl

pub output-said : (limit moves : ℕ) (finish : Scripted) → is_report_fault finish ≡ false →
    output_answered (status_of limit moves finish) ≡ output_scripted (Some finish)
output-said limit moves (Ran (ran.Exit code)) sound = refl
output-said limit moves (Ran (ran.Trap cause pc detail)) sound = refl
output-said limit moves (Ran ran.Limit) sound = refl
output-said limit moves (Ran ran.ReadFault) sound = refl
output-said limit moves (Ran ran.WriteFault) sound = refl
output-said limit moves (Ran ran.ReportFault) sound = absurd (cc)
output-said limit moves ScriptEnd sound = refl
output-said limit moves (BadScript refusal) sound = refl
output-said limit moves (BarredAt line bar) sound = refl

-- if the report failed, neither of them did
input-works : (finish : Scripted) → is_report_fault finish ≡ true → input_scripted (Some finish) ≡ Ok tt
input-works (Ran ran.ReportFault) cut = refl
input-works (Ran (ran.Exit code)) cut = absurd (cc)
input-works (Ran (ran.Trap cause pc detail)) cut = absurd (cc)
input-works (Ran ran.Limit) cut = absurd (cc)
input-works (Ran ran.ReadFault) cut = absurd (cc)
input-works (Ran ran.WriteFault) cut = absurd (cc)
input-works ScriptEnd cut = absurd (cc)
input-works (BadScript refusal) cut = absurd (cc)
input-works (BarredAt line bar) cut = absurd (cc)

output-works : (finish : Scripted) → is_report_fault finish ≡ true → output_scripted (Some finish) ≡ Ok tt
output-works (Ran ran.ReportFault) cut = refl
output-works (Ran (ran.Exit code)) cut = absurd (cc)
output-works (Ran (ran.Trap cause pc detail)) cut = absurd (cc)
output-works (Ran ran.Limit) cut = absurd (cc)
output-works (Ran ran.ReadFault) cut = absurd (cc)
output-works (Ran ran.WriteFault) cut = absurd (cc)
output-works ScriptEnd cut = absurd (cc)
output-works (BadScript refusal) cut = absurd (cc)
output-works (BarredAt line bar) cut = absurd (cc)

-- so if a run was closed, a count rose exactly if the answer says so
pub closed-input : (limit : ℕ) (finish : Scripted) (last : Processor) (tally : Tally) (half full : Report)
    (result : Result Reported Failed) (before now : ℕ) → ClosesCore limit finish last tally half full result →
    HasCause before now (input_scripted (Some finish)) → FaultsReported input_answered before now result
closed-input limit finish last tally half full result before now closes h =
    closed-tells input_answered (is_report_fault finish) (status_of limit tally.moves finish) (input_scripted (Some finish))
    (closing limit finish last.plan last.state tally) half full result before now (λ sound. input-said limit tally.moves finish)
    (λ cut. input-works finish cut) closes h

pub closed-output : (limit : ℕ) (finish : Scripted) (last : Processor) (tally : Tally) (half full : Report)
    (result : Result Reported Failed) (before now : ℕ) → ClosesCore limit finish last tally half full result →
    HasCause before now (output_scripted (Some finish)) → FaultsReported output_answered before now result
closed-output limit finish last tally half full result before now closes h =
    closed-tells output_answered (is_report_fault finish) (status_of limit tally.moves finish) (output_scripted (Some finish))
    (closing limit finish last.plan last.state tally) half full result before now (λ sound. output-said limit tally.moves finish sound)
    (λ cut. output-works finish cut) closes h

-- it says nothing about files
files-said : (limit moves : ℕ) (finish : Scripted) → files_answered (status_of limit moves finish) ≡ Ok tt
files-said limit moves (Ran (ran.Exit code)) = refl
files-said limit moves (Ran (ran.Trap cause pc detail)) = refl
files-said limit moves (Ran ran.Limit) = refl
files-said limit moves (Ran ran.ReadFault) = refl
files-said limit moves (Ran ran.WriteFault) = refl
files-said limit moves (Ran ran.ReportFault) = refl
files-said limit moves ScriptEnd = refl
files-said limit moves (BadScript refusal) = refl
files-said limit moves (BarredAt line bar) = refl

pub closed-files : (cut : Bool) (limit moves : ℕ) (finish : Scripted) (lines : List ℕ) (half full : Report)
    (result : Result Reported Failed) → PutsClosing cut (status_of limit moves finish) lines half full result →
    files_reported result ≡ Ok tt
closed-files cut limit moves finish lines half full (Ok reported) (sound, closes) =
    ap files_answered closes.status_is ∙ files-said limit moves finish
closed-files cut limit moves finish lines half full (Err failed) closes = refl

-- of a run under a policy
stopped-input : (answer : RunAnswer) → input_stopped (Some answer) ≡ input_scripted (Some (Ran answer))
stopped-input (ran.Exit code) = refl
stopped-input (ran.Trap cause pc detail) = refl
stopped-input ran.Limit = refl
stopped-input ran.ReadFault = refl
stopped-input ran.WriteFault = refl
stopped-input ran.ReportFault = refl

stopped-output : (answer : RunAnswer) → output_stopped (Some answer) ≡ output_scripted (Some (Ran answer))
stopped-output (ran.Exit code) = refl
stopped-output (ran.Trap cause pc detail) = refl
stopped-output ran.Limit = refl
stopped-output ran.ReadFault = refl
stopped-output ran.WriteFault = refl
stopped-output ran.ReportFault = refl

pub policy-input : (before now : ℕ) (answer : RunAnswer) → HasCause before now (input_stopped (Some answer)) →
    HasCause before now (input_scripted (Some (Ran answer)))
policy-input before now answer h = rw (stopped-input answer) at h

pub policy-output : (before now : ℕ) (answer : RunAnswer) → HasCause before now (output_stopped (Some answer)) →
    HasCause before now (output_scripted (Some (Ran answer)))
policy-output before now answer h = rw (stopped-output answer) at h
