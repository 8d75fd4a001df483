-- A run in rounds, its closing lines, and what `rounds` answers.
use Rattle.std.proofs.Common.{◌≡◌, ◌≤◌, ℕ, List, [], true, false, Option, Some, None, Result, Ok, Err, refl, sym, ap, subst, inl, inr}
use Rattle.run_options.specs.declared.guess_rule.GuessRule.{GuessRule}
use Rattle.cf_io.specs.Causes.{Rose, HasCause}
use Rattle.cf_io.specs.Puts.{Writes}
use Rattle.cf_io.specs.declared.failed.Failed.{Failed}
use Rattle.rv_machine.specs.Hart.{Hart}
use Rattle.rv_machine.specs.Streams.{Streams}
use Rattle.cf_layout.specs.Layout.{Plan}
use Rattle.cf_core.specs.Processors.{Processor, opened_processor}
use Rattle.cf_semantics.specs.state.State.{State}
use Rattle.cf_report.specs.declared.tally.Tally.{Tally}
use Rattle.cf_rounds.specs.declared.answer.Clocked.{Clocked}
use Rattle.cf_rounds.specs.declared.answer.Clocked.TheVariants as clocked
use Rattle.cf_rounds.specs.Running.{ran_of}
use Rattle.cf_rounds.specs.RunsRight.{RoundsRunRight}
use Rattle.cf_rounds.specs.Saying.{Says, rounds_text}
use Rattle.cf_rounds.specs.Turns.{input_turned, output_turned, report_turned}
use Rattle.run_finishes.specs.declared.finish.Ran.{Ran as Answer}
use Rattle.run_finishes.specs.declared.finish.Scripted.TheVariants.{Ran}
use Rattle.cf_run.specs.Ending.{EndsSequentially}
use Rattle.cf_run.specs.Made.{Made}
use Rattle.cf_run.specs.Moving.{run_place_of}
use Rattle.cf_run.specs.Policies.{most_moves}
use Rattle.report_closing.specs.Closing.{closing_in_rounds, is_report_fault}
use Rattle.cli_files.specs.Causes.{files_answered, input_answered, output_answered}
use Rattle.cli_files.specs.Loading.{IsLoaded}
use Rattle.cli_files.specs.Memory.{LacksProcessor}
use Rattle.cli_files.specs.Outside.{Outside, Report, report_of}
use Rattle.cli_files.specs.declared.status.Status.{Status}
use Rattle.cli_rounds.specs.Closing.{ClosesRounds}
use Rattle.cli_reports.specs.Reporting.{PutsReport, Carries, Comes, FaultsReported, files_reported}
use Rattle.cli_rounds.specs.Rounds.{RoundsAsked, RunInRounds, RunsCoreInRounds, ComesInRounds, BreaksInRounds, RefusesRounds, AnswersRounds, BreaksRounds}
use Rattle.cli_processor.specs.Agreement.{run_start}
use Rattle.cli_reports.specs.RunStatuses.{status_of_run}
use Rattle.cli_reports.specs.declared.reporting.Reported.{Reported}
use Rattle.cli_processor.proofs.Agreement.{agrees}
use Rattle.cli_reports.proofs.PutReports.{closed-tells, shows-none}

-- a run, and where it ends
run_of : (rule : GuessRule) (limit : ℕ) (every : Option ℕ) (core last : Processor) (before after : Streams) (blank told : Option (List ℕ))
    (tally : Tally) (rounds : ℕ) (c : Clocked) →
    RoundsRunRight rule limit every (run_start core before None) (run_place_of last after None tally) blank told rounds c →
    EndsSequentially limit (run_start core before None) (run_place_of last after None tally) (Ran (ran_of c)) →
    tally.moves ≤ most_moves core.plan limit → RunInRounds rule limit every core last before after blank
run_of rule limit every core last before after blank told tally rounds c runs ends bounded =
    record { tally = tally; rounds = rounds; clocked = c; told = told; runs = runs; ends = ends; bounded = bounded }

-- if the report did not fail during the run, it has everything that is written of the rounds
said-all : (every : Option ℕ) (s : State) (rounds : List (List Made)) (blank full : Option (List ℕ)) (c : Clocked) →
    is_report_fault (Ran (ran_of c)) ≡ false → Says every s rounds blank full c → Writes blank full (rounds_text every 0 0 s rounds)
said-all every s rounds blank full (clocked.Exit status) sound says = says
said-all every s rounds blank full (clocked.Trap cause pc detail) sound says = says
said-all every s rounds blank full clocked.Limit sound says = says
said-all every s rounds blank full clocked.ReadFault sound says = says
said-all every s rounds blank full clocked.WriteFault sound says = says
said-all every s rounds blank full clocked.ReportFault sound says = absurd (cc)

-- the count of the report's faults is unchanged if the report did not fail in the run, and rises if it did
report-stays : (before now : ℕ) (c : Clocked) → is_report_fault (Ran (ran_of c)) ≡ false → HasCause before now (report_turned (Some c)) → now ≡ before
report-stays before now (clocked.Exit status) sound h = h.still
report-stays before now (clocked.Trap cause pc detail) sound h = h.still
report-stays before now clocked.Limit sound h = h.still
report-stays before now clocked.ReadFault sound h = h.still
report-stays before now clocked.WriteFault sound h = h.still
report-stays before now clocked.ReportFault sound h = absurd (cc)

report-rose : (before now : ℕ) (c : Clocked) → is_report_fault (Ran (ran_of c)) ≡ true → HasCause before now (report_turned (Some c)) → Rose before now
report-rose before now clocked.ReportFault cut h = h.rose
report-rose before now (clocked.Exit status) cut h = absurd (cc)
report-rose before now (clocked.Trap cause pc detail) cut h = absurd (cc)
report-rose before now clocked.Limit cut h = absurd (cc)
report-rose before now clocked.ReadFault cut h = absurd (cc)
report-rose before now clocked.WriteFault cut h = absurd (cc)

-- its closing lines were written, or failed, or its report had failed after a round
closed-so : (rule : GuessRule) (limit : ℕ) (every : Option ℕ) (core last : Processor) (before after : Streams) (blank half full : Report)
    (tally : Tally) (rounds : ℕ) (c : Clocked) (result : Result Reported Failed) →
    RoundsRunRight rule limit every (run_start core before None) (run_place_of last after None tally) blank.written half.written rounds c →
    EndsSequentially limit (run_start core before None) (run_place_of last after None tally) (Ran (ran_of c)) →
    tally.moves ≤ most_moves core.plan limit → HasCause blank.faults half.faults (report_turned (Some c)) →
    ClosesRounds limit (ran_of c) rounds last tally half full result →
    Comes (RunsCoreInRounds rule limit every core last before after blank.written)
    (BreaksInRounds rule limit every core before after blank.written full.written) blank full result
unfolding run_of
closed-so rule limit every core last before after blank half full tally rounds c (Ok reported) runs ends bounded cause (sound, closes) =
    let text : List ℕ = closing_in_rounds limit (Ran (ran_of c)) rounds last.plan last.state tally in (
      rounds_text every 0 0 core.state runs.runs.rounds,
      text,
      record {
        run = run_of rule limit every core last before after blank.written half.written tally rounds c runs ends bounded;
        reported = sound;
        status_is = closes.status_is;
        shows = refl;
        closes = refl;
      },
      record {
        told = half.written;
        shows = said-all every core.state runs.runs.rounds blank.written half.written c sound runs.says;
        closes = subst (λ (n : ℕ). PutsReport (report_of half.written n) full text reported.put)
            (report-stays blank.faults half.faults c sound cause) closes.puts;
      },
    )
closed-so rule limit every core last before after blank half full tally rounds c (Err failed) runs ends bounded cause (cut, same) = (
  record {
    last = last;
    run = run_of rule limit every core last before after blank.written half.written tally rounds c runs ends bounded;
    cut = cut;
    told = ap (λ (r : Report). r.written) same;
  },
  subst (λ (r : Report). Rose blank.faults r.faults) (sym same) (report-rose blank.faults half.faults c cut cause),
)

pub rounds-closed : (rule : GuessRule) (limit : ℕ) (every : Option ℕ) (core last : Processor) (before after : Streams) (blank half full : Report)
    (tally : Tally) (rounds : ℕ) (c : Clocked) (end : Answer) (result : Result Reported Failed) →
    RoundsRunRight rule limit every (run_start core before None) (run_place_of last after None tally) blank.written half.written rounds c →
    EndsSequentially limit (run_start core before None) (run_place_of last after None tally) (Ran (ran_of c)) →
    tally.moves ≤ most_moves core.plan limit → HasCause blank.faults half.faults (report_turned (Some c)) → end ≡ ran_of c →
    ClosesRounds limit end rounds last tally half full result →
    Comes (RunsCoreInRounds rule limit every core last before after blank.written)
    (BreaksInRounds rule limit every core before after blank.written full.written) blank full result
rounds-closed rule limit every core last before after blank half full tally rounds c end result runs ends bounded cause same closes =
    closed-so rule limit every core last before after blank half full tally rounds c result runs ends bounded cause
    (subst (λ (e : Answer). ClosesRounds limit e rounds last tally half full result) same closes)

-- about the input and the output the status says what the run says, and about files nothing
input-clocked : (limit : ℕ) (c : Clocked) → input_answered (status_of_run limit (ran_of c)) ≡ input_turned (Some c)
input-clocked limit (clocked.Exit status) = refl
input-clocked limit (clocked.Trap cause pc detail) = refl
input-clocked limit clocked.Limit = refl
input-clocked limit clocked.ReadFault = refl
input-clocked limit clocked.WriteFault = refl
input-clocked limit clocked.ReportFault = refl

output-clocked : (limit : ℕ) (c : Clocked) → is_report_fault (Ran (ran_of c)) ≡ false →
    output_answered (status_of_run limit (ran_of c)) ≡ output_turned (Some c)
output-clocked limit (clocked.Exit status) sound = refl
output-clocked limit (clocked.Trap cause pc detail) sound = refl
output-clocked limit clocked.Limit sound = refl
output-clocked limit clocked.ReadFault sound = refl
output-clocked limit clocked.WriteFault sound = refl
output-clocked limit clocked.ReportFault sound = absurd (cc)

-- if the report failed, neither of the two did
input-works : (c : Clocked) → is_report_fault (Ran (ran_of c)) ≡ true → input_turned (Some c) ≡ Ok tt
input-works (clocked.Exit status) cut = absurd (cc)
input-works (clocked.Trap cause pc detail) cut = absurd (cc)
input-works clocked.Limit cut = absurd (cc)
input-works clocked.ReadFault cut = absurd (cc)
input-works clocked.WriteFault cut = absurd (cc)
input-works clocked.ReportFault cut = refl

output-works : (c : Clocked) → is_report_fault (Ran (ran_of c)) ≡ true → output_turned (Some c) ≡ Ok tt
output-works (clocked.Exit status) cut = absurd (cc)
output-works (clocked.Trap cause pc detail) cut = absurd (cc)
output-works clocked.Limit cut = absurd (cc)
output-works clocked.ReadFault cut = absurd (cc)
output-works clocked.WriteFault cut = absurd (cc)
output-works clocked.ReportFault cut = refl

files-clocked : (limit : ℕ) (c : Clocked) → files_answered (status_of_run limit (ran_of c)) ≡ Ok tt
files-clocked limit (clocked.Exit status) = refl
files-clocked limit (clocked.Trap cause pc detail) = refl
files-clocked limit clocked.Limit = refl
files-clocked limit clocked.ReadFault = refl
files-clocked limit clocked.WriteFault = refl
files-clocked limit clocked.ReportFault = refl

-- the same for the counts
pub rounds-input : (limit : ℕ) (c : Clocked) (end : Answer) (rounds : ℕ) (last : Processor) (tally : Tally) (half full : Report)
    (result : Result Reported Failed) (before now : ℕ) → end ≡ ran_of c → ClosesRounds limit end rounds last tally half full result →
    HasCause before now (input_turned (Some c)) → FaultsReported input_answered before now result
rounds-input limit c end rounds last tally half full result before now same closes h =
    closed-tells input_answered (is_report_fault (Ran (ran_of c))) (status_of_run limit (ran_of c)) _
    (closing_in_rounds limit (Ran (ran_of c)) rounds last.plan last.state tally) half full result before now (λ sound. input-clocked limit c)
    (λ cut. input-works c cut)
    (subst (λ (e : Answer). ClosesRounds limit e rounds last tally half full result) same closes) h

pub rounds-output : (limit : ℕ) (c : Clocked) (end : Answer) (rounds : ℕ) (last : Processor) (tally : Tally) (half full : Report)
    (result : Result Reported Failed) (before now : ℕ) → end ≡ ran_of c → ClosesRounds limit end rounds last tally half full result →
    HasCause before now (output_turned (Some c)) → FaultsReported output_answered before now result
rounds-output limit c end rounds last tally half full result before now same closes h =
    closed-tells output_answered (is_report_fault (Ran (ran_of c))) (status_of_run limit (ran_of c)) _
    (closing_in_rounds limit (Ran (ran_of c)) rounds last.plan last.state tally) half full result before now (λ sound. output-clocked limit c sound)
    (λ cut. output-works c cut)
    (subst (λ (e : Answer). ClosesRounds limit e rounds last tally half full result) same closes) h

pub rounds-files : (limit : ℕ) (c : Clocked) (end : Answer) (rounds : ℕ) (last : Processor) (tally : Tally) (half full : Report)
    (result : Result Reported Failed) → end ≡ ran_of c → ClosesRounds limit end rounds last tally half full result → files_reported result ≡ Ok tt
rounds-files limit c end rounds last tally half full (Ok reported) same (sound, closes) =
    rw (closes.status_is, same) (files-clocked limit c)
rounds-files limit c end rounds last tally half full (Err failed) same closes = refl

-- on the processor of a layout, opened on a hart, this is the outcome for the layout and the hart
pub rounds-come : (rule : GuessRule) (limit : ℕ) (every : Option ℕ) (core last : Processor) (plan : Plan) (hart : Hart) (before after : Streams)
    (blank full : Report) (result : Result Reported Failed) → core ≡ opened_processor plan hart → hart.retired ≡ 0 →
    Comes (RunsCoreInRounds rule limit every core last before after blank.written)
    (BreaksInRounds rule limit every core before after blank.written full.written) blank full result →
    Comes (ComesInRounds rule limit every plan hart before after blank.written)
    (BreaksInRounds rule limit every (opened_processor plan hart) before after blank.written full.written) blank full result
rounds-come rule limit every core last plan hart before after blank full (Ok reported) is fresh (shown, closing, runs, puts) =
    let run = subst (λ (p : Processor). RunsCoreInRounds rule limit every p last before after blank.written reported.status shown closing) is runs in (
      shown,
      closing,
      inl (
        last,
        record {
          runs = run;
          agrees = agrees limit plan hart before after None None last run.run.tally (Ran (ran_of run.run.clocked)) reported.status fresh run.run.ends
              run.status_is;
        },
      ),
      puts,
    )
rounds-come rule limit every core last plan hart before after blank full (Err failed) is fresh (breaks, rose) =
    (subst (λ (p : Processor). BreaksInRounds rule limit every p before after blank.written full.written) is breaks, rose)

-- or there was no memory for it
pub rounds-lacking : (rule : GuessRule) (limit : ℕ) (every : Option ℕ) (plan : Plan) (hart : Hart) (before after : Streams)
    (blank full : Report) (answer : Status) (text : List ℕ) (reported : Reported) → reported.status ≡ answer →
    LacksProcessor before after answer text → PutsReport blank full text reported.put →
    Carries (ComesInRounds rule limit every plan hart before after blank.written) blank full reported
rounds-lacking rule limit every plan hart before after blank full answer text reported same lacks puts = (
  [],
  text,
  inr (subst (λ (s : Status). LacksProcessor before after s text) (sym same) lacks),
  shows-none blank full text reported.put puts,
)

-- and of its files
pub loaded-rounds : (asked : RoundsAsked) (before after : Outside) (plan : Plan) (hart : Hart) (blank full : Report)
    (result : Result Reported Failed) → IsLoaded asked.layout asked.program before.files after.files plan hart →
    Comes (ComesInRounds asked.rule asked.limit asked.every plan hart before.streams after.streams blank.written)
    (BreaksInRounds asked.rule asked.limit asked.every (opened_processor plan hart) before.streams after.streams blank.written full.written) blank full result →
    Comes (AnswersRounds asked before after blank.written) (BreaksRounds asked before after blank.written full.written) blank full result
loaded-rounds asked before after plan hart blank full (Ok reported) loaded (shown, closing, comes, puts) =
    (shown, closing, inl (record { plan = plan; hart = hart; loaded = loaded; comes = comes }), puts)
loaded-rounds asked before after plan hart blank full (Err failed) loaded (breaks, rose) =
    (record { plan = plan; hart = hart; loaded = loaded; comes = breaks }, rose)

-- or one of them is missing
pub rounds-refused : (asked : RoundsAsked) (before after : Outside) (told : Option (List ℕ)) (blank full : Report) (answer : Status)
    (text : List ℕ) (reported : Reported) → reported.status ≡ answer → RefusesRounds asked before after answer text →
    PutsReport blank full text reported.put → Carries (AnswersRounds asked before after told) blank full reported
rounds-refused asked before after told blank full answer text reported same refused puts = (
  [],
  text,
  inr (subst (λ (s : Status). RefusesRounds asked before after s text) (sym same) refused),
  shows-none blank full text reported.put puts,
)
