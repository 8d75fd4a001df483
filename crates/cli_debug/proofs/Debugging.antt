-- A session, its last line, and what `debug` answers.
use Rattle.std.proofs.Common.{◌≡◌, ◌≢◌, ℕ, List, [], ◌++◌, true, false, Some, None, Result, Ok, Err, refl, sym, subst, inl, inr}
use Rattle.cf_io.specs.Causes.{HasCause, Rose}
use Rattle.cf_io.specs.declared.failed.Failed.{Failed}
use Rattle.rv_machine.specs.Hart.{Hart}
use Rattle.rv_machine.specs.Streams.{Streams}
use Rattle.cf_layout.specs.Layout.{Plan}
use Rattle.cf_semantics.specs.moves.Kept.{Kept}
use Rattle.cf_core.specs.Processors.{Processor, opened_processor}
use Rattle.cf_debug.specs.declared.answer.Debugged.{Debugged}
use Rattle.cf_debug.specs.declared.answer.Debugged.TheVariants.{Done, Limit, ReadFault, WriteFault, ReportFault}
use Rattle.cf_debug.specs.Making.{processor_state}
use Rattle.cf_debug.specs.Replies.{debugger_state}
use Rattle.cf_debug.specs.Sessions.{Debugs, report_ended, session_of}
use Rattle.cf_debug.specs.Standing.{IsOnRun}
use Rattle.cli_files.specs.Memory.{LacksProcessor}
use Rattle.cli_files.specs.Outside.{Outside, Report, report_of}
use Rattle.cli_files.specs.declared.status.Status.{Status}
use Rattle.cli_files.specs.Loading.{IsLoaded}
use Rattle.cli_arguments.specs.Arguments.{NamedLayout}
use Rattle.cli_reports.specs.Reporting.{Carries, Comes, PutsReport}
use Rattle.cli_reports.specs.declared.reporting.Reported.{Reported}
use Rattle.cli_reports.proofs.PutReports.{shows-none}
use Rattle.cli_debug.specs.Closing.{ClosesSession, closing_of_session, session_broken}
use Rattle.cli_debug.specs.Debug.{AnswersDebug, AnswersSession, BreaksDebug, BreaksSession, ComesOfCommands, HasSession, RefusesDebug}
use Rattle.cli_debug.proofs.Telling.{Tells, tells}

-- a session ended with ReportFault exactly if its report failed
sound-ended : (ended : Debugged) → session_broken ended ≡ false → ended ≢ ReportFault
sound-ended ReportFault sound is = absurd (cc)
sound-ended Done sound is = absurd (cc)
sound-ended Limit sound is = absurd (cc)
sound-ended ReadFault sound is = absurd (cc)
sound-ended WriteFault sound is = absurd (cc)

broken-ended : (ended : Debugged) → session_broken ended ≡ true → ended ≡ ReportFault
broken-ended ReportFault cut = refl
broken-ended Done cut = absurd (cc)
broken-ended Limit cut = absurd (cc)
broken-ended ReadFault cut = absurd (cc)
broken-ended WriteFault cut = absurd (cc)

-- the count of the report's faults is unchanged if the report did not fail in the session, and rises if it did
report-stays : (before now : ℕ) (ended : Debugged) → session_broken ended ≡ false → HasCause before now (report_ended (Some ended)) → now ≡ before
report-stays before now Done sound h = h.still
report-stays before now Limit sound h = h.still
report-stays before now ReadFault sound h = h.still
report-stays before now WriteFault sound h = h.still
report-stays before now ReportFault sound h = absurd (cc)

report-rose : (before now : ℕ) (ended : Debugged) → session_broken ended ≡ true → HasCause before now (report_ended (Some ended)) → Rose before now
report-rose before now ReportFault cut h = h.rose
report-rose before now Done cut h = absurd (cc)
report-rose before now Limit cut h = absurd (cc)
report-rose before now ReadFault cut h = absurd (cc)
report-rose before now WriteFault cut h = absurd (cc)

-- its last line was written, or failed, or its report had failed during the session
closed-so : (core last : Processor) (kept : List Kept) (before after : Streams) (blank half full : Report) (ended : Debugged)
    (result : Result Reported Failed) →
    Debugs (session_of (processor_state core [] before.output) before.input blank.written)
    (session_of (processor_state last kept after.output) after.input half.written) ended →
    IsOnRun core last before.output after.output ended → HasCause blank.faults half.faults (report_ended (Some ended)) →
    ClosesSession ended half full result →
    Comes (λ answer shown closing. AnswersSession core before after answer (shown ++ closing))
    (BreaksSession core before after blank.written full.written) blank full result
closed-so core last kept before after blank half full ended (Ok reported) session stays cause (sound, closes) =
    let works : ended ≢ ReportFault = sound-ended ended sound in
    let told : Tells (session_of (processor_state core [] before.output) before.input blank.written)
    (session_of (processor_state last kept after.output) after.input half.written)
    (debugger_state (processor_state core [] before.output) None) (debugger_state (processor_state last kept after.output) session.stop) ended =
    tells _ _ _ _ ended works session.ends in
    let again : Debugs (session_of (processor_state core [] before.output) before.input (Some []))
    (session_of (processor_state last kept after.output) after.input (Some told.lines)) ended =
    record { stop = session.stop; ends = told.ends } in (
      told.lines,
      closing_of_session ended,
      record {
        ended = ended;
        told = works;
        answers = told.lines;
        session = record { last = last; kept = kept; session = again; on_run = stays };
        status_is = closes.status_is;
        reports = refl;
      },
      record {
        told = half.written;
        shows = told.put;
        closes = subst (λ (n : ℕ). PutsReport (report_of half.written n) full (closing_of_session ended) reported.put)
            (report-stays blank.faults half.faults ended sound cause) closes.puts;
      },
    )
closed-so core last kept before after blank half full ended (Err failed) session stays cause (cut, same) =
    let had : HasSession core before after blank.written half.written ended =
    record { last = last; kept = kept; session = session; on_run = stays } in (
      subst (λ (r : Report). BreaksSession core before after blank.written r.written) (sym same)
          (subst (HasSession core before after blank.written half.written) (broken-ended ended cut) had),
      subst (λ (r : Report). Rose blank.faults r.faults) (sym same) (report-rose blank.faults half.faults ended cut cause),
    )

pub session-closed : (core last : Processor) (ring kept : List Kept) (before after : Streams) (blank half full : Report) (ended : Debugged)
    (result : Result Reported Failed) → ring ≡ [] →
    Debugs (session_of (processor_state core ring before.output) before.input blank.written)
    (session_of (processor_state last kept after.output) after.input half.written) ended →
    IsOnRun core last before.output after.output ended → HasCause blank.faults half.faults (report_ended (Some ended)) →
    ClosesSession ended half full result →
    Comes (λ answer shown closing. AnswersSession core before after answer (shown ++ closing))
    (BreaksSession core before after blank.written full.written) blank full result
session-closed core last ring kept before after blank half full ended result empty session stays cause closes =
    closed-so core last kept before after blank half full ended result (rw empty at session) stays cause closes

-- on the processor of a layout, opened on a hart, this is the outcome for the layout and the hart
pub session-comes : (core : Processor) (plan : Plan) (hart : Hart) (before after : Streams) (blank full : Report) (result : Result Reported Failed) →
    core ≡ opened_processor plan hart →
    Comes (λ answer shown closing. AnswersSession core before after answer (shown ++ closing))
    (BreaksSession core before after blank.written full.written) blank full result →
    Comes (λ answer shown closing. ComesOfCommands plan hart before after answer (shown ++ closing))
    (BreaksSession (opened_processor plan hart) before after blank.written full.written) blank full result
session-comes core plan hart before after blank full (Ok reported) is (shown, closing, answers, puts) =
    (shown, closing, inl (subst (λ (p : Processor). AnswersSession p before after reported.status (shown ++ closing)) is answers), puts)
session-comes core plan hart before after blank full (Err failed) is (breaks, rose) =
    (subst (λ (p : Processor). BreaksSession p before after blank.written full.written) is breaks, rose)

-- or there was no memory for it
pub session-lacking : (plan : Plan) (hart : Hart) (before after : Streams) (blank full : Report) (answer : Status) (text : List ℕ)
    (reported : Reported) → reported.status ≡ answer → LacksProcessor before after answer text → PutsReport blank full text reported.put →
    Carries (λ said shown closing. ComesOfCommands plan hart before after said (shown ++ closing)) blank full reported
session-lacking plan hart before after blank full answer text reported same lacks puts = (
  [],
  text,
  inr (subst (λ (s : Status). LacksProcessor before after s text) (sym same) lacks),
  shows-none blank full text reported.put puts,
)

-- and of the files
pub loaded-session : (layout : NamedLayout) (program : List ℕ) (before after : Outside) (plan : Plan) (hart : Hart) (blank full : Report)
    (result : Result Reported Failed) → IsLoaded layout program before.files after.files plan hart →
    Comes (λ answer shown closing. ComesOfCommands plan hart before.streams after.streams answer (shown ++ closing))
    (BreaksSession (opened_processor plan hart) before.streams after.streams blank.written full.written) blank full result →
    Comes (λ answer shown closing. AnswersDebug layout program before after answer (shown ++ closing))
    (BreaksDebug layout program before after blank.written full.written) blank full result
loaded-session layout program before after plan hart blank full (Ok reported) loaded (shown, closing, comes, puts) =
    (shown, closing, inl (record { plan = plan; hart = hart; loaded = loaded; comes = comes }), puts)
loaded-session layout program before after plan hart blank full (Err failed) loaded (breaks, rose) =
    (record { plan = plan; hart = hart; loaded = loaded; breaks = breaks }, rose)

-- or one of them is missing
pub debug-refused : (layout : NamedLayout) (program : List ℕ) (before after : Outside) (blank full : Report) (answer : Status)
    (text : List ℕ) (reported : Reported) → reported.status ≡ answer → RefusesDebug layout program before after answer text →
    PutsReport blank full text reported.put →
    Carries (λ said shown closing. AnswersDebug layout program before after said (shown ++ closing)) blank full reported
debug-refused layout program before after blank full answer text reported same refused puts = (
  [],
  text,
  inr (subst (λ (s : Status). RefusesDebug layout program before after s text) (sym same) refused),
  shows-none blank full text reported.put puts,
)
