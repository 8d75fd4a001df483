-- The answer of the command `audit`, and its effect on the outside.
use Rattle.std.specs.Prelude.{◌≡◌, ◌⊎◌, ℕ, List, codes, Option, Some, None}
use Rattle.cf_io.specs.Reads.{FilesSeen}
use Rattle.rv_machine.specs.Hart.{Hart}
use Rattle.rv_machine.specs.Streams.{Becomes}
use Rattle.cf_layout.specs.Layout.{Plan}
use Rattle.cf_semantics.specs.state.State.{Moment}
use Rattle.cf_core.specs.Processors.{Processor, in_state, opened_processor}
use Rattle.cf_audit.specs.declared.answer.Audit.{Audit}
use Rattle.cf_audit.specs.declared.answer.Audit.TheVariants as found
use Rattle.run_scripts.specs.declared.trace_refusal.TraceKind.{TraceKind}
use Rattle.cf_audit.specs.Audits.{TracesMachine}
use Rattle.cf_audit.specs.Findings.{Findings, GoesWrongFinding, IsTraceFinding}
use Rattle.cf_audit.specs.Traces.{IsTrace, GoesWrong, StopsAtCall}
use Rattle.texts.specs.Lines.{line}
use Rattle.cli_arguments.specs.Arguments.{NamedLayout}
use Rattle.cli_files.specs.Loading.{IsLoaded, LacksLoaded}
use Rattle.cli_files.specs.declared.status.Status.{Status}
use Rattle.cli_files.specs.declared.status.Status.TheVariants as status
use Rattle.report_refusals.specs.declared.faults.TraceFault.TheVariants as fault
use Rattle.cli_files.specs.declared.status.Which.TheVariants as which
use Rattle.report_refusals.specs.Traces.{bad_trace}
use Rattle.cli_audit.specs.Effects.{InputSide}
use Rattle.cli_audit.specs.Reports.{trace_of}
use Rattle.cli_audit.specs.Traces.{IsTraceAt, LacksTrace}

-- what the arguments ask of `audit`: where the layout is, and the files with the program and the trace
pub record AuditAsked : Type 0 where
  pub layout : NamedLayout
  pub program : List ℕ
  pub trace : List ℕ

abbrev pub audit_asked : NamedLayout → List ℕ → List ℕ → AuditAsked
audit_asked layout program trace = record { layout = layout; program = program; trace = trace }

-- the status that says what an audit found
abbrev pub audit_status : Audit → Status
audit_status (found.Agrees n) = status.Done
audit_status (found.Wrong number kind) = status.BadTrace (fault.Line number kind)
audit_status found.ReadFault = status.ReadFault which.Input

-- and the report
abbrev pub audit_report : Audit → List ℕ
audit_report (found.Agrees n) = trace_of n
audit_report (found.Wrong number kind) = bad_trace (fault.Line number kind)
audit_report found.ReadFault = line (codes "read fault input")

-- the processor of the layout, opened on the hart, has come to this moment
abbrev pub HasComeTo : Plan → Hart → (new : Processor) → Moment → Type 0
HasComeTo plan hart new m = new ≡ in_state (opened_processor plan hart) m.state

-- the text is the trace of a run of n moves of the layout's processor, opened on the hart, and the run leads to the
-- processor as it is now. The run leaves this of the input. It is a run of the sequential machine that starts on the
-- hart, at each of its moments, and the retirement lines in the trace are the machine's: one for each of its first
-- instructions, in order
pub record IsTraceOf (plan : Plan) (hart : Hart) (new : Processor) (text : List ℕ) (before after : Option (List ℕ)) (n : ℕ) :
    Type 0 where
  pub last : Moment
  pub is : IsTrace (opened_processor plan hart) before text n last
  pub reached : HasComeTo plan hart new last
  pub input : Becomes before after last.rest
  pub machine : TracesMachine (opened_processor plan hart) hart before text n last is

-- the text is the trace of no run, which this line shows, for this reason; the moves that were made lead to the
-- processor as it is now, and leave this of the input
pub record IsNoTraceOf (plan : Plan) (hart : Hart) (new : Processor) (text : List ℕ) (before after : Option (List ℕ)) (number : ℕ)
    (kind : TraceKind) : Type 0 where
  pub stop : Moment
  pub wrong : GoesWrong (opened_processor plan hart) before text number kind stop
  pub reached : HasComeTo plan hart new stop
  pub input : Becomes before after stop.rest

-- the answer for a text, by the status: it is the trace of a run; or it is not, which this line shows; or it is the
-- trace of a run up to a call that the input failed; or memory for the processor was refused
abbrev pub AnswersText : Plan → Hart → (new : Processor) → List ℕ → (before after : Option (List ℕ)) → Status → List ℕ → Type 0
AnswersText plan hart new text before after status.Done report =
    (n : ℕ) × IsTraceOf plan hart new text before after n × (report ≡ trace_of n)
AnswersText plan hart new text before after (status.BadTrace (fault.Line number kind)) report =
    IsNoTraceOf plan hart new text before after number kind × (report ≡ bad_trace (fault.Line number kind))
AnswersText plan hart new text before after (status.ReadFault which.Input) report =
    StopsAtCall (opened_processor plan hart) new before after text × (report ≡ line (codes "read fault input"))
AnswersText plan hart new text before after status.NoMemory report =
    (after ≡ before) × (report ≡ line (codes "no memory"))
AnswersText plan hart new text before after _ report = ⊥

-- the answer for the trace of a run of n moves, unless the input fails or memory is refused
abbrev pub AcceptsTrace : ℕ → Status → List ℕ → Type 0
AcceptsTrace n status.Done report = report ≡ trace_of n
AcceptsTrace n (status.BadTrace why) report = ⊥
AcceptsTrace n _ report = Unit {0}

-- the findings are what the moves of the audit found of an input that does not expose its remaining bytes, if there was
-- an audit: with these findings the moves lead to the processor as it is now
abbrev pub IsWhatWasFound : Findings → Plan → Hart → (new : Processor) → List ℕ → Status → List ℕ → Type 0
IsWhatWasFound found plan hart new text status.Done report =
    (n : ℕ) × (last : Moment) × IsTraceFinding found (opened_processor plan hart) text n last × HasComeTo plan hart new last × (report ≡ trace_of n)
IsWhatWasFound found plan hart new text (status.BadTrace (fault.Line number kind)) report =
    (stop : Moment) × GoesWrongFinding found (opened_processor plan hart) text number kind stop × HasComeTo plan hart new stop
IsWhatWasFound found plan hart new text _ report = Unit {0}

-- over an input that exposes its remaining bytes, each trace of a run is answered in this way; over any other, each
-- trace of a run whose moves find the same input as those of the audit
abbrev pub AcceptsRuns : Plan → Hart → (new : Processor) → List ℕ → Option (List ℕ) → Status → List ℕ → Type 0
AcceptsRuns plan hart new text None answer report =
    (found : Findings) × IsWhatWasFound found plan hart new text answer report
    × ((n : ℕ) (last : Moment) → IsTraceFinding found (opened_processor plan hart) text n last → AcceptsTrace n answer report)
AcceptsRuns plan hart new text (Some rest) answer report =
    (n : ℕ) (last : Moment) → IsTrace (opened_processor plan hart) (Some rest) text n last → AcceptsTrace n answer report

-- the outcome for a layout, a hart and a text: the answer and what was found of the input belong to one audit, which
-- leaves this processor
pub record ComesOfTrace (plan : Plan) (hart : Hart) (text : List ℕ) (before after : Option (List ℕ))
    (answer : Status) (report : List ℕ) : Type 0 where
  pub new : Processor
  pub answers : AnswersText plan hart new text before after answer report
  pub accepts : AcceptsRuns plan hart new text before answer report

-- layout, program and trace were read, in this order
pub record ReadsTrace (asked : AuditAsked) (before after : Option FilesSeen) (plan : Plan) (hart : Hart)
    (text : List ℕ) : Type 0 where
  pub between : Option FilesSeen
  pub loaded : IsLoaded asked.layout asked.program before between plan hart
  pub traced : IsTraceAt asked.trace between after text

-- and this was the outcome
pub record AuditsTrace (asked : AuditAsked) (before after : InputSide) (answer : Status) (report : List ℕ) :
    Type 0 where
  pub plan : Plan
  pub hart : Hart
  pub text : List ℕ
  pub reads : ReadsTrace asked before.files after.files plan hart text
  pub comes : ComesOfTrace plan hart text before.input after.input answer report

-- the layout and the program were found, and the trace was not
pub record StopsAtTrace (asked : AuditAsked) (before after : Option FilesSeen) (answer : Status)
    (report : List ℕ) : Type 0 where
  pub plan : Plan
  pub hart : Hart
  pub between : Option FilesSeen
  pub loaded : IsLoaded asked.layout asked.program before between plan hart
  pub lacks : LacksTrace asked.trace between after answer report

-- one of them is missing, and the input was left unchanged
pub record RefusesAudit (asked : AuditAsked) (before after : InputSide) (answer : Status) (report : List ℕ) :
    Type 0 where
  pub lacks : LacksLoaded asked.layout asked.program before.files after.files answer report
      ⊎ StopsAtTrace asked before.files after.files answer report
  pub input : after.input ≡ before.input

-- the answer of `audit` and its report
abbrev pub AnswersAudit : AuditAsked → InputSide → InputSide → Status → List ℕ → Type 0
AnswersAudit asked before after answer report =
    AuditsTrace asked before after answer report ⊎ RefusesAudit asked before after answer report
