-- The outcome of an audit of a recorded trace, and what a trace that agrees says about the sequential machine.
use Rattle.std.specs.Prelude.{◌≡◌, ℕ, ◌+◌, List, [], ◌++◌, Option, Some, None}
use Rattle.run_options.specs.Reportings as show
use Rattle.rv_machine.specs.Hart.{Hart}
use Rattle.rv_machine.specs.Machine.{Machine}
use Rattle.cf_layout.specs.Layout.{Plan}
use Rattle.cf_bind.specs.declared.moves.Move.{Move}
use Rattle.cf_semantics.specs.state.Layouts.{isa_of}
use Rattle.cf_semantics.specs.runs.Lines.{Line, sequence}
use Rattle.cf_semantics.specs.state.State.{Moment}
use Rattle.theory_unknown_input.specs.UnknownInput.{GoesTo}
use Rattle.cf_core.specs.Processors.{Processor, in_state, opened_processor}
use Rattle.cf_run.specs.Headline.{machine_on, AreTexts, IsRight, IsRightOnTheWay}
use Rattle.cf_run.specs.Made.{all_shown, moves_of}
use Rattle.cf_audit.specs.declared.answer.Audit.{Audit}
use Rattle.cf_audit.specs.declared.answer.Audit.TheVariants.{Agrees, Wrong, ReadFault}
use Rattle.cf_audit.specs.Findings.{Findings, GoesWrongFinding, IsTraceFinding}
use Rattle.cf_audit.specs.Traces.{IsTrace, ReachesMoment, GoesWrong, StopsAtCall}

-- the trace is that of a run of this many moves, and the processor and the input are at its end; or it goes wrong in
-- this line, for this reason, and they are where the moves that were made lead; or the input failed a call
unfoldable pub Audits : (core new : Processor) → (told now : Option (List ℕ)) → List ℕ → Audit → Type 0
Audits core new told now text (Agrees n) =
    (last : Moment) × IsTrace core told text n last × ReachesMoment core new told now last
Audits core new told now text (Wrong line kind) =
    (stop : Moment) × GoesWrong core told text line kind stop × ReachesMoment core new told now stop
Audits core new told now text ReadFault = StopsAtCall core new told now text

-- the answer for the trace of a run of this many moves, unless the input fails
abbrev pub IsAgreement : ℕ → Audit → Type 0
IsAgreement n (Agrees m) = m ≡ n
IsAgreement n (Wrong line kind) = ⊥
IsAgreement n ReadFault = Unit {0}

-- this is what the moves of the audit found: the processor is where they lead
abbrev pub AreFound : Findings → (core new : Processor) → List ℕ → Audit → Type 0
AreFound found core new text (Agrees n) =
    (last : Moment) × IsTraceFinding found core text n last × (new ≡ in_state core last.state)
AreFound found core new text (Wrong line kind) =
    (stop : Moment) × GoesWrongFinding found core text line kind stop × (new ≡ in_state core stop.state)
AreFound found core new text ReadFault = Unit {0}

-- If the input's remaining bytes are known, each trace of a run gets this answer. If they are unknown, each trace of a
-- run whose moves find the same of the input as those of the audit gets this answer.
abbrev pub AgreesWithAll : (core new : Processor) → Option (List ℕ) → List ℕ → Audit → Type 0
AgreesWithAll core new None text answer =
    (found : Findings) × AreFound found core new text answer
    × ((n : ℕ) (last : Moment) → IsTraceFinding found core text n last → IsAgreement n answer)
AgreesWithAll core new (Some rest) text answer =
    (n : ℕ) (last : Moment) → IsTrace core (Some rest) text n last → IsAgreement n answer

-- These are the first instructions, this many of them, that the sequential machine retires from this hart on, with the
-- input's remaining bytes if these are known. If they are unknown, the machine retires these instructions in as many
-- steps, each of which finds some input.
abbrev pub AreRetired : Plan → Hart → Option (List ℕ) → ℕ → List Line → Type 0
AreRetired plan hart (Some rest) n written = written ≡ sequence (isa_of plan) (machine_on hart rest) n
AreRetired plan hart None n written = (at : Machine) × GoesTo (isa_of plan) (machine_on hart []) n at written

-- The moves that were made up to any moment of the run are right, on the machine that starts on this hart with the
-- input's remaining bytes if these are known. If they are unknown, the moves are right over an input of which each call
-- finds some, and from there the others lead to the last moment, with these lines of retired instructions.
abbrev pub AreRightThroughout : Plan → Hart → Option (List ℕ) → List Move → Moment → List Line → Type 0
AreRightThroughout plan hart (Some rest) moves last written =
    (made more : List Move) → moves ≡ made ++ more → IsRight plan (machine_on hart rest) made
AreRightThroughout plan hart None moves last written =
    (made more : List Move) → moves ≡ made ++ more → IsRightOnTheWay plan hart made more last written

-- The run whose trace the text is leads to this moment. At each of its moments it is a run of the sequential machine
-- that starts on this hart. Its retirement lines are a line for each of the machine's first instructions, up to some
-- number, in their order, numbered by the machine's count.
pub record TracesMachine (core : Processor) (hart : Hart) (told : Option (List ℕ)) (text : List ℕ) (n : ℕ) (last : Moment)
    (is : IsTrace core told text n last) : Type 0 where
  pub retired : ℕ
  pub written : List Line
  pub machine : AreRetired core.plan hart told retired written
  pub lines : AreTexts (hart.retired + 1) written (all_shown show.retired core.plan 1 is.trace)
  pub throughout : AreRightThroughout core.plan hart told (moves_of is.trace) last written

-- The trace is that of a run of this many moves, and the processor and the input are at its end. On whatever hart the
-- processor was opened, that run is one of the machine.
pub record EndsTrace (core new : Processor) (told now : Option (List ℕ)) (text : List ℕ) (n : ℕ) : Type 0 where
  pub last : Moment
  pub is : IsTrace core told text n last
  pub reaches : ReachesMoment core new told now last
  pub machine : (hart : Hart) → core ≡ opened_processor core.plan hart → TracesMachine core hart told text n last is

-- This holds of each trace that agrees.
unfoldable pub AgreesSequentially : (core new : Processor) → (told now : Option (List ℕ)) → List ℕ → Audit → Type 0
AgreesSequentially core new told now text (Agrees n) = EndsTrace core new told now text n
AgreesSequentially core new told now text answer = Unit {0}
