-- What an audit found is what the command answers.
use Rattle.std.proofs.Common.{◌≡◌, ℕ, List, [], Option, Some, None, Ok, refl, ap}
use Rattle.std.specs.Prelude.{codes}
use Rattle.rv_machine.specs.Hart.{Hart}
use Rattle.cf_layout.specs.Layout.{Plan}
use Rattle.cf_core.specs.Processors.{Processor, opened_processor}
use Rattle.cf_audit.specs.declared.answer.Audit.{Audit}
use Rattle.cf_audit.specs.declared.answer.Audit.TheVariants as found
use Rattle.cf_audit.specs.Audits.{AgreesSequentially, AgreesWithAll, AreFound, Audits, IsAgreement}
use Rattle.cf_audit.specs.Findings.{Findings}
use Rattle.cf_audit.specs.Turns.{input_tested}
use Rattle.cli_files.specs.Causes.{files_answered, input_answered, output_answered}
use Rattle.cli_files.specs.declared.status.Status.{Status}
use Rattle.cli_files.specs.declared.status.Status.TheVariants as status
use Rattle.texts.specs.Lines.{line}
use Rattle.cli_audit.specs.Audit.{audit_status, audit_report, AnswersText, AcceptsTrace, AcceptsRuns, ComesOfTrace, IsTraceOf, IsWhatWasFound}
use Rattle.cli_audit.specs.Reports.{trace_of}

-- the run of a trace that agrees is one of the machine on whose hart the processor was opened
traced : (plan : Plan) (hart : Hart) (new : Processor) (before after : Option (List ℕ)) (text : List ℕ) (n : ℕ) →
    AgreesSequentially (opened_processor plan hart) new before after text (found.Agrees n) → IsTraceOf plan hart new text before after n
unfolding AgreesSequentially opened_processor
traced plan hart new before after text n e = record {
  last = e.last;
  is = e.is;
  reached = e.reaches.processor;
  input = e.reaches.input;
  machine = e.machine hart refl;
}

answers : (plan : Plan) (hart : Hart) (new : Processor) (text : List ℕ) (before after : Option (List ℕ)) (a : Audit) →
    Audits (opened_processor plan hart) new before after text a → AgreesSequentially (opened_processor plan hart) new before after text a →
    AnswersText plan hart new text before after (audit_status a) (audit_report a)
unfolding Audits
answers plan hart new text before after (found.Agrees n) is machine = (n, traced plan hart new before after text n machine, refl)
answers plan hart new text before after (found.Wrong number kind) (stop, wrong, stands) machine =
    (record { stop = stop; wrong = wrong; reached = stands.processor; input = stands.input }, refl)
answers plan hart new text before after found.ReadFault stops machine = (stops, refl)

accepted : (n : ℕ) (a : Audit) → IsAgreement n a → AcceptsTrace n (audit_status a) (audit_report a)
accepted n (found.Agrees m) same = ap trace_of same
accepted n (found.Wrong number kind) h = h
accepted n found.ReadFault h = tt

-- what the moves of an audit found, by its status
found_by : (plan : Plan) (hart : Hart) (new : Processor) (text : List ℕ) (finds : Findings) (a : Audit) →
    AreFound finds (opened_processor plan hart) new text a →
    IsWhatWasFound finds plan hart new text (audit_status a) (audit_report a)
found_by plan hart new text finds (found.Agrees n) (last, is, reaches) = (n, last, is, reaches, refl)
found_by plan hart new text finds (found.Wrong number kind) (stop, wrong, reaches) = (stop, wrong, reaches)
found_by plan hart new text finds found.ReadFault h = tt

accepts : (plan : Plan) (hart : Hart) (new : Processor) (text : List ℕ) (told : Option (List ℕ)) (a : Audit) →
    AgreesWithAll (opened_processor plan hart) new told text a → AcceptsRuns plan hart new text told (audit_status a) (audit_report a)
accepts plan hart new text None a (finds, are, h) = (finds, found_by plan hart new text finds a are, λ n last is. accepted n a (h n last is))
accepts plan hart new text (Some rest) a h = λ n last is. accepted n a (h n last is)

pub comes : (core new : Processor) (plan : Plan) (hart : Hart) (text : List ℕ) (before after : Option (List ℕ)) (a : Audit)
    (answer : Status) (report : List ℕ) → core ≡ opened_processor plan hart → Audits core new before after text a →
    AgreesWithAll core new before text a → AgreesSequentially core new before after text a → answer ≡ audit_status a → report ≡ audit_report a →
    ComesOfTrace plan hart text before after answer report
comes core new plan hart text before after a answer report is audits agrees machine said told =
    let audited : Audits (opened_processor plan hart) new before after text a = rw is at audits in
    let all : AgreesWithAll (opened_processor plan hart) new before text a = rw is at agrees in
    let traces : AgreesSequentially (opened_processor plan hart) new before after text a = rw is at machine in
    rw (said, told) (record {
      new = new;
      answers = answers plan hart new text before after a audited traces;
      accepts = accepts plan hart new text before a all;
    })

-- if memory for the processor is refused, nothing was found
none_found : (plan : Plan) (hart : Hart) (new : Processor) (text : List ℕ) (told : Option (List ℕ)) →
    AcceptsRuns plan hart new text told status.NoMemory (line (codes "no memory"))
none_found plan hart new text None = (λ k. [], tt, λ n last is. tt)
none_found plan hart new text (Some rest) = λ n last is. tt

pub comes-no-memory : (plan : Plan) (hart : Hart) (text : List ℕ) (told : Option (List ℕ)) (answer : Status) (report : List ℕ) → answer ≡ status.NoMemory →
    report ≡ line (codes "no memory") → ComesOfTrace plan hart text told told answer report
comes-no-memory plan hart text told answer report is says =
    rw (is, says) (record { new = opened_processor plan hart; answers = (refl, refl); accepts = none_found plan hart (opened_processor plan hart) text told })

-- the findings do not say that a file or the output failed; they say that the input failed exactly if the call did
pub files-left : (a : Audit) → files_answered (audit_status a) ≡ Ok tt
files-left (found.Agrees n) = refl
files-left (found.Wrong number kind) = refl
files-left found.ReadFault = refl

pub output-left : (a : Audit) → output_answered (audit_status a) ≡ Ok tt
output-left (found.Agrees n) = refl
output-left (found.Wrong number kind) = refl
output-left found.ReadFault = refl

pub input-stopped : (a : Audit) → input_answered (audit_status a) ≡ input_tested (Some a)
input-stopped (found.Agrees n) = refl
input-stopped (found.Wrong number kind) = refl
input-stopped found.ReadFault = refl
