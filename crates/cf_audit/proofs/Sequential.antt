-- The run of a trace is one of the sequential machine at each of its moments, and its retirement lines are the machine's.
use Rattle.std.proofs.Common.{◌≡◌, ℕ, ◌+◌, List, length, Option, Some, None, refl, ap, subst, ◌∙◌}
use Rattle.run_options.specs.Reportings as show
use Rattle.rv_machine.specs.Hart.{Hart}
use Rattle.rv_machine.specs.Machine.{Machine}
use Rattle.cf_layout.specs.Accepted.{IsAccepted}
use Rattle.cf_layout.specs.Layout.{Plan}
use Rattle.cf_bind.specs.declared.moves.Move.{Move}
use Rattle.cf_semantics.specs.runs.Lines.{lines}
use Rattle.cf_semantics.specs.claims.Refines.{gained}
use Rattle.cf_semantics.specs.runs.Runs.{opened as opened_on, start as start_on}
use Rattle.cf_semantics.specs.state.State.{Moment}
use Rattle.theory_refinement.proofs.claims.Runs.{opened_retired}
use Rattle.theory_unknown_input.specs.UnknownInput.{LeadsTo}
use Rattle.theory_unknown_input.proofs.Invariant.{HoldsAnew}
use Rattle.theory_unknown_input.proofs.Theorems.{holds_anew}
use Rattle.cf_core.specs.Processors.{Processor, opened_processor}
use Rattle.cf_run.specs.Going.{moment_of, Leads}
use Rattle.cf_run.specs.Headline.{machine_on, moment_after, AreTexts, IsRight}
use Rattle.cf_run.specs.Made.{moves_of, all_shown}
use Rattle.cf_run.proofs.Arrived.{begins, right}
use Rattle.cf_run.proofs.Retirements.{shown-lines}
use Rattle.cf_run.proofs.Runs.{leads-run}
use Rattle.cf_run.proofs.Throughout.{on-the-way, right-anew, right-throughout}
use Rattle.cf_run.proofs.UnknownInput.{LeadsAnew, leads-anew}
use Rattle.cf_audit.specs.declared.answer.Audit.{Audit}
use Rattle.cf_audit.specs.declared.answer.Audit.TheVariants.{Agrees, Wrong, ReadFault}
use Rattle.cf_audit.specs.Audits.{AgreesSequentially, Audits, TracesMachine}
use Rattle.cf_audit.specs.Traces.{most_retired, IsTrace}

opened_regs : (plan : Plan) (hart : Hart) → (opened_processor plan hart).state.regs ≡ hart.regs
unfolding opened_processor opened_on
opened_regs plan hart = refl

-- so the hart has 32 registers too
opened_wide : (core : Processor) (hart : Hart) → core ≡ opened_processor core.plan hart → length core.state.regs ≡ 32 → length hart.regs ≡ 32
opened_wide core hart opens wide =
    subst (λ (r : List ℕ). length r ≡ 32) (ap (λ (p : Processor). p.state.regs) opens ∙ opened_regs core.plan hart) wide

-- over an input whose remaining bytes are known
traces_told : (core : Processor) (hart : Hart) (rest text : List ℕ) (n : ℕ) (last : Moment) → IsAccepted core.plan → length core.state.regs ≡ 32 →
    core ≡ opened_processor core.plan hart → (t : IsTrace core (Some rest) text n last) → TracesMachine core hart (Some rest) text n last t
traces_told core hart rest text n last accepted wide opens t =
    let plan : Plan = core.plan in
    let x : Machine = machine_on hart rest in
    let same : moment_of core t.rest ≡ start_on plan x = begins core hart rest t.rest opens t.is_told in
    let leads : Leads plan most_retired (Some rest) (start_on plan x) t.trace last = subst
    (λ (m : Moment). Leads plan most_retired (Some rest) m t.trace last) same t.leads in
    let runs = leads-run plan most_retired rest (start_on plan x) t.trace last leads in
    let width : length hart.regs ≡ 32 = opened_wide core hart opens wide in
    let is : IsRight plan x (moves_of t.trace) = right plan x (moves_of t.trace) accepted width runs.0 in
    record {
      retired = gained x (moment_after plan x (moves_of t.trace)).state;
      written = lines plan (start_on plan x) (moves_of t.trace);
      machine = is.refines.lines;
      lines = subst (λ (k : ℕ). AreTexts (k + 1) (lines plan (start_on plan x) (moves_of t.trace)) (all_shown show.retired plan 1 t.trace))
          (opened_retired plan x) (shown-lines plan most_retired rest (start_on plan x) 1 t.trace last leads);
      throughout = right-throughout plan x (moves_of t.trace) accepted width is;
    }

-- and over one whose remaining bytes are unknown
traces_untold : (core : Processor) (hart : Hart) (text : List ℕ) (n : ℕ) (last : Moment) → IsAccepted core.plan → length core.state.regs ≡ 32 →
    core ≡ opened_processor core.plan hart → (t : IsTrace core None text n last) → TracesMachine core hart None text n last t
traces_untold core hart text n last accepted wide opens t =
    let plan : Plan = core.plan in
    let x : Machine = machine_on hart t.rest in
    let leads : Leads plan most_retired None (start_on plan x) t.trace last = subst
    (λ (m : Moment). Leads plan most_retired None m t.trace last) (begins core hart t.rest t.rest opens refl) t.leads in
    let anew : LeadsAnew plan (start_on plan x) 1 t.trace last = leads-anew plan most_retired (start_on plan x) 1 t.trace last leads in
    let width : length hart.regs ≡ 32 = opened_wide core hart opens wide in
    let holds : HoldsAnew plan x anew.written last = holds_anew plan x (moves_of t.trace) last anew.written accepted width anew.leads in
    record {
      retired = gained x last.state;
      written = anew.written;
      machine = (holds.at, (right-anew plan hart t.rest (moves_of t.trace) last anew.written accepted anew.leads holds).goes);
      lines = subst (λ (k : ℕ). AreTexts (k + 1) anew.written (all_shown show.retired plan 1 t.trace)) (opened_retired plan x) anew.texts;
      throughout = λ made more parts. on-the-way plan hart t.rest last.rest made more last anew.written accepted width
          (subst (λ (moves : List Move). LeadsTo plan (start_on plan x) moves last anew.written) parts anew.leads);
    }

-- so this holds of each trace that agrees
traces_machine : (core : Processor) (hart : Hart) (told : Option (List ℕ)) (text : List ℕ) (n : ℕ) (last : Moment) → IsAccepted core.plan →
    length core.state.regs ≡ 32 → core ≡ opened_processor core.plan hart → (t : IsTrace core told text n last) → TracesMachine core hart told text n last t
traces_machine core hart (Some rest) text n last accepted wide opens t = traces_told core hart rest text n last accepted wide opens t
traces_machine core hart None text n last accepted wide opens t = traces_untold core hart text n last accepted wide opens t

pub agrees-sequentially : (core new : Processor) (told now : Option (List ℕ)) (text : List ℕ) (answer : Audit) → IsAccepted core.plan →
    length core.state.regs ≡ 32 → Audits core new told now text answer → AgreesSequentially core new told now text answer
unfolding Audits AgreesSequentially
agrees-sequentially core new told now text (Agrees n) accepted wide (last, trace, reaches) =
    record { last = last; is = trace; reaches = reaches; machine = λ hart opens. traces_machine core hart told text n last accepted wide opens trace }
agrees-sequentially core new told now text (Wrong line kind) accepted wide h = tt
agrees-sequentially core new told now text ReadFault accepted wide h = tt
