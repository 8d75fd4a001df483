-- Where a run has arrived, whatever its input exposes; and where it has arrived over an input whose remaining bytes are
-- known.
use Rattle.std.proofs.Common.{◌≡◌, ℕ, ◌+◌, List, [], Option, Some, ap, subst, ◌∙◌, refl, length}
use Rattle.run_options.specs.declared.reporting.Reporting.{Reporting}
use Rattle.run_options.specs.Reportings as show
use Rattle.cf_io.specs.Puts.{Writes}
use Rattle.rv_machine.specs.Hart.{Hart}
use Rattle.rv_machine.specs.Machine.{Machine}
use Rattle.rv_machine.specs.Streams.{IsTold, Leaves}
use Rattle.cf_layout.specs.Accepted.{IsAccepted}
use Rattle.cf_layout.specs.Layout.{Plan}
use Rattle.cf_bind.specs.declared.moves.Move.{Move}
use Rattle.cf_semantics.specs.runs.Lines.{Line, lines}
use Rattle.cf_semantics.specs.runs.Runs.{IsRun, opened as opened_on, start as start_on}
use Rattle.cf_semantics.specs.state.State.{State, Moment}
use Rattle.theory_refinement.proofs.claims.Runs.{opened_retired}
use Rattle.theory_refinement.proofs.Theorems.{run_refines}
use Rattle.cf_core.specs.Processors.{Processor, in_state, opened_processor}
use Rattle.cf_run.specs.Going.{moment_of, Leads}
use Rattle.cf_run.specs.Headline.{machine_on, moment_after, lines_after, IsRight, AreTexts}
use Rattle.cf_run.specs.Made.{Made, moves_of, all_shown}
use Rattle.cf_run.specs.Moving.{RunPlace}
use Rattle.cf_run.specs.Reaching.{Reaches}
use Rattle.cf_run.proofs.Retirements.{shown-lines}
use Rattle.cf_run.proofs.Runs.{leads-run}
use Rattle.cf_run.proofs.Settling.{IsKept, kept-run, settles}

-- a run has reached a moment where the invariant holds over a machine, with these lines, numbered from n on
pub record Arrives (shows : Reporting) (x : Machine) (m : Moment) (n : ℕ) (written : List Line) (begin now : RunPlace) : Type 0 where
  pub kept : IsKept begin.core.plan x m
  pub core : now.core ≡ in_state begin.core m.state
  pub streams : Leaves begin.streams now.streams m.rest m.output
  pub trace : List Made
  pub texts : AreTexts n written (all_shown show.retired begin.core.plan 1 trace)
  pub report : Writes begin.report now.report (all_shown shows begin.core.plan 1 trace)

-- an opened processor is at the start of the machine
opened_same : (plan : Plan) (hart : Hart) (rest : List ℕ) → (opened_processor plan hart).state ≡ opened_on plan (machine_on hart rest)
unfolding opened_processor opened_on
opened_same plan hart rest = refl

-- and its moment, with this left of the input, is the start of a run
pub begins : (core : Processor) (hart : Hart) (rest left : List ℕ) → core ≡ opened_processor core.plan hart → left ≡ rest →
    moment_of core left ≡ start_on core.plan (machine_on hart rest)
begins core hart rest left is same =
    let state : core.state ≡ opened_on core.plan (machine_on hart rest) = ap (λ (p : Processor). p.state) is ∙ opened_same core.plan hart rest in
    ap (λ (s : State). record { state = s; rest = left; output = [] }) state
    ∙ ap (λ (r : List ℕ). record { state = opened_on core.plan (machine_on hart rest); rest = r; output = [] }) same

-- every run from a machine is right
pub right : (plan : Plan) (x : Machine) (moves : List Move) → IsAccepted plan → length x.hart.regs ≡ 32 → IsRun plan (start_on plan x) moves →
    IsRight plan x moves
right plan x moves accepted wide allowed = record {
  allowed = allowed;
  refines = run_refines plan x moves accepted wide allowed;
  settles = settles plan x (moment_after plan x moves) accepted (kept-run plan x moves accepted wide allowed);
}

-- where a run has arrived by some moves that started on the machine
pub record ArrivesBy (shows : Reporting) (x : Machine) (moves : List Move) (begin now : RunPlace) : Type 0 where
  pub right : IsRight begin.core.plan x moves
  pub arrives : Arrives shows x (moment_after begin.core.plan x moves) (x.hart.retired + 1) (lines_after begin.core.plan x moves) begin now

-- a run that leads to a moment has arrived there
arrived : (limit : ℕ) (shows : Reporting) (hart : Hart) (rest left : List ℕ) (begin now : RunPlace) (trace : List Made) (last : Moment) →
    IsAccepted begin.core.plan → length hart.regs ≡ 32 → begin.core ≡ opened_processor begin.core.plan hart → begin.streams.input ≡ Some rest
    → IsTold begin.streams.input left → Leads begin.core.plan limit begin.streams.input (moment_of begin.core left) trace last →
    now.core ≡ in_state begin.core last.state → Leaves begin.streams now.streams last.rest last.output
    → Writes begin.report now.report (all_shown shows begin.core.plan 1 trace) → ArrivesBy shows (machine_on hart rest) (moves_of trace) begin now
arrived limit shows hart rest left begin now trace last accepted wide opens tells told leads core streams report =
    let plan : Plan = begin.core.plan in
    let x : Machine = machine_on hart rest in
    let same : moment_of begin.core left ≡ start_on plan x = begins begin.core hart rest left opens
    (subst (λ (o : Option (List ℕ)). IsTold o left) tells told) in
    let here : Leads plan limit (Some rest) (moment_of begin.core left) trace last = subst
    (λ (o : Option (List ℕ)). Leads plan limit o (moment_of begin.core left) trace last) tells leads in
    let there : Leads plan limit (Some rest) (start_on plan x) trace last = subst (λ (m : Moment). Leads plan limit (Some rest) m trace last) same here in
    let runs = leads-run plan limit rest (start_on plan x) trace last there in
    let is : IsRight plan x (moves_of trace) = right plan x (moves_of trace) accepted wide runs.0 in
    let texts = subst (λ (n : ℕ). AreTexts (n + 1) (lines plan (start_on plan x) (moves_of trace)) (all_shown show.retired plan 1 trace))
    (opened_retired plan x) (shown-lines plan limit rest (start_on plan x) 1 trace last there) in
    record {
      right = is;
      arrives = record {
        kept = kept-run plan x (moves_of trace) accepted wide runs.0;
        core = core ∙ ap (λ (m : Moment). in_state begin.core m.state) runs.1;
        streams = subst (λ (m : Moment). Leaves begin.streams now.streams m.rest m.output) runs.1 streams;
        trace = trace;
        texts = subst (λ (l : List Line). AreTexts (x.hart.retired + 1) l (all_shown show.retired plan 1 trace)) is.refines.lines texts;
        report = report;
      };
    }

-- so has a run that has reached a RunPlace
pub arrives-by : (limit : ℕ) (shows : Reporting) (hart : Hart) (rest : List ℕ) (begin now : RunPlace) → IsAccepted begin.core.plan → length hart.regs ≡ 32 →
    begin.core ≡ opened_processor begin.core.plan hart → begin.streams.input ≡ Some rest → (h : Reaches limit shows begin now)
    → ArrivesBy shows (machine_on hart rest) (moves_of h.trace) begin now
arrives-by limit shows hart rest begin now accepted wide opens tells h =
    arrived limit shows hart rest h.rest begin now h.trace h.last accepted wide opens tells h.told h.leads h.core h.streams h.report
