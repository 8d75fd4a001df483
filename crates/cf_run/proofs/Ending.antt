-- A run that ends with the program's end or at the limit ends as the sequential machine does.
use Rattle.std.proofs.Common.{◌≡◌, ℕ, ◌+◌, ◌-◌, ◌<◌, List, [], ◌∷◌, Option, Some, None, refl, sym, ap, subst, ◌∙◌, length, arith}
use Rattle.run_options.specs.declared.guess_rule.GuessRule.{GuessRule}
use Rattle.run_options.specs.declared.reporting.Reporting.{Reporting}
use Rattle.rv_inst.specs.declared.isa.Isa.{Isa}
use Rattle.rv_machine.specs.After.{after}
use Rattle.rv_machine.specs.Hart.{Hart}
use Rattle.rv_machine.specs.Machine.{Machine}
use Rattle.rv_machine.specs.Outcome as outcome
use Rattle.rv_machine.specs.Step.{step}
use Rattle.rv_machine.specs.Streams.{Leaves, IsTold}
use Rattle.cf_layout.specs.Accepted.{IsAccepted}
use Rattle.cf_layout.specs.Layout.{Plan}
use Rattle.cf_bind.specs.declared.moves.Move.{Move}
use Rattle.cf_bind.specs.declared.passenger.End.{End}
use Rattle.cf_bind.specs.declared.passenger.End.TheVariants as ending
use Rattle.cf_semantics.specs.claims.Ahead.{served_count}
use Rattle.cf_semantics.specs.declared.event.Event.{Event}
use Rattle.cf_semantics.specs.moves.Bars.{bar}
use Rattle.cf_semantics.specs.claims.Determined.{IsSame}
use Rattle.cf_semantics.specs.moves.Events.{IsEvent}
use Rattle.cf_semantics.specs.moves.Instructions.{Stops, step_at, step_here, stepped}
use Rattle.cf_semantics.specs.state.Layouts.{isa_of}
use Rattle.cf_semantics.specs.runs.Lines.{Line, lines}
use Rattle.cf_semantics.specs.moves.Moves.{next}
use Rattle.cf_semantics.specs.claims.Refines.{Refines, gained}
use Rattle.cf_semantics.specs.runs.Runs.{IsRun, opened as opened_on, run, start as start_on}
use Rattle.cf_semantics.specs.state.State.{State, Moment}
use Rattle.theory_confluence.proofs.drains.Counted.{after_counts}
use Rattle.theory_confluence.proofs.drains.Rested.{drained_is}
use Rattle.theory_refinement.proofs.claims.Level.{retired_unserved}
use Rattle.theory_refinement.proofs.Theorems.{run_refines}
use Rattle.theory_unknown_input.specs.UnknownInput.{finding, GoesTo}
use Rattle.theory_unknown_input.proofs.Invariant.{HoldsAnew}
use Rattle.theory_unknown_input.proofs.Theorems.{holds_anew, refines_held}
use Rattle.cf_core.specs.Processors.{Processor, in_state, opened_processor}
use Rattle.run_finishes.specs.declared.finish.Ran.{Ran as Answer}
use Rattle.run_finishes.specs.declared.finish.Ran.TheVariants as ran
use Rattle.run_finishes.specs.declared.finish.Scripted.{Scripted}
use Rattle.run_finishes.specs.declared.finish.Scripted.TheVariants.{Ran, ScriptEnd, BadScript, BarredAt}
use Rattle.cf_run.specs.Ending.{IsAfterSteps, EndsUnderLimit, EndsAsMachine, EndsAlike, EndsSequentially}
use Rattle.cf_run.specs.Going.{moment_of, Leads}
use Rattle.cf_run.specs.Headline.{machine_on}
use Rattle.cf_run.specs.Made.{Made, moves_of}
use Rattle.cf_run.specs.Moving.{RunPlace}
use Rattle.cf_run.specs.Policies.{RunsPolicy}
use Rattle.cf_run.specs.Reaching.{Reaches, IsOver}
use Rattle.cf_run.specs.Scripts.{ScriptRun, RunsScript, ScriptStops}
use Rattle.cf_run.proofs.Arrived.{begins}
use Rattle.cf_run.proofs.Headline.{opened_here, opened_regs}
use Rattle.cf_run.proofs.Retirements.{ended-kept}
use Rattle.cf_run.proofs.Runs.{leads-run}
use Rattle.cf_run.proofs.Throughout.{goes-anew}
use Rattle.cf_run.proofs.UnknownInput.{LeadsAnew, leads-anew, left-untold}

-- where a run has arrived, it is level with the count at the limit, and the program ends below that
pub record Over (plan : Plan) (limit : ℕ) (s : State) : Type 0 where
  -- no call is ahead of the count there
  pub full : s.retired ≡ limit → served_count plan s ≡ 0
  pub below : (e : End) → s.ending ≡ Some e → s.retired < limit

-- this is so after a move that is made below the limit: the move retired an instruction, or ended the program and
-- retired none
pub over-made : (plan : Plan) (limit : ℕ) (m : Moment) (mv : Move) (e : Event) → bar plan m.state mv ≡ None → IsEvent plan m.state mv e →
    m.state.retired < limit → Over plan limit (next plan m mv).state
over-made plan limit m mv e free is low = record {
  full = λ there. retired_unserved plan m mv free (omega (arith, low, there));
  below = λ end ended. let same = ended-kept plan m mv e end free is ended in omega (arith, same, low);
}

-- and after all moves that are made below the limit
over-led : (plan : Plan) (limit : ℕ) (told : Option (List ℕ)) (m : Moment) (trace : List Made) (last : Moment) → Over plan limit m.state →
    Leads plan limit told m trace last → Over plan limit last.state
unfolding Leads
over-led plan limit told m [] last over leads = subst (λ (q : Moment). Over plan limit q.state) (sym leads) over
over-led plan limit told m (made ∷ trace) last over (rest, finds, is, leads) =
    let here : Moment = finding rest m in
    over-led plan limit told (next plan here made.move) trace last (over-made plan limit here made.move made.event is.allowed is.event is.below) leads

-- the step of a machine that ends the program in this way
step_ends : (isa : Isa) (at : Machine) (e : End) → step_here isa at ≡ Stops e → stepped (step isa at) ≡ Stops e
unfolding step_at
step_ends isa at e is = is

exits : (o : outcome.Outcome Machine) (status : ℕ) → stepped o ≡ Stops (ending.Exit status) → o ≡ outcome.Exit status
exits (outcome.Next m line) status e = absurd (cc)
exits (outcome.Trap cause pc detail) status e = absurd (cc)
exits (outcome.Exit other) status e = cc

traps : (o : outcome.Outcome Machine) (cause pc detail : ℕ) → stepped o ≡ Stops (ending.Trap cause pc detail) → o ≡ outcome.Trap cause pc detail
traps (outcome.Next m line) cause pc detail e = absurd (cc)
traps (outcome.Trap other at with) cause pc detail e = cc
traps (outcome.Exit other) cause pc detail e = absurd (cc)

-- what a moment that is level with the count shows
record Level (plan : Plan) (limit : ℕ) (begin new : RunPlace) (m : Moment) (answer : Answer) (at : Machine) : Type 0 where
  ends : EndsUnderLimit (isa_of plan) limit at answer
  retired : new.core.state.retired ≡ at.hart.retired
  regs : new.core.state.regs ≡ at.hart.regs
  streams : Leaves begin.streams new.streams at.rest at.output

-- no call is ahead if a run is over
unserved : (plan : Plan) (limit : ℕ) (x : Machine) (written : List Line) (m : Moment) (answer : Answer) → Refines plan x written m →
    (m.state.retired ≡ limit → served_count plan m.state ≡ 0) → IsOver limit m.state answer → served_count plan m.state ≡ 0
unserved plan limit x written m (ran.Exit status) r full over = (r.level (ending.Exit status) over).0
unserved plan limit x written m (ran.Trap cause pc detail) r full over = (r.level (ending.Trap cause pc detail) over).0
unserved plan limit x written m ran.Limit r full over = full over.1
unserved plan limit x written m ran.ReadFault r full over = absurd over
unserved plan limit x written m ran.WriteFault r full over = absurd over
unserved plan limit x written m ran.ReportFault r full over = absurd over

over_ends : (plan : Plan) (limit : ℕ) (x : Machine) (written : List Line) (m : Moment) (answer : Answer) (r : Refines plan x written m) →
    r.at.hart.retired ≡ m.state.retired → ((e : End) → m.state.ending ≡ Some e → m.state.retired < limit) → IsOver limit m.state answer →
    EndsUnderLimit (isa_of plan) limit r.at answer
over_ends plan limit x written m (ran.Exit status) r count below over = (
  subst (λ (n : ℕ). n < limit) (sym count) (below (ending.Exit status) over),
  exits (step (isa_of plan) r.at) status
      (step_ends (isa_of plan) r.at (ending.Exit status) (r.ends (ending.Exit status) over)),
)
over_ends plan limit x written m (ran.Trap cause pc detail) r count below over = (
  subst (λ (n : ℕ). n < limit) (sym count) (below (ending.Trap cause pc detail) over),
  traps (step (isa_of plan) r.at) cause pc detail
      (step_ends (isa_of plan) r.at (ending.Trap cause pc detail) (r.ends (ending.Trap cause pc detail) over)),
)
over_ends plan limit x written m ran.Limit r count below over = count ∙ over.1
over_ends plan limit x written m ran.ReadFault r count below over = absurd over
over_ends plan limit x written m ran.WriteFault r count below over = absurd over
over_ends plan limit x written m ran.ReportFault r count below over = absurd over

-- a machine leads to only one machine after a number of steps
one_after : (o : Option Machine) (a b : Machine) → o ≡ Some a → o ≡ Some b → a ≡ b
one_after o a b e f = cc

leveled : (plan : Plan) (limit : ℕ) (x : Machine) (written : List Line) (begin new : RunPlace) (m : Moment) (answer : Answer) (r : Refines plan x written m) →
    r.at.hart.retired ≡ m.state.retired → (m.state.retired ≡ limit → served_count plan m.state ≡ 0) →
    ((e : End) → m.state.ending ≡ Some e → m.state.retired < limit)
    → new.core ≡ in_state begin.core m.state → Leaves begin.streams new.streams m.rest m.output → IsOver limit m.state answer →
    Level plan limit begin new m answer r.at
leveled plan limit x written begin new m answer r count full below core streams over =
    let none : served_count plan m.state ≡ 0 = unserved plan limit x written m answer r full over in
    let steps : gained x m.state + served_count plan m.state ≡ gained x m.state = omega (arith, none) in
    let here : after (isa_of plan) x (gained x m.state) ≡ Some r.spoke.at = subst (λ (n : ℕ). after (isa_of plan) x n ≡ Some r.spoke.at) steps r.spoke.count in
    let same : r.spoke.at ≡ r.at = one_after (after (isa_of plan) x (gained x m.state)) r.spoke.at r.at here r.count in
    let rest : m.rest ≡ r.at.rest = r.spoke.rest ∙ ap (λ (k : Machine). k.rest) same in
    let output : m.output ≡ r.at.output = r.spoke.output ∙ ap (λ (k : Machine). k.output) same in
    record {
      ends = over_ends plan limit x written m answer r count below over;
      retired = ap (λ (p : Processor). p.state.retired) core ∙ sym count;
      regs = ap (λ (p : Processor). p.state.regs) core ∙ r.regs;
      streams = subst (λ (o : List ℕ). Leaves begin.streams new.streams r.at.rest o) output
          (subst (λ (i : List ℕ). Leaves begin.streams new.streams i m.output) rest streams);
    }

-- the processor as it starts on a machine: nothing is served, and the program has not ended
started_level : (plan : Plan) (x : Machine) → IsAccepted plan → length x.hart.regs ≡ 32 → served_count plan (opened_on plan x) ≡ 0
unfolding IsRun run
started_level plan x accepted wide = ((run_refines plan x [] accepted wide tt).level_drained (drained_is plan x (opened_on plan x) same)).0
  where
    same : IsSame (opened_on plan x) (opened_on plan x)
    same = record { cells = refl; sidings = refl; lane = refl; fetch = refl; regs = refl; mem = refl; retired = refl; ending = refl; failed = refl }

started_going : (plan : Plan) (x : Machine) → (opened_on plan x).ending ≡ None
unfolding opened_on
started_going plan x = refl

-- so it is level there
over-started : (plan : Plan) (limit : ℕ) (x : Machine) → IsAccepted plan → length x.hart.regs ≡ 32 → Over plan limit (opened_on plan x)
over-started plan limit x accepted wide = record {
  full = λ there. started_level plan x accepted wide;
  below = λ e ended. absurd (let none = started_going plan x in cc);
}

pub over-opened : (limit : ℕ) (core : Processor) (hart : Hart) → IsAccepted core.plan → length hart.regs ≡ 32 → core ≡ opened_processor core.plan hart →
    Over core.plan limit core.state
unfolding opened_processor
over-opened limit core hart accepted wide opens =
    subst (Over core.plan limit) (sym (ap (λ (p : Processor). p.state) opens)) (over-started core.plan limit (machine_on hart []) accepted wide)

-- and at the place to which a run leads
over-reached : (limit : ℕ) (shows : Reporting) (begin now : RunPlace) (hart : Hart) → IsAccepted begin.core.plan → length hart.regs ≡ 32 →
    begin.core ≡ opened_processor begin.core.plan hart → Reaches limit shows begin now → Over begin.core.plan limit now.core.state
over-reached limit shows begin now hart accepted wide opens h =
    subst (Over begin.core.plan limit) (sym (ap (λ (p : Processor). p.state) h.core))
    (over-led begin.core.plan limit begin.streams.input (moment_of begin.core h.rest) h.trace h.last
    (over-opened limit begin.core hart accepted wide opens) h.leads)

-- over an input whose remaining bytes are known
ends_told : (bound limit : ℕ) (shows : Reporting) (begin now : RunPlace) (hart : Hart) (rest : List ℕ) (answer : Answer) → IsAccepted begin.core.plan →
    length hart.regs ≡ 32 → begin.core ≡ opened_processor begin.core.plan hart → begin.streams.input ≡ Some rest → Reaches bound shows begin now →
    Over begin.core.plan limit now.core.state → IsOver limit now.core.state answer
    → (at : Machine) × (after (isa_of begin.core.plan) (machine_on hart rest) (now.core.state.retired - hart.retired) ≡ Some at)
    × Level begin.core.plan limit begin now (record { state = now.core.state; rest = at.rest; output = at.output }) answer at
ends_told bound limit shows begin now hart rest answer accepted wide opens tells h level over =
    let plan : Plan = begin.core.plan in
    let x : Machine = machine_on hart rest in
    let leads : Leads plan bound (Some rest) (start_on plan x) h.trace h.last =
    subst (λ (m : Moment). Leads plan bound (Some rest) m h.trace h.last) (begins begin.core hart rest h.rest opens
    (subst (λ (o : Option (List ℕ)). IsTold o h.rest) tells h.told))
    (subst (λ (o : Option (List ℕ)). Leads plan bound o (record { state = begin.core.state; rest = h.rest; output = [] }) h.trace h.last) tells h.leads) in
    let runs = leads-run plan bound rest (start_on plan x) h.trace h.last leads in
    let r : Refines plan x (lines plan (start_on plan x) (moves_of h.trace)) h.last = subst
    (λ (m : Moment). Refines plan x (lines plan (start_on plan x) (moves_of h.trace)) m) (sym runs.1)
    (run_refines plan x (moves_of h.trace) accepted wide runs.0) in
    let c = after_counts (isa_of plan) x r.at (gained x h.last.state) r.count in
    let count : r.at.hart.retired ≡ h.last.state.retired = let rises = r.rises in omega (arith, c, rises) in
    let state : now.core.state ≡ h.last.state = ap (λ (p : Processor). p.state) h.core in
    let o : Over plan limit h.last.state = subst (Over plan limit) state level in
    let l : Level plan limit begin now h.last answer r.at = leveled plan limit x (lines plan (start_on plan x) (moves_of h.trace)) begin now h.last answer r
    count o.full o.below h.core h.streams (subst (λ (s : State). IsOver limit s answer) state over) in (
      r.at,
      subst (λ (s : State). after (isa_of plan) x (s.retired - hart.retired) ≡ Some r.at) (sym state) r.count,
      record { ends = l.ends; retired = l.retired; regs = l.regs; streams = l.streams },
    )

-- over an input whose remaining bytes are unknown
ends_untold : (bound limit : ℕ) (shows : Reporting) (begin now : RunPlace) (hart : Hart) (answer : Answer) → IsAccepted begin.core.plan →
    length hart.regs ≡ 32 →
    begin.core ≡ opened_processor begin.core.plan hart → begin.streams.input ≡ None → Reaches bound shows begin now →
    Over begin.core.plan limit now.core.state →
    IsOver limit now.core.state answer
    → (at : Machine) × ((written : List Line) × GoesTo (isa_of begin.core.plan) (machine_on hart []) (now.core.state.retired - hart.retired) at written)
    × Level begin.core.plan limit begin now (record { state = now.core.state; rest = at.rest; output = at.output }) answer at
unfolding after
ends_untold bound limit shows begin now hart answer accepted wide opens none h level over =
    let plan : Plan = begin.core.plan in
    let x : Machine = machine_on hart h.rest in
    let there : Leads plan bound None (start_on plan x) h.trace h.last =
    subst (λ (m : Moment). Leads plan bound None m h.trace h.last) (begins begin.core hart h.rest h.rest opens refl)
    (subst (λ (o : Option (List ℕ)). Leads plan bound o (record { state = begin.core.state; rest = h.rest; output = [] }) h.trace h.last) none h.leads) in
    let leads : LeadsAnew plan (start_on plan x) 1 h.trace h.last = leads-anew plan bound (start_on plan x) 1 h.trace h.last there in
    let holds : HoldsAnew plan x leads.written h.last = holds_anew plan x (moves_of h.trace) h.last leads.written accepted wide leads.leads in
    let m : Moment = finding holds.rest h.last in
    let r : Refines plan holds.at [] m = refines_held plan holds.at m accepted holds.held holds.level in
    let same_count = holds.level in
    let still : gained holds.at m.state ≡ 0 = omega (arith, same_count) in
    let same : holds.at ≡ r.at = one_after (Some holds.at) holds.at r.at refl (subst (λ (n : ℕ). after (isa_of plan) holds.at n ≡ Some r.at) still r.count) in
    let count : r.at.hart.retired ≡ h.last.state.retired = ap (λ (k : Machine). k.hart.retired) (sym same) ∙ sym same_count in
    let state : now.core.state ≡ h.last.state = ap (λ (p : Processor). p.state) h.core in
    let o : Over plan limit h.last.state = subst (Over plan limit) state level in
    let l : Level plan limit begin now m answer r.at = leveled plan limit holds.at [] begin now m answer r count o.full o.below h.core
    (left-untold begin.streams now.streams h.last.rest holds.rest h.last.output none h.streams) (subst (λ (s : State). IsOver limit s answer) state over) in
    let goes : GoesTo (isa_of plan) (machine_on hart []) (gained x h.last.state) r.at leads.written =
    subst (λ (k : Machine). GoesTo (isa_of plan) (machine_on hart []) (gained x h.last.state) k leads.written) same
    (goes-anew (isa_of plan) hart h.rest (gained x h.last.state) holds.at leads.written holds.goes) in (
      r.at,
      (leads.written, subst (λ (s : State). GoesTo (isa_of plan) (machine_on hart []) (s.retired - hart.retired) r.at leads.written) (sym state) goes),
      record { ends = l.ends; retired = l.retired; regs = l.regs; streams = l.streams },
    )

-- a run that is over where it is level ends as the machine does
pub ends-level : (bound limit : ℕ) (shows : Reporting) (begin now : RunPlace) (hart : Hart) (answer : Answer) → IsAccepted begin.core.plan →
    length hart.regs ≡ 32 →
    begin.core ≡ opened_processor begin.core.plan hart → Reaches bound shows begin now → Over begin.core.plan limit now.core.state →
    IsOver limit now.core.state answer →
    EndsAsMachine limit hart begin now answer
ends-level bound limit shows begin now hart answer accepted wide opens h level over = go begin.streams.input refl
  where
    go : (o : Option (List ℕ)) → begin.streams.input ≡ o → EndsAsMachine limit hart begin now answer
    go (Some rest) tells =
        let e = ends_told bound limit shows begin now hart rest answer accepted wide opens tells h level over in
        record {
          at = e.0;
          comes = subst (λ (o : Option (List ℕ)). IsAfterSteps (isa_of begin.core.plan) o hart (now.core.state.retired - hart.retired) e.0) (sym tells) e.1;
          ends = e.2.ends;
          retired = e.2.retired;
          regs = e.2.regs;
          streams = e.2.streams;
        }
    go None none =
        let e = ends_untold bound limit shows begin now hart answer accepted wide opens none h level over in
        record {
          at = e.0;
          comes = subst (λ (o : Option (List ℕ)). IsAfterSteps (isa_of begin.core.plan) o hart (now.core.state.retired - hart.retired) e.0) (sym none) e.1;
          ends = e.2.ends;
          retired = e.2.retired;
          regs = e.2.regs;
          streams = e.2.streams;
        }

-- so does a run whose moves were all made below the limit
pub ends-sequentially : (limit : ℕ) (shows : Reporting) (begin now : RunPlace) (hart : Hart) (answer : Answer) → IsAccepted begin.core.plan →
    length hart.regs ≡ 32 →
    begin.core ≡ opened_processor begin.core.plan hart → Reaches limit shows begin now → IsOver limit now.core.state answer →
    EndsAsMachine limit hart begin now answer
ends-sequentially limit shows begin now hart answer accepted wide opens h over =
    ends-level limit limit shows begin now hart answer accepted wide opens h (over-reached limit shows begin now hart accepted wide opens h) over

-- the same for a run whose last RunPlace is that one
pub same_place : (limit : ℕ) (hart : Hart) (begin now new : RunPlace) (answer : Answer) → new ≡ now → EndsAsMachine limit hart begin now answer →
    EndsAsMachine limit hart begin new answer
same_place limit hart begin now new answer same e = subst (λ (p : RunPlace). EndsAsMachine limit hart begin p answer) (sym same) e

-- so does the run of a script
pub script-ends : (limit : ℕ) (shows : Reporting) (begin new : ScriptRun) (hart : Hart) (answer : Scripted) → IsAccepted begin.place.core.plan →
    length hart.regs ≡ 32 → begin.place.core ≡ opened_processor begin.place.core.plan hart → RunsScript limit shows begin new answer →
    EndsAlike limit hart begin.place new.place answer
unfolding ScriptStops
script-ends limit shows begin new hart (Ran (ran.Exit status)) accepted wide opens r = same_place limit hart begin.place r.now.place new.place (ran.Exit status)
    (ap (λ (s : ScriptRun). s.place) r.stops.1) (ends-sequentially limit shows begin.place r.now.place hart
    (ran.Exit status) accepted wide opens r.follows.reaches r.stops.0)
script-ends limit shows begin new hart (Ran (ran.Trap cause pc detail)) accepted wide opens r =
    same_place limit hart begin.place r.now.place new.place (ran.Trap cause pc detail) (ap (λ (s : ScriptRun). s.place) r.stops.1)
    (ends-sequentially limit shows begin.place r.now.place hart (ran.Trap cause pc detail) accepted wide opens r.follows.reaches r.stops.0)
script-ends limit shows begin new hart (Ran ran.Limit) accepted wide opens r = same_place limit hart begin.place r.now.place new.place ran.Limit
    (ap (λ (s : ScriptRun). s.place) r.stops.1) (ends-sequentially limit shows begin.place r.now.place hart ran.Limit accepted wide opens r.follows.reaches
    r.stops.0)
script-ends limit shows begin new hart (Ran ran.ReadFault) accepted wide opens r = tt
script-ends limit shows begin new hart (Ran ran.WriteFault) accepted wide opens r = tt
script-ends limit shows begin new hart (Ran ran.ReportFault) accepted wide opens r = tt
script-ends limit shows begin new hart ScriptEnd accepted wide opens r = tt
script-ends limit shows begin new hart (BadScript refusal) accepted wide opens r = tt
script-ends limit shows begin new hart (BarredAt line bar) accepted wide opens r = tt

-- and the run of a policy
pub policy-ends : {P : Type 0} (rule : GuessRule) (picked : P → List Move → ℕ) (onward : P → List Move → P) (limit : ℕ) (shows : Reporting)
    (begin new : RunPlace)
    (policy later : P)
    (moves : List Move) (hart : Hart) (answer : Answer) → IsAccepted begin.core.plan → length hart.regs ≡ 32 →
    begin.core ≡ opened_processor begin.core.plan hart →
    RunsPolicy rule picked onward limit shows begin new policy later moves answer → EndsAlike limit hart begin new (Ran answer)
policy-ends rule picked onward limit shows begin new policy later moves hart (ran.Exit status) accepted wide opens r =
    same_place limit hart begin r.now new (ran.Exit status) r.stops.1 (ends-sequentially limit shows begin r.now hart
    (ran.Exit status) accepted wide opens r.reaches r.stops.0)
policy-ends rule picked onward limit shows begin new policy later moves hart (ran.Trap cause pc detail) accepted wide opens r =
    same_place limit hart begin r.now new (ran.Trap cause pc detail) r.stops.1 (ends-sequentially limit shows begin r.now hart
    (ran.Trap cause pc detail) accepted wide opens r.reaches r.stops.0)
policy-ends rule picked onward limit shows begin new policy later moves hart ran.Limit accepted wide opens r =
    same_place limit hart begin r.now new ran.Limit r.stops.1 (ends-sequentially limit shows begin r.now hart ran.Limit accepted wide opens r.reaches r.stops.0)
policy-ends rule picked onward limit shows begin new policy later moves hart ran.ReadFault accepted wide opens r = tt
policy-ends rule picked onward limit shows begin new policy later moves hart ran.WriteFault accepted wide opens r = tt
policy-ends rule picked onward limit shows begin new policy later moves hart ran.ReportFault accepted wide opens r = tt

-- whatever hart the processor was opened on
pub script-ends-sequentially : (limit : ℕ) (shows : Reporting) (begin new : ScriptRun) (answer : Scripted) → IsAccepted begin.place.core.plan →
    length begin.place.core.state.regs ≡ 32 → RunsScript limit shows begin new answer → EndsSequentially limit begin.place new.place answer
unfolding EndsSequentially
script-ends-sequentially limit shows begin new answer accepted wide r plan hart opens =
    script-ends limit shows begin new hart answer accepted (ap length (sym (opened_regs begin.place.core plan hart opens)) ∙ wide)
    (opened_here begin.place.core plan hart opens) r

pub policy-ends-sequentially : {P : Type 0} (rule : GuessRule) (picked : P → List Move → ℕ) (onward : P → List Move →
    P) (limit : ℕ) (shows : Reporting) (begin new : RunPlace) (policy later : P) (moves : List Move) (answer : Answer) → IsAccepted begin.core.plan →
    length begin.core.state.regs ≡ 32 → RunsPolicy rule picked onward limit shows begin new policy later moves answer → EndsSequentially limit begin new
    (Ran answer)
unfolding EndsSequentially
policy-ends-sequentially rule picked onward limit shows begin new policy later moves answer accepted wide r plan hart opens =
    policy-ends rule picked onward limit shows begin new policy later moves hart answer accepted (ap length (sym (opened_regs begin.core plan hart opens)) ∙
    wide)
    (opened_here begin.core plan hart opens) r
