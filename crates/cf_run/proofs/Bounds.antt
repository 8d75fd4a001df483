-- The run of a policy has a bounded number of moves, whatever its input exposes, and until it is over the policy is
-- offered a move.
use Rattle.std.proofs.Common.{◌≡◌, ℕ, suc, ◌+◌, ◌-◌, ◌*◌, ◌≤◌, ◌<◌, ◌^◌, List, [], ◌∷◌, None, All, refl, sym, ap, subst, ◌∙◌, length, arith}
use Rattle.std.proofs.lemmas.List.{length-map}
use Rattle.std.proofs.lemmas.Bool.Decides.{nat_tests}
use Rattle.run_options.specs.Limits.{most_limit}
use Rattle.run_options.specs.declared.guess_rule.GuessRule.{GuessRule}
use Rattle.run_options.specs.declared.reporting.Reporting.{Reporting}
use Rattle.rv_machine.specs.Machine.{Machine}
use Rattle.cf_layout.specs.Accepted.{IsAccepted, IsSiding}
use Rattle.cf_layout.specs.Layout.{SidingPlan, Plan}
use Rattle.cf_bind.specs.declared.moves.Move.{Move}
use Rattle.cf_semantics.specs.runs.Lines.{Line}
use Rattle.cf_semantics.specs.claims.Refines.{gained}
use Rattle.cf_semantics.specs.runs.Runs.{opened as opened_on, start as start_on}
use Rattle.cf_semantics.specs.state.State.{Moment}
use Rattle.cf_semantics.specs.claims.Weight.{most_cells, moves_per_issue}
use Rattle.theory_unknown_input.proofs.Invariant.{HoldsAnew}
use Rattle.theory_unknown_input.specs.Paced.{PacesTo}
use Rattle.theory_unknown_input.proofs.Pacing.{paces_leads, paced_bounded_anew}
use Rattle.theory_unknown_input.proofs.Theorems.{anew_started, holds_anew}
use Rattle.cf_core.specs.Processors.{Processor, in_state, opened_processor, IsOpened}
use Rattle.cf_sched.specs.Paces.{offered_by}
use Rattle.cf_run.specs.Going.{moment_of, Leads}
use Rattle.cf_run.specs.Headline.{machine_on}
use Rattle.cf_run.specs.Made.{Made, moves_of, tally_of}
use Rattle.cf_run.specs.Moving.{RunPlace}
use Rattle.cf_run.specs.Policies.{Chooser, fresh_chooser, Picks, most_moves}
use Rattle.cf_run.specs.Reaching.{Reaches}
use Rattle.cf_run.proofs.Arrived.{begins}
use Rattle.cf_run.proofs.ByRule.{ruled-some}
use Rattle.cf_run.proofs.Picking.{picks-paced}

-- an opened processor has the registers and the count of its hart
pub opened_wide : (core : Processor) (o : IsOpened core) → length core.state.regs ≡ 32 → length o.hart.regs ≡ 32
unfolding opened_processor opened_on
opened_wide core o wide = ap (λ (p : Processor). length p.state.regs) (sym o.is) ∙ wide

opened_count : (core : Processor) (o : IsOpened core) → core.state.retired ≡ o.hart.retired
unfolding opened_processor opened_on
opened_count core o = ap (λ (p : Processor). p.state.retired) o.is

-- the machine, with some input, of which the run of an opened processor is a run
abbrev pub machine_of : (core : Processor) → IsOpened core → List ℕ → Machine
machine_of core o rest = machine_on o.hart rest

-- the picks of a policy on an opened processor are a run under the hold rule
reached-paced : {P : Type 0} (rule : GuessRule) (picked : P → List Move → ℕ) (onward : P → List Move → P) (limit : ℕ) (shows : Reporting) (begin now : RunPlace)
    (policy : P)
    (at : Chooser P) → IsAccepted begin.core.plan → length begin.core.state.regs ≡ 32 → (o : IsOpened begin.core) → (h : Reaches limit shows begin now) →
    Picks picked onward begin.core.plan (fresh_chooser rule policy) begin.core.state h.trace at
    → (written : List Line) × PacesTo begin.core.plan 0 (start_on begin.core.plan (machine_of begin.core o h.rest)) (moves_of h.trace) h.last written
reached-paced {P} rule picked onward limit shows begin now policy at accepted wide o h picks =
    let plan : Plan = begin.core.plan in
    let x : Machine = machine_of begin.core o h.rest in
    let m : Moment = moment_of begin.core h.rest in
    let same : m ≡ start_on plan x = begins begin.core o.hart h.rest h.rest o.is refl in
    let leads : Leads plan limit begin.streams.input (start_on plan x) h.trace h.last = subst
    (λ (q : Moment). Leads plan limit begin.streams.input q h.trace h.last) same h.leads in
    let first : Picks picked onward plan (fresh_chooser rule policy) (start_on plan x).state h.trace at =
    subst (λ (q : Moment). Picks picked onward plan (fresh_chooser rule policy) q.state h.trace at) same picks in
    picks-paced picked onward plan limit begin.streams.input x [] (start_on plan x) h.trace h.last (fresh_chooser rule policy) at accepted
    (anew_started plan x (opened_wide begin.core o wide)) leads first

-- so it has a bounded number of moves
counted-moves : (trace : List Made) → (tally_of trace).moves ≡ length (moves_of trace)
unfolding tally_of
counted-moves trace = sym (length-map trace (λ made. made.move))

pub paced-bounded : (limit : ℕ) (shows : Reporting) (begin now : RunPlace) → IsAccepted begin.core.plan → length begin.core.state.regs ≡ 32 →
    (o : IsOpened begin.core) → (h : Reaches limit shows begin now) (written : List Line) →
    PacesTo begin.core.plan 0 (start_on begin.core.plan (machine_of begin.core o h.rest)) (moves_of h.trace) h.last written
    → now.tally.moves ≤ most_moves begin.core.plan (now.core.state.retired - begin.core.state.retired)
paced-bounded limit shows begin now accepted wide o h written paces =
    let plan : Plan = begin.core.plan in
    let x : Machine = machine_of begin.core o h.rest in
    let bound : length (moves_of h.trace) ≤ most_moves plan (gained x h.last.state) = paced_bounded_anew plan x (moves_of h.trace) h.last written accepted
    (opened_wide begin.core o wide) paces in
    let count : now.tally.moves ≡ length (moves_of h.trace) = ap (λ tally. tally.moves) h.tally ∙ counted-moves h.trace in
    let retired : h.last.state.retired ≡ now.core.state.retired = ap (λ (p : Processor). p.state.retired) (sym h.core) in
    let grown : gained x h.last.state ≡ now.core.state.retired - begin.core.state.retired = omega (arith, retired, opened_count begin.core o) in
    subst (λ (n : ℕ). n ≤ most_moves plan (now.core.state.retired - begin.core.state.retired)) (sym count)
    (subst (λ (r : ℕ). length (moves_of h.trace) ≤ most_moves plan r) grown bound)

-- and while it goes on a move is offered
pub paced-offered : (limit : ℕ) (shows : Reporting) (begin now : RunPlace) → IsAccepted begin.core.plan → length begin.core.state.regs ≡ 32 →
    (o : IsOpened begin.core) → (h : Reaches limit shows begin now) (written : List Line) →
    PacesTo begin.core.plan 0 (start_on begin.core.plan (machine_of begin.core o h.rest)) (moves_of h.trace) h.last written
    → now.core.state.ending ≡ None → (r : GuessRule) (count : ℕ) → 1 ≤ length (offered_by r now.core.plan count now.core.state)
paced-offered limit shows begin now accepted wide o h written paces unended r count =
    let plan : Plan = begin.core.plan in
    let x : Machine = machine_of begin.core o h.rest in
    let holds : HoldsAnew plan x written h.last = holds_anew plan x (moves_of h.trace) h.last written accepted (opened_wide begin.core o wide)
    (paces_leads plan 0 (start_on plan x) h.last (moves_of h.trace) written paces) in
    let P : Processor → Type 0 = λ p. p.state.ending ≡ None → 1 ≤ length (offered_by r p.plan count p.state) in
    let there : P (in_state begin.core h.last.state) = ruled-some r plan x h.last count written accepted holds in
    subst P (sym h.core) there unended

-- so a policy makes a bounded number of picks
pub reached-bounded : {P : Type 0} (rule : GuessRule) (picked : P → List Move → ℕ) (onward : P → List Move → P) (limit : ℕ) (shows : Reporting)
    (begin now : RunPlace) (policy : P)
    (at : Chooser P) → IsAccepted begin.core.plan → length begin.core.state.regs ≡ 32 → IsOpened begin.core → (h : Reaches limit shows begin now) →
    Picks picked onward begin.core.plan (fresh_chooser rule policy) begin.core.state h.trace at
    → now.tally.moves ≤ most_moves begin.core.plan (now.core.state.retired - begin.core.state.retired)
reached-bounded {P} rule picked onward limit shows begin now policy at accepted wide o h picks =
    let paces = reached-paced rule picked onward limit shows begin now policy at accepted wide o h picks in
    paced-bounded limit shows begin now accepted wide o h paces.0 paces.1

pub reached-offered : {P : Type 0} (rule : GuessRule) (picked : P → List Move → ℕ) (onward : P → List Move → P) (limit : ℕ) (shows : Reporting)
    (begin now : RunPlace) (policy : P)
    (at : Chooser P) → IsAccepted begin.core.plan → length begin.core.state.regs ≡ 32 → IsOpened begin.core → (h : Reaches limit shows begin now) →
    Picks picked onward begin.core.plan (fresh_chooser rule policy) begin.core.state h.trace at
    → now.core.state.ending ≡ None → (r : GuessRule) (count : ℕ) → 1 ≤ length (offered_by r now.core.plan count now.core.state)
reached-offered {P} rule picked onward limit shows begin now policy at accepted wide o h picks =
    let paces = reached-paced rule picked onward limit shows begin now policy at accepted wide o h picks in
    paced-offered limit shows begin now accepted wide o h paces.0 paces.1

-- no siding has more than eight cells
few_cells : (plan : Plan) (sidings : List SidingPlan) → All (IsSiding plan) sidings → most_cells sidings ≤ 8
unfolding most_cells
few_cells plan [] h = omega arith
few_cells plan (siding ∷ sidings) h =
    let one : siding.cells ≤ 8 = (h 0 siding (omega arith)).cells.1 in
    let more = few_cells plan sidings (λ k d inside. h (suc k) d (omega (arith, inside))) in
    grind (arith, nat_tests, one, more)

-- so the bound is at most this number
pub bound_number : (plan : Plan) (r most : ℕ) → IsAccepted plan → r ≤ most → most_moves plan r ≤ 128 * 272 * (most + 1)
unfolding moves_per_issue
bound_number plan r most accepted few =
    let n = accepted.stages.1 in
    let d = few_cells plan plan.sidings accepted.sidings in
    let k : moves_per_issue plan ≤ 272 = omega (arith, n, d) in
    product plan.stages (moves_per_issue plan) (r + 1) (most + 1) n k (omega (arith, few))
  where
    times : (a b c d : ℕ) → a ≤ b → c ≤ d → a * c ≤ b * d
    times a b c d f g = grind (arith, f, g)

    product : (a b c d : ℕ) → a ≤ 32 → b ≤ 272 → c ≤ d → 4 * a * b * c ≤ 128 * 272 * d
    product a b c d f g h =
        let one : 4 * a ≤ 128 = omega (arith, f) in
        let two : 4 * a * b ≤ 128 * 272 = times (4 * a) 128 b 272 one g in
        times (4 * a * b) (128 * 272) c d two h

-- so the moves can be counted
pub bound_small : (plan : Plan) (r : ℕ) → IsAccepted plan → r ≤ most_limit → most_moves plan r + 1 < 2 ^ 63
bound_small plan r accepted few = let n = bound_number plan r most_limit accepted few in omega (arith, n)

-- more retirements allow for more moves
pub bound_grows : (plan : Plan) (r s : ℕ) → r ≤ s → most_moves plan r ≤ most_moves plan s
bound_grows plan r s le = times (4 * plan.stages * moves_per_issue plan) (r + 1) (s + 1) (omega (arith, le))
  where
    times : (k a b : ℕ) → a ≤ b → k * a ≤ k * b
    times k a b e = grind (arith, e)
