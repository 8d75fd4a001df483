-- The moves of a timed run are few, the clock has room for the sites of each, and none takes more than 1,000 ticks.
use Rattle.std.proofs.Common.{◌≡◌, ap, sym, subst, ℕ, ◌+◌, ◌-◌, ◌*◌, ◌^◌, ◌<◌, ◌≤◌, List, [], ◌∷◌, length, Option, arith}
use Rattle.std.specs.List.{AllByRecursion}
use Rattle.run_options.specs.Limits.{most_timed_limit}
use Rattle.run_options.specs.Reportings as show
use Rattle.run_options.specs.declared.guess_rule.GuessRule.{GuessRule}
use Rattle.cf_layout.specs.Layout.{Plan}
use Rattle.cf_layout.specs.Accepted.{IsAccepted}
use Rattle.cf_semantics.specs.moves.Moves.{next}
use Rattle.cf_semantics.specs.state.State.{Moment, State}
use Rattle.cf_core.specs.Processors.{Processor}
use Rattle.cf_report.specs.declared.tally.Tally.{Tally}
use Rattle.cf_sched.specs.Paces.{offered_by}
use Rattle.cf_run.specs.Going.{Leads, moment_of}
use Rattle.cf_run.specs.Made.{Made, moves_of, tally_of}
use Rattle.cf_run.specs.Moving.{RunPlace}
use Rattle.cf_run.specs.Policies.{Chooser, Picks, after_choice, first_pick, fresh_chooser, later_picks}
use Rattle.cf_run.specs.Reaching.{Reaches}
use Rattle.cf_run.proofs.AfterOutput.{next-retired}
use Rattle.cf_run.proofs.Bounds.{bound_grows, bound_number, reached-bounded}
use Rattle.cf_timed.specs.TimedRuns.{CanRunTimed}
use Rattle.cf_timed.specs.declared.timed_move.TimedMove.{TimedMove}
use Rattle.cf_timed.specs.Delays.{AreDelays}
use Rattle.cf_timed.specs.DelayedRuns.{DelayRule, Visit, delayed_at, delays_after, visits_of}
use Rattle.cf_timed.specs.Times.{done_after}
use Rattle.cf_timed.specs.Clocks.{AreKept}
use Rattle.cf_timed.proofs.Delaying.{delay_few}
use Rattle.cf_timed.proofs.Room.{offered_kept, one_of_all}

-- in a run at most as many instructions retire as the limit allows
leads-within : (plan : Plan) (limit : ℕ) (told_is : Option (List ℕ)) (m : Moment) (trace : List Made) (last : Moment) → Leads plan limit told_is m trace last →
    m.state.retired ≤ limit → last.state.retired ≤ limit
unfolding Leads
leads-within plan limit told_is m [] last leads within = subst (λ (q : Moment). q.state.retired ≤ limit) (sym leads) within
leads-within plan limit told_is m (made ∷ trace) last (rest, finds, is, leads) within =
    let r = next-retired plan (record m { rest = rest }) made.move in
    let b = is.below in
    leads-within plan limit told_is (next plan (record m { rest = rest }) made.move) trace last leads (omega (arith, r, b))

reached-within : (limit : ℕ) (begin now : RunPlace) → (h : Reaches limit show.report begin now) → begin.core.state.retired ≤ limit →
    now.core.state.retired ≤ limit
reached-within limit begin now h within =
    let l = leads-within begin.core.plan limit begin.streams.input (moment_of begin.core h.rest) h.trace h.last h.leads within in
    subst (λ (p : Processor). p.state.retired ≤ limit) (sym h.core) l

-- so few moves are made that no time exceeds 64 bits
pub moves-few : (r : GuessRule) (limit : ℕ) (begin now : RunPlace) (picks : List ℕ) (last : Chooser (List ℕ)) → IsAccepted begin.core.plan →
    length begin.core.state.regs ≡ 32 → CanRunTimed limit begin.core → (reached : Reaches limit show.report begin now) →
    Picks first_pick later_picks begin.core.plan (fresh_chooser r picks) begin.core.state reached.trace last → 1000 * (length reached.trace + 1) < 2 ^ 64
unfolding tally_of
moves-few r limit begin now picks last acc wide can reached picked =
    let few = can.few in
    let b = reached-bounded r first_pick later_picks limit show.report begin now picks last acc wide can.can_run.is_opened reached picked in
    let k = reached-within limit begin now reached can.can_run.within in
    let g = bound_grows begin.core.plan (now.core.state.retired - begin.core.state.retired) limit (omega (arith, k)) in
    let n = bound_number begin.core.plan limit most_timed_limit acc few in
    let c : now.tally.moves ≡ length reached.trace = ap (λ (t : Tally). t.moves) reached.tally in
    omega (arith, b, g, n, c)

-- the clock has room for the sites of each move
kept-trace : (plan : Plan) (at : Chooser (List ℕ)) (s : State) (trace : List Made) (last : Chooser (List ℕ)) → IsAccepted plan →
    Picks first_pick later_picks plan at s trace last → AllByRecursion (AreKept plan) (moves_of trace)
unfolding Picks
kept-trace plan at s [] last acc same = tt
kept-trace plan at s (made ∷ trace) last acc (pick, picks) = (
  one_of_all (AreKept plan) (offered_by at.rule plan at.count s) (first_pick at.policy (offered_by at.rule plan at.count s)) made.move
      (offered_kept at.rule plan at.count s acc) pick,
  kept-trace plan (after_choice later_picks plan at s made) made.state trace last acc picks,
)

kept-delays : (plan : Plan) (rule : DelayRule) (earlier : List TimedMove) (s : State) (trace : List Made) → AllByRecursion (AreKept plan) (moves_of trace) →
    AllByRecursion (λ d. AreKept plan d.mv) (delays_after plan rule earlier (visits_of s trace))
kept-delays plan rule earlier s [] kept = tt
kept-delays plan rule earlier s (made ∷ trace) kept =
    (kept.0, kept-delays plan rule (done_after plan earlier (delayed_at rule s earlier made.move) ∷ earlier) made.state trace kept.1)

pub moves-kept : (plan : Plan) (rule : DelayRule) (at last : Chooser (List ℕ)) (s : State) (trace : List Made) → IsAccepted plan →
    Picks first_pick later_picks plan at s trace last → AllByRecursion (λ d. AreKept plan d.mv) (delays_after plan rule [] (visits_of s trace))
moves-kept plan rule at last s trace acc picks = kept-delays plan rule [] s trace (kept-trace plan at s trace last acc picks)

-- no move takes more than 1,000 ticks
pub delays-short : (plan : Plan) (rule : DelayRule) (earlier : List TimedMove) (visits : List Visit) → AreDelays rule.spans →
    AllByRecursion (λ d. d.delay ≤ 1000) (delays_after plan rule earlier visits)
delays-short plan rule earlier [] few = tt
delays-short plan rule earlier (v ∷ visits) few =
    (delay_few rule v.state earlier v.mv few, delays-short plan rule (done_after plan earlier (delayed_at rule v.state earlier v.mv) ∷ earlier) visits few)

-- there are as many as were made
pub delays-length : (plan : Plan) (rule : DelayRule) (earlier : List TimedMove) (s : State) (trace : List Made) →
    length (delays_after plan rule earlier (visits_of s trace)) ≡ length trace
delays-length plan rule earlier s [] = omega arith
delays-length plan rule earlier s (made ∷ trace) =
    let r = delays-length plan rule (done_after plan earlier (delayed_at rule s earlier made.move) ∷ earlier) made.state trace in omega (arith, r)
