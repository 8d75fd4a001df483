-- A timed run: how far it has come, one more turn, and the run once it stops.
use Rattle.std.proofs.Common.{◌≡◌, ◌≢◌, ◌∙◌, refl, sym, ap, subst, ℕ, ◌+◌, ◌-◌, ◌^◌, ◌<◌, ◌≤◌, List, [], ◌∷◌, ◌++◌, length, Some, None, arith}
use Rattle.std.specs.Prelude.{slice_get}
use Rattle.run_options.specs.Limits.{most_limit, most_timed_limit}
use Rattle.run_options.specs.Reportings as show
use Rattle.run_options.specs.declared.guess_rule.GuessRule.{GuessRule}
use Rattle.rv_machine.specs.Streams.{Streams}
use Rattle.cf_layout.specs.Layout.{Plan}
use Rattle.cf_layout.specs.Accepted.{IsAccepted}
use Rattle.cf_bind.specs.declared.moves.Move.{Move}
use Rattle.cf_semantics.specs.moves.Holding.{paced}
use Rattle.cf_semantics.specs.state.Drained.{is_drained}
use Rattle.cf_semantics.specs.state.State.{State}
use Rattle.cf_core.specs.Processors.{Processor}
use Rattle.cf_report.specs.declared.tally.Tally.{Tally}
use Rattle.cf_sched.specs.Paces.{PaceCount, offered_by, stopped}
use Rattle.run_finishes.specs.declared.finish.Ran.{Ran as Answer}
use Rattle.run_finishes.specs.declared.finish.Ran.TheVariants as ran
use Rattle.cf_run.specs.Made.{CanCount, Made, moves_of, tally_of}
use Rattle.cf_run.specs.Moving.{RunPlace, run_place_of}
use Rattle.cf_run.specs.Policies.{Chooser, Picks, RunsPolicy, StopsAtPick, StopsPolicy, TakesPick, chooser, first_pick, fresh_chooser, later_picks, made_last, most_moves}
use Rattle.cf_run.specs.Reaching.{Reaches, no_tally}
use Rattle.cf_run.proofs.Bounds.{bound_grows, bound_number, bound_small, reached-bounded, reached-offered}
use Rattle.cf_run.proofs.ByPolicy.{policy-bounded, policy-sequential, turned-more, turned-picks, turned-trace}
use Rattle.cf_run.proofs.Coming.{turned-counted, turned-within}
use Rattle.cf_run.proofs.Ending.{policy-ends-sequentially}
use Rattle.cf_run.proofs.Runs.{can-count, none-trace, reached-none}
use Rattle.cf_run.proofs.Stopped.{offered-stopped, paced-stopped}
use Rattle.cf_timed.specs.declared.answer.Timed.{Timed}
use Rattle.cf_timed.specs.declared.timed_move.TimedMove.{TimedMove}
use Rattle.cf_timed.specs.Arrivals.{ComesTimed, IsBegun, LeadsTimed, SoFar, TimedPlace}
use Rattle.cf_timed.specs.Delays.{AreDelays}
use Rattle.cf_timed.specs.DelayedRuns.{DelayRule, delayed_at, timed_visits, visits_of}
use Rattle.cf_timed.specs.declared.step.TimedStep.{TimedStep}
use Rattle.cf_semantics.specs.declared.event.Event.{Event}
use Rattle.cf_timed.specs.Times.{done_after, greatest_time}
use Rattle.cf_timed.specs.Clocks.{AreKept, ClockKnows, IsClockOf, SiteTimes, capped, clocked, stamped, started}
use Rattle.cf_timed.specs.Earliest.{AreEarliest, TimedTurn, earliest, first_least, after_turn}
use Rattle.cf_timed.specs.TimedRuns.{CanRunTimed, RunsTimed, answer_of_timed, begins, timed_start}
use Rattle.cf_timed.specs.Turns.{MakesEarliest, StopsEarliest, made_as, pick_by, timed_by}
use Rattle.cf_timed.proofs.Arriving.{pick-is, picks-longer, so-far-more, timed-is, timed-there, tried-last}
use Rattle.cf_timed.proofs.Following.{follows_start, follows_tells}
use Rattle.cf_timed.proofs.Room.{offered_kept, one_of_all}

-- no pick yet
pub timed-first : (r : GuessRule) (rule : DelayRule) (limit : ℕ) (begin : RunPlace) (clock : SiteTimes) (held stages : ℕ) → begin.tally ≡ no_tally →
    clock ≡ started begin.core.plan rule → stages ≡ begin.core.plan.stages →
    held ≡ stopped stages 0 → ComesTimed r rule limit begin begin clock held
unfolding Picks AreEarliest greatest_time
timed-first r rule limit begin clock held stages none begun beside zero_held =
    let plan : Plan = begin.core.plan in
    let t : TimedTurn = timed_start begin.core.state in
    let e = none-trace limit show.report begin none in
    record {
      reached = reached-none limit show.report begin none;
      picks = [];
      turn = t;
      picked = subst (λ (trace : List Made). Picks first_pick later_picks plan (fresh_chooser r []) begin.core.state trace (chooser r [] 0)) (sym e) refl;
      so_far = subst (λ (trace : List Made). SoFar r plan rule t [] trace t clock) (sym e) (record {
        turn_is = refl;
        are_earliest = tt;
        size = refl;
        follows = rw begun (follows_start plan rule);
        early = omega arith;
      });
      held_is = zero_held ∙ ap (λ (n : ℕ). stopped n 0) beside;
      state_is = refl;
    }

pub first-trace : (r : GuessRule) (rule : DelayRule) (limit : ℕ) (begin : RunPlace) (clock : SiteTimes) (held stages : ℕ) (none : begin.tally ≡ no_tally)
    (begun : clock ≡ started begin.core.plan rule) (beside : stages ≡ begin.core.plan.stages) (zero_held : held ≡ stopped stages 0) →
    (timed-first r rule limit begin clock held stages none begun beside zero_held).reached.trace ≡ []
unfolding timed-first
first-trace r rule limit begin clock held stages none begun beside zero_held = none-trace limit show.report begin none

-- the layout is unchanged
same-plan : (limit : ℕ) (begin now : RunPlace) → Reaches limit show.report begin now → now.core.plan ≡ begin.core.plan
same-plan limit begin now h = ap (λ (p : Processor). p.plan) h.core

-- such a limit is also a limit of a run
timed-allowed : (limit : ℕ) → limit ≤ most_timed_limit → limit ≤ most_limit
timed-allowed limit few = omega (arith, few)

pub is-begun : (rule : DelayRule) (limit : ℕ) (begin : RunPlace) → IsAccepted begin.core.plan → length begin.core.state.regs ≡ 32 →
    CanRunTimed limit begin.core → AreDelays rule.spans → IsBegun rule limit begin
is-begun rule limit begin accepted wide can delays =
    record { accepted = accepted; wide = wide; is_opened = can.can_run.is_opened; delays = delays; few = can.few }

-- so few moves were made that no time exceeds 64 bits
pub timed-bounded : (r : GuessRule) (rule : DelayRule) (limit : ℕ) (begin now : RunPlace) (clock : SiteTimes)
    (held : ℕ) → IsBegun rule limit begin → ComesTimed r rule limit begin now clock held →
    now.core.state.retired ≤ limit → now.tally.moves ≤ most_moves begin.core.plan limit
timed-bounded r rule limit begin now clock held b c within =
    let a = reached-bounded r first_pick later_picks limit show.report begin now c.picks (chooser r [] c.turn.count) b.accepted b.wide b.is_opened c.reached
    c.picked in
    let g = bound_grows begin.core.plan (now.core.state.retired - begin.core.state.retired) limit (omega (arith, within)) in
    omega (arith, a, g)

counted : (limit : ℕ) (begin now : RunPlace) → (h : Reaches limit show.report begin now) → now.tally.moves ≡ length h.trace
unfolding tally_of
counted limit begin now h = ap (λ (t : Tally). t.moves) h.tally

pub timed-early : (r : GuessRule) (rule : DelayRule) (limit : ℕ) (begin now : RunPlace) (clock : SiteTimes)
    (held : ℕ) → IsBegun rule limit begin → (c : ComesTimed r rule limit begin now clock held) →
    now.core.state.retired ≤ limit → greatest_time c.turn.earlier + 1000 < 2 ^ 64
timed-early r rule limit begin now clock held b c within =
    let m = timed-bounded r rule limit begin now clock held b c within in
    let n = bound_number begin.core.plan limit most_timed_limit b.accepted b.few in
    let k = counted limit begin now c.reached in
    let y = c.so_far.early in
    omega (arith, m, n, k, y)

-- while the run goes on, a move is offered
pub timed-offered : (r : GuessRule) (rule : DelayRule) (limit : ℕ) (begin now : RunPlace) (clock : SiteTimes)
    (held : ℕ) → IsBegun rule limit begin → ComesTimed r rule limit begin now clock held →
    now.core.state.ending ≡ None → 0 < length (offered_by r now.core.plan held now.core.state)
timed-offered r rule limit begin now clock held b c unended =
    reached-offered r first_pick later_picks limit show.report begin now c.picks (chooser r [] c.turn.count) b.accepted b.wide b.is_opened c.reached c.picked
    unended r held

-- and the count of moves fits
pub timed-counted : (r : GuessRule) (rule : DelayRule) (limit : ℕ) (begin now : RunPlace) (clock : SiteTimes)
    (held : ℕ) → IsBegun rule limit begin → ComesTimed r rule limit begin now clock held →
    now.core.state.retired ≤ limit → now.tally.moves + 1 < 2 ^ 63
timed-counted r rule limit begin now clock held b c within =
    let m = timed-bounded r rule limit begin now clock held b c within in
    let s = bound_small begin.core.plan limit b.accepted (timed-allowed limit b.few) in
    omega (arith, m, s)

-- and each count of one more
pub timed-can-count : (r : GuessRule) (rule : DelayRule) (limit : ℕ) (begin now : RunPlace) (clock : SiteTimes)
    (held : ℕ) → IsBegun rule limit begin → ComesTimed r rule limit begin now clock held →
    now.core.state.retired ≤ limit → CanCount now.tally
timed-can-count r rule limit begin now clock held b c within =
    let few = timed-counted r rule limit begin now clock held b c within in
    can-count limit show.report begin now c.reached (omega (arith, few))

-- with the count of the turn the same moves are offered
offers-same : (r : GuessRule) (rule : DelayRule) (limit : ℕ) (begin now : RunPlace) (clock : SiteTimes)
    (held : ℕ) → (c : ComesTimed r rule limit begin now clock held) →
    offered_by r now.core.plan held now.core.state ≡ offered_by r now.core.plan c.turn.count now.core.state
offers-same r rule limit begin now clock held c =
    ap (λ (n : ℕ). offered_by r now.core.plan n now.core.state)
    (c.held_is ∙ ap (λ (p : Plan). stopped p.stages c.turn.count) (sym (same-plan limit begin now c.reached)))
    ∙ offered-stopped r now.core.plan c.turn.count now.core.state

-- the clock picks the move that finishes earliest
picks-earliest : (r : GuessRule) (rule : DelayRule) (limit : ℕ) (begin now : RunPlace) (clock : SiteTimes)
    (held : ℕ) → IsBegun rule limit begin → (c : ComesTimed r rule limit begin now clock held) →
    now.core.state.retired ≤ limit → pick_by clock r held now.core ≡ earliest r begin.core.plan rule c.turn
picks-earliest r rule limit begin now clock held b c within =
    ap (λ (s : State). first_least (capped (clocked clock s)) (offered_by r now.core.plan held s)) c.state_is
    ∙ ap (λ (p : Plan). first_least (capped (clocked clock c.turn.state)) (offered_by r p held c.turn.state)) (same-plan limit begin now c.reached)
    ∙ pick-is r begin.core.plan rule c.turn clock held b.accepted b.delays c.so_far.follows
    (timed-early r rule limit begin now clock held b c within) c.held_is

-- the clock is one of the layout
pub timed-clock : (r : GuessRule) (rule : DelayRule) (limit : ℕ) (begin now : RunPlace) (clock : SiteTimes) (held : ℕ) →
    ComesTimed r rule limit begin now clock held → IsClockOf now.core.plan clock
timed-clock r rule limit begin now clock held c =
    record { plan_is = c.so_far.follows.plan_is ∙ sym (same-plan limit begin now c.reached); room = c.so_far.follows.room }

-- a move that is offered, for which the clock has room
move-kept : (r : GuessRule) (limit : ℕ) (begin now : RunPlace) (held place : ℕ) (mv : Move) → IsAccepted begin.core.plan → Reaches limit show.report begin now →
    slice_get (offered_by r now.core.plan held now.core.state) place ≡ Some mv → AreKept begin.core.plan mv
move-kept r limit begin now held place mv acc h e =
    let there : slice_get (offered_by r begin.core.plan held now.core.state) place ≡ Some mv =
    subst (λ (p : Plan). slice_get (offered_by r p held now.core.state) place ≡ Some mv) (same-plan limit begin now h) e in
    one_of_all (AreKept begin.core.plan) (offered_by r begin.core.plan held now.core.state) place mv
    (offered_kept r begin.core.plan held now.core.state acc) there

-- one more turn
pub timed-more : (r : GuessRule) (rule : DelayRule) (limit : ℕ) (begin now new : RunPlace)
    (clock after : SiteTimes) (step : TimedStep) (held later : ℕ) → IsBegun rule limit begin →
    ComesTimed r rule limit begin now clock held → now.core.state.retired ≤ limit →
    MakesEarliest limit r now new held later clock after step → ComesTimed r rule limit begin new after later
timed-more r rule limit begin now new clock after step held later b c within m =
    let plan : Plan = begin.core.plan in
    let place : ℕ = pick_by clock r held now.core in
    let mv : Move = m.makes.takes.move in
    let made : Made = made_as mv m.makes.takes.event new.core.state in
    let at : Chooser (List ℕ) = chooser r (place ∷ []) c.turn.count in
    let same = offers-same r rule limit begin now clock held c in
    let t : TakesPick first_pick limit show.report at now new = record {
      goes = m.makes.takes.goes;
      move = mv;
      choice_is = ap (λ (moves : List Move). slice_get moves place) (sym same) ∙ m.makes.takes.choice_is;
      event = m.makes.takes.event;
      does = m.makes.takes.does;
    } in
    let longer = picks-longer plan r c.picks (place ∷ []) 0 begin.core.state c.reached.trace (chooser r [] c.turn.count) c.so_far.size c.picked in
    let trace_is = turned-trace first_pick limit show.report begin now new at c.reached t in
    record {
      reached = turned-more first_pick limit show.report begin now new at c.reached t;
      picks = c.picks ++ place ∷ [];
      turn = after_turn plan rule c.turn made;
      picked = turned-picks r first_pick later_picks limit show.report begin now new (c.picks ++ place ∷ []) at c.reached t longer;
      so_far = subst (λ (trace : List Made). SoFar r plan rule (timed_start begin.core.state) (c.picks ++ place ∷ []) trace (after_turn plan rule c.turn made)
          after) (sym trace_is)
          (so-far-more r plan rule (timed_start begin.core.state) c.picks c.reached.trace c.turn clock after place made b.delays
          c.so_far (timed-early r rule limit begin now clock held b c within)
          (move-kept r limit begin now held place mv b.accepted c.reached m.makes.takes.choice_is)
          (picks-earliest r rule limit begin now clock held b c within)
          (m.clock_is ∙ ap (λ (s : State). stamped clock mv (capped (clocked clock s) mv)) c.state_is));
      held_is = m.makes.count_is
          ∙ ap (λ (p : Plan). stopped p.stages (paced held mv m.makes.takes.event (is_drained new.core.state))) (same-plan limit begin now c.reached)
          ∙ ap (λ (n : ℕ). stopped plan.stages (paced n mv m.makes.takes.event (is_drained new.core.state))) c.held_is
          ∙ paced-stopped plan.stages c.turn.count mv m.makes.takes.event (is_drained new.core.state);
      state_is = refl;
    }

-- the moves after that turn, and what the clock said of the last one
pub trace-more : (r : GuessRule) (rule : DelayRule) (limit : ℕ) (begin now new : RunPlace) (clock after : SiteTimes) (step : TimedStep) (held later : ℕ)
    (b : IsBegun rule limit begin) (c : ComesTimed r rule limit begin now clock held) (within : now.core.state.retired ≤ limit)
    (m : MakesEarliest limit r now new held later clock after step) →
    (timed-more r rule limit begin now new clock after step held later b c within m).reached.trace
    ≡ c.reached.trace ++ made_as step.done.mv step.event new.core.state ∷ []
unfolding timed-more
trace-more r rule limit begin now new clock after step held later b c within m =
    turned-trace first_pick limit show.report begin now new _ c.reached _
    ∙ ap (λ (mv : Move). c.reached.trace ++ made_as mv m.makes.takes.event new.core.state ∷ []) (sym (ap (λ (done : TimedMove). done.mv) m.done_is))
    ∙ ap (λ (e : Event). c.reached.trace ++ made_as step.done.mv e new.core.state ∷ []) (sym m.event_is)

pub step-done : (r : GuessRule) (rule : DelayRule) (limit : ℕ) (begin now new : RunPlace) (clock after : SiteTimes) (step : TimedStep) (held later : ℕ) →
    IsBegun rule limit begin → (c : ComesTimed r rule limit begin now clock held) → now.core.state.retired ≤ limit →
    MakesEarliest limit r now new held later clock after step →
    step.done ≡ done_after begin.core.plan c.turn.earlier (delayed_at rule c.turn.state c.turn.earlier step.done.mv)
step-done r rule limit begin now new clock after step held later b c within m =
    let place : ℕ = pick_by clock r held now.core in
    let mv : Move = m.makes.takes.move in
    m.done_is ∙ ap (λ (s : State). timed_by clock s mv) c.state_is
    ∙ timed-is begin.core.plan rule c.turn clock mv b.delays c.so_far.follows
    (timed-early r rule limit begin now clock held b c within)
    (move-kept r limit begin now held place mv b.accepted c.reached m.makes.takes.choice_is)
    ∙ ap (λ (k : Move). done_after begin.core.plan c.turn.earlier (delayed_at rule c.turn.state c.turn.earlier k))
    (sym (ap (λ (done : TimedMove). done.mv) m.done_is))

-- at most as many instructions as the limit have retired, and the bound on further moves has fallen
pub timed-within : (r : GuessRule) (limit : ℕ) (now new : RunPlace) (held later : ℕ)
    (clock after : SiteTimes) (step : TimedStep) → MakesEarliest limit r now new held later clock after step → new.core.state.retired ≤ limit
timed-within r limit now new held later clock after step m =
    turned-within first_pick later_picks limit show.report now new (chooser r (pick_by clock r held now.core ∷ []) held) (chooser r [] later) m.makes

pub timed-nearer : (r : GuessRule) (rule : DelayRule) (limit : ℕ) (begin now new : RunPlace)
    (clock after : SiteTimes) (step : TimedStep) (held later : ℕ) → IsBegun rule limit begin →
    ComesTimed r rule limit begin now clock held → now.core.state.retired ≤ limit →
    MakesEarliest limit r now new held later clock after step →
    most_moves begin.core.plan limit - new.tally.moves < most_moves begin.core.plan limit - now.tally.moves
timed-nearer r rule limit begin now new clock after step held later b c within m =
    let a = timed-bounded r rule limit begin new after later b
    (timed-more r rule limit begin now new clock after step held later b c within m)
    (timed-within r limit now new held later clock after step m) in
    let k = turned-counted first_pick later_picks limit show.report now new (chooser r (pick_by clock r held now.core ∷ []) held) (chooser r [] later)
    m.makes in
    less (most_moves begin.core.plan limit) now.tally.moves new.tally.moves k a
  where
    less : (most now new : ℕ) → new ≡ now + 1 → new ≤ most → most - new < most - now
    less most now new e h = omega (arith, e, h)

-- also if the run was led there from another place
pub led-nearer : (limit : ℕ) (pace : PaceCount) (from now : TimedPlace) (most left : ℕ) → LeadsTimed limit pace from now →
    left < most - now.tally.moves → left < most - from.tally.moves
led-nearer limit pace from now most left leads nearer = let counted = leads.counted in omega (arith, counted, nearer)

-- the run, once it stops
pub record EndsTimed (r : GuessRule) (rule : DelayRule) (limit : ℕ) (begin new : RunPlace)
    (clock : SiteTimes) (answer : Answer) : Type 0 where
  pub picks : List ℕ
  pub moves : List Move
  pub runs : RunsPolicy r first_pick later_picks limit show.report begin new picks [] moves answer
  pub are_earliest : AreEarliest r begin.core.plan rule (timed_start begin.core.state) picks runs.reaches.trace
  pub told : ClockKnows begin.core.plan rule (timed_visits begin.core.plan rule (visits_of begin.core.state runs.reaches.trace)) clock

-- what the clock has recorded
clock-told : (r : GuessRule) (rule : DelayRule) (limit : ℕ) (begin now : RunPlace) (clock : SiteTimes)
    (held : ℕ) → IsAccepted begin.core.plan → (c : ComesTimed r rule limit begin now clock held) →
    ClockKnows begin.core.plan rule (timed_visits begin.core.plan rule (visits_of begin.core.state c.reached.trace)) clock
clock-told r rule limit begin now clock held acc c =
    subst (λ (moves : List TimedMove). ClockKnows begin.core.plan rule moves clock)
    (ap (λ (t : TimedTurn). t.earlier) c.so_far.turn_is
    ∙ sym (timed-there begin.core.plan rule (timed_start begin.core.state) c.reached.trace))
    (follows_tells begin.core.plan rule c.turn.earlier clock acc c.so_far.follows)

-- it stops before a pick
ends-before : (r : GuessRule) (rule : DelayRule) (limit : ℕ) (begin now new : RunPlace) (clock : SiteTimes)
    (held : ℕ) (answer : Answer) → IsAccepted begin.core.plan →
    (c : ComesTimed r rule limit begin now clock held) →
    StopsPolicy first_pick later_picks limit show.report (chooser r [] c.turn.count) now new [] answer →
    EndsTimed r rule limit begin new clock answer
ends-before r rule limit begin now new clock held answer acc c stops = record {
  picks = c.picks;
  moves = moves_of c.reached.trace ++ made_last first_pick later_picks limit show.report (chooser r [] c.turn.count) now new [] answer stops;
  runs = record { now = now; reaches = c.reached; at = chooser r [] c.turn.count; picks = c.picked; stops = stops; made = refl };
  are_earliest = c.so_far.are_earliest;
  told = clock-told r rule limit begin now clock held acc c;
}

-- it stops at a pick
ends-at : (r : GuessRule) (rule : DelayRule) (limit : ℕ) (begin now new : RunPlace) (clock : SiteTimes)
    (held place : ℕ) (answer : Answer) → IsAccepted begin.core.plan →
    (c : ComesTimed r rule limit begin now clock held) → place ≡ earliest r begin.core.plan rule c.turn →
    StopsPolicy first_pick later_picks limit show.report (chooser r (place ∷ []) c.turn.count) now new [] answer →
    EndsTimed r rule limit begin new clock answer
ends-at r rule limit begin now new clock held place answer acc c picked stops = record {
  picks = c.picks ++ place ∷ [];
  moves = moves_of c.reached.trace ++ made_last first_pick later_picks limit show.report (chooser r (place ∷ []) c.turn.count) now new [] answer stops;
  runs = record {
    now = now;
    reaches = c.reached;
    at = chooser r (place ∷ []) c.turn.count;
    picks = picks-longer begin.core.plan r c.picks (place ∷ []) 0 begin.core.state c.reached.trace (chooser r [] c.turn.count) c.so_far.size c.picked;
    stops = stops;
    made = refl;
  };
  are_earliest = tried-last r begin.core.plan rule (timed_start begin.core.state) c.picks c.reached.trace place c.so_far.are_earliest c.so_far.size
      (picked ∙ ap (earliest r begin.core.plan rule) c.so_far.turn_is);
  told = clock-told r rule limit begin now clock held acc c;
}

pub timed-ends : (r : GuessRule) (rule : DelayRule) (limit : ℕ) (begin now new : RunPlace)
    (clock : SiteTimes) (held : ℕ) (answer : Answer) → IsBegun rule limit begin →
    (c : ComesTimed r rule limit begin now clock held) → now.core.state.retired ≤ limit →
    StopsEarliest limit r now new held clock answer → EndsTimed r rule limit begin new clock answer
timed-ends r rule limit begin now new clock held answer b c within stops = go answer stops
  where
    place : ℕ
    place = pick_by clock r held now.core

    same : offered_by r now.core.plan held now.core.state ≡ offered_by r now.core.plan c.turn.count now.core.state
    same = offers-same r rule limit begin now clock held c

    picked : place ≡ earliest r begin.core.plan rule c.turn
    picked = picks-earliest r rule limit begin now clock held b c within

    at-pick : (answer : Answer) → StopsAtPick first_pick later_picks limit show.report (chooser r (place ∷ []) held) now new [] answer →
        StopsAtPick first_pick later_picks limit show.report (chooser r (place ∷ []) c.turn.count) now new [] answer
    at-pick answer h = record {
      goes = h.goes;
      move = h.move;
      choice_is = ap (λ (moves : List Move). slice_get moves place) (sym same) ∙ h.choice_is;
      later_is = refl;
      does = h.does;
    }

    go : (answer : Answer) → StopsEarliest limit r now new held clock answer → EndsTimed r rule limit begin new clock answer
    go (ran.Exit status) h = ends-before r rule limit begin now new clock held (ran.Exit status) b.accepted c (h.0, h.1, refl)
    go (ran.Trap cause pc detail) h =
        ends-before r rule limit begin now new clock held (ran.Trap cause pc detail) b.accepted c (h.0, h.1, refl)
    go ran.Limit h = ends-before r rule limit begin now new clock held ran.Limit b.accepted c (h.0, h.1, refl)
    go ran.ReadFault h =
        ends-at r rule limit begin now new clock held place ran.ReadFault b.accepted c picked (at-pick ran.ReadFault h)
    go ran.WriteFault h =
        ends-at r rule limit begin now new clock held place ran.WriteFault b.accepted c picked (at-pick ran.WriteFault h)
    go ran.ReportFault h = absurd h

-- its moves are those that led there
pub ends-trace : (r : GuessRule) (rule : DelayRule) (limit : ℕ) (begin now new : RunPlace) (clock : SiteTimes) (held : ℕ) (answer : Answer)
    (b : IsBegun rule limit begin) (c : ComesTimed r rule limit begin now clock held) (within : now.core.state.retired ≤ limit)
    (stops : StopsEarliest limit r now new held clock answer) →
    (timed-ends r rule limit begin now new clock held answer b c within stops).runs.reaches.trace ≡ c.reached.trace
unfolding timed-ends ends-before ends-at
ends-trace r rule limit begin now new clock held (ran.Exit status) b c within stops = refl
ends-trace r rule limit begin now new clock held (ran.Trap cause pc detail) b c within stops = refl
ends-trace r rule limit begin now new clock held ran.Limit b c within stops = refl
ends-trace r rule limit begin now new clock held ran.ReadFault b c within stops = refl
ends-trace r rule limit begin now new clock held ran.WriteFault b c within stops = refl
ends-trace r rule limit begin now new clock held ran.ReportFault b c within stops = absurd stops

-- so it meets its contract
pub runs-timed : (r : GuessRule) (rule : DelayRule) (limit : ℕ) (core new : Processor) (before after : Streams) (tally : Tally) (clock last : SiteTimes)
    (answer : Timed) → IsBegun rule limit (begins core before) →
    EndsTimed r rule limit (begins core before) (run_place_of new after None tally) clock (answer_of_timed answer) → last ≡ clock →
    RunsTimed r rule limit (begins core before) new after last tally.moves answer
runs-timed r rule limit core new before after tally clock last answer b h clock_is =
    let begin : RunPlace = begins core before in
    let place : RunPlace = run_place_of new after None tally in
    record {
      tally = tally;
      counted = refl;
      picks = h.picks;
      right = record {
        moves = h.moves;
        runs = h.runs;
        sequential = policy-sequential r first_pick later_picks limit show.report begin place h.picks [] h.moves (answer_of_timed answer) b.accepted b.wide
            h.runs;
      };
      are_earliest = h.are_earliest;
      told = rw clock_is h.told;
      ends = policy-ends-sequentially r first_pick later_picks limit show.report begin place h.picks [] h.moves (answer_of_timed answer) b.accepted b.wide
          h.runs;
    }

-- with the same moves
pub run-trace : (r : GuessRule) (rule : DelayRule) (limit : ℕ) (core new : Processor) (before after : Streams) (tally : Tally) (clock last : SiteTimes)
    (answer : Timed) (b : IsBegun rule limit (begins core before))
    (ends : EndsTimed r rule limit (begins core before) (run_place_of new after None tally) clock (answer_of_timed answer)) (clock_is : last ≡ clock) →
    (runs-timed r rule limit core new before after tally clock last answer b ends clock_is).right.runs.reaches.trace ≡ ends.runs.reaches.trace
unfolding runs-timed
run-trace r rule limit core new before after tally clock last answer b ends clock_is = refl

-- its report does not fail
pub never-reported : (limit : ℕ) (r : GuessRule) (now new : RunPlace) (held : ℕ) (clock : SiteTimes) (answer : Answer) →
    StopsEarliest limit r now new held clock answer → answer ≢ ran.ReportFault
never-reported limit r now new held clock answer stops e = subst (λ (a : Answer). StopsEarliest limit r now new held clock a) e stops

pub ends-bounded : (r : GuessRule) (rule : DelayRule) (limit : ℕ) (begin new : RunPlace)
    (clock : SiteTimes) (answer : Answer) → IsBegun rule limit begin →
    EndsTimed r rule limit begin new clock answer →
    new.tally.moves ≤ most_moves begin.core.plan (new.core.state.retired - begin.core.state.retired)
ends-bounded r rule limit begin new clock answer b h =
    policy-bounded r first_pick later_picks limit show.report begin new h.picks [] h.moves answer b.accepted b.wide b.is_opened h.runs

-- where the run stops it meets its contract, with the guess rule that was asked for
pub stops-timed : (r asked : GuessRule) (rule : DelayRule) (limit : ℕ) (core new : Processor) (before after : Streams) (now : RunPlace) (tally : Tally)
    (clock last : SiteTimes) (held : ℕ) (answer : Answer) (timed : Timed) → IsBegun rule limit (begins core before) → r ≡ asked →
    ComesTimed r rule limit (begins core before) now clock held → now.core.state.retired ≤ limit →
    StopsEarliest limit r now (run_place_of new after None tally) held clock answer × (last ≡ clock) →
    (answer ≢ ran.ReportFault → answer_of_timed timed ≡ answer) → RunsTimed asked rule limit (begins core before) new after last tally.moves timed
stops-timed r asked rule limit core new before after now tally clock last held answer timed b same c within stops told =
    let place : RunPlace = run_place_of new after None tally in
    let stops_so : StopsEarliest limit r now place held clock (answer_of_timed timed) =
    subst (λ (a : Answer). StopsEarliest limit r now place held clock a) (sym (told (never-reported limit r now place held clock answer stops.0))) stops.0 in
    subst (λ (g : GuessRule). RunsTimed g rule limit (begins core before) new after last tally.moves timed) same
    (runs-timed r rule limit core new before after tally clock last timed b
    (timed-ends r rule limit (begins core before) now place clock held (answer_of_timed timed) b c within stops_so) stops.1)
