-- Making the kept moves: the first of them, if it is still due, is the move that finishes earliest of all that are offered; so
-- to make it is a turn of each run that has come there, after which the others are right.
use Rattle.std.proofs.Common.{◌≡◌, ◌≢◌, ◌∙◌, refl, sym, ap, subst, ℕ, ◌+◌, ◌-◌, ◌*◌, ◌^◌, ◌<◌, ◌≤◌, List, [], Some, None, Ok, Bool, true, false, cond, nat_eq, nat_lt, arith}
use Rattle.std.specs.Prelude.{◌&&◌, slice_get}
use Rattle.std.proofs.Math.Nat.{min-eq_left, min-le_right}
use Rattle.std.proofs.lemmas.Bool.Decides.{nat_tests}
use Rattle.std.proofs.lemmas.Option.{slice_get_within}
use Rattle.run_options.specs.Reportings as show
use Rattle.cf_io.specs.Puts.{Writes}
use Rattle.cf_io.proofs.Owing.{writes-nothing}
use Rattle.rv_machine.specs.Streams.{Streams}
use Rattle.cf_layout.specs.Layout.{Plan}
use Rattle.cf_bind.specs.declared.moves.Move.{Move}
use Rattle.cf_bind.specs.declared.moves.Move.TheVariants.{Leave, Serve}
use Rattle.cf_semantics.specs.declared.event.Event.{Event}
use Rattle.cf_semantics.specs.moves.Bars.{bar}
use Rattle.cf_semantics.specs.moves.Events.{IsEvent}
use Rattle.cf_semantics.specs.moves.Moves.{moved, next}
use Rattle.cf_semantics.specs.state.Drained.{is_drained}
use Rattle.cf_semantics.specs.state.State.{Moment, State}
use Rattle.cf_core.specs.Processors.{IsProcessor, Processor, after_move}
use Rattle.cf_core.specs.Stepping.{Makes}
use Rattle.cf_core.proofs.Steps.{move-makes}
use Rattle.cf_index.specs.Alone.{stands_alone}
use Rattle.cf_index.specs.Order.{kind_place}
use Rattle.cf_report.specs.declared.tally.Tally.{Tally}
use Rattle.cf_sched.specs.Paces.{PaceCount, holds_issue, offered_by, stopped}
use Rattle.cf_run.specs.Made.{CanCount, Made, counted_event, shown}
use Rattle.cf_run.specs.Moving.{MoveDoes, RunPlace, run_place_of}
use Rattle.cf_run.specs.Policies.{most_moves}
use Rattle.cf_run.specs.Reaching.{GoesOn}
use Rattle.cf_run.specs.Sweeps.{Keeps}
use Rattle.cf_run.proofs.ByRule.{ruled-allowed}
use Rattle.cf_run.proofs.Coming.{seen-count}
use Rattle.cf_run.proofs.Occupied.{same-pace}
use Rattle.cf_run.proofs.Runs.{can-count}
use Rattle.cf_run.proofs.Stopped.{offers-offered}
use Rattle.cf_run.proofs.Turning.{after_keeps, no_serve}
use Rattle.cf_timed.specs.declared.soonest.Due.{Due}
use Rattle.cf_timed.specs.declared.step.TimedStep.{TimedStep}
use Rattle.cf_timed.specs.Arrivals.{HasComeTimed, LeadsTimed, TimedPlace}
use Rattle.cf_timed.specs.Clocks.{AreKept, ClockedState, IsClockOf, SiteTimes, begin_time, clocked, delay_by, stamped}
use Rattle.cf_timed.specs.Delays.{AreDelays}
use Rattle.cf_timed.specs.DelayedRuns.{DelayRule}
use Rattle.cf_timed.specs.DueMoves.{AreDue, KeptMoves, is_serve, kept_after, none_kept, without_first}
use Rattle.cf_timed.specs.MakingDue.{IsMakingDue, MakesFirst}
use Rattle.cf_timed.specs.Soonest.{IsFirstDue, IsSoonest, NoIssueBy}
use Rattle.cf_timed.specs.Turns.{MakesEarliest, timed_by}
use Rattle.cf_timed.proofs.DueMoves.{due_skipped, left_first}
use Rattle.cf_timed.proofs.DueTurns.{due-turned}
use Rattle.cf_timed.proofs.NoIssue.{no_issue_stays, no_offer_later}
use Rattle.cf_timed.proofs.Room.{one_of_all}
use Rattle.cf_timed.proofs.Running.{timed-bounded, timed-clock, timed-counted, timed-more}
use Rattle.cf_timed.proofs.Sooner.{kept_soonest, soonest_offered}
use Rattle.cf_timed.proofs.Untouched.{has_sidings}

-- What holds where a run has come --

-- the layout is that of its start
same_begin : (limit : ℕ) (pace : PaceCount) (at : TimedPlace) → (h : HasComeTimed limit pace at) → at.core.plan ≡ h.begin.core.plan
same_begin limit pace at h = ap (λ (p : Processor). p.plan) h.comes.reached.core

-- the count of the pace has stopped where it stops
pace_stops : (limit : ℕ) (pace : PaceCount) (at : TimedPlace) → HasComeTimed limit pace at → stopped pace.stages pace.count ≡ pace.count
pace_stops limit pace at h =
    let same : pace.stages ≡ h.begin.core.plan.stages = h.stages ∙ ap (λ (p : Plan). p.stages) (same_begin limit pace at h) in
    let most = min-le_right h.comes.turn.count (2 * h.begin.core.plan.stages) in
    let counted = h.comes.held_is in
    min-eq_left (omega (arith, most, counted, same))

-- its moves can be counted, and there are at most as many as the limit permits
pub due_counts : (limit : ℕ) (pace : PaceCount) (at : TimedPlace) → HasComeTimed limit pace at → CanCount at.tally
due_counts limit pace at h =
    let few = timed-counted _ _ _ _ _ _ _ h.is_begun h.comes h.within in
    can-count _ _ _ _ h.comes.reached (omega (arith, few))

pub due_bounded : (limit : ℕ) (pace : PaceCount) (at : TimedPlace) → HasComeTimed limit pace at → at.tally.moves ≤ most_moves at.core.plan limit
due_bounded limit pace at h =
    subst (λ (plan : Plan). at.tally.moves ≤ most_moves plan limit) (sym (same_begin limit pace at h))
    (timed-bounded _ _ _ _ _ _ _ h.is_begun h.comes h.within)

-- the clock is one of the layout, with its delays
pub due_clock : (limit : ℕ) (pace : PaceCount) (at : TimedPlace) → HasComeTimed limit pace at → IsClockOf at.core.plan at.clock
due_clock limit pace at h = timed-clock _ _ _ _ _ _ _ h.comes

due_delays : (limit : ℕ) (pace : PaceCount) (at : TimedPlace) → HasComeTimed limit pace at → AreDelays at.clock.delays
due_delays limit pace at h = subst AreDelays (sym (ap (λ (r : DelayRule). r.spans) h.comes.so_far.follows.rule_is)) h.is_begun.delays

-- From one place to another --

pub leads_same : (limit : ℕ) (pace : PaceCount) (at : TimedPlace) → HasComeTimed limit pace at → LeadsTimed limit pace at at
leads_same limit pace at h = record { leads = λ rule begin streams begun comes. comes; within = h.within; plan = refl; counted = omega arith }

pub leads_on : (limit : ℕ) (pace : PaceCount) (now between new : TimedPlace) → LeadsTimed limit pace now between → LeadsTimed limit pace between new →
    LeadsTimed limit pace now new
leads_on limit pace now between new first second = record {
  leads = λ rule begin streams begun comes. second.leads rule begin streams begun (first.leads rule begin streams begun comes);
  within = second.within;
  plan = second.plan ∙ first.plan;
  counted = let a = first.counted in let b = second.counted in omega (arith, a, b);
}

come_led : (limit : ℕ) (pace : PaceCount) (now new : TimedPlace) → HasComeTimed limit pace now → LeadsTimed limit pace now new → HasComeTimed limit pace new
come_led limit pace now new h leads = record {
  rule = h.rule;
  begin = h.begin;
  streams = h.streams;
  is_begun = h.is_begun;
  comes = leads.leads h.rule h.begin h.streams h.is_begun h.comes;
  within = leads.within;
  stages = h.stages ∙ ap (λ (p : Plan). p.stages) (sym leads.plan);
}

-- The first of the kept moves --

-- a kept move that is still due
pub record IsKeptDue (at : TimedPlace) (kept : KeptMoves) (mv : Move) : Type 0 where
  pub first : Some mv ≡ slice_get kept.moves 0
  pub begins : begin_time at.clock mv < kept.time

pub is_kept_due : (at : TimedPlace) (kept : KeptMoves) (mv : Move) (begin time : ℕ) → Some mv ≡ slice_get kept.moves 0 → begin ≡ begin_time at.clock mv →
    time ≡ kept.time → begin < time → IsKeptDue at kept mv
is_kept_due at kept mv begin time first begins is less = record { first = first; begins = omega (arith, begins, is, less) }

-- with how long it takes
abbrev kept_due : TimedPlace → KeptMoves → Move → Due
kept_due at kept mv = record { mv = mv; delay = delay_by (clocked at.clock at.core.state) mv; time = kept.time }

first_kept_due : (at : TimedPlace) (kept : KeptMoves) (mv : Move) → IsKeptDue at kept mv →
    IsFirstDue (clocked at.clock at.core.state) kept (kept_due at kept mv)
first_kept_due at kept mv here = record { mv = here.first; begins = here.begins; delay = refl; time = refl }

-- it is the first that finishes earliest of all that are offered
kept_earliest : (limit : ℕ) (pace : PaceCount) (at : TimedPlace) (kept : KeptMoves) (mv : Move) → IsMakingDue limit pace at kept → IsKeptDue at kept mv →
    IsSoonest (clocked at.clock at.core.state) (offered_by pace.rule at.core.plan pace.count at.core.state) (kept_due at kept mv)
kept_earliest limit pace at kept mv h here =
    let plan : Plan = at.core.plan in
    let c : ClockedState = clocked at.clock at.core.state in
    let due : Due = kept_due at kept mv in
    subst (λ (moves : List Move). IsSoonest c moves due) (offers-offered pace plan at.core.state h.keeps.come.stages)
    (soonest_offered c pace pace.rule plan at.core.state (holds_issue pace) due refl refl
    (kept_soonest c pace.rule plan (holds_issue pace) kept (Some due) h.keeps.due (first_kept_due at kept mv here)
    (no_offer_later plan c pace.rule (holds_issue pace) kept.time h.no_issue)))

-- so nothing bars it
pub kept_allowed : (limit : ℕ) (pace : PaceCount) (at : TimedPlace) (kept : KeptMoves) (mv : Move) → IsMakingDue limit pace at kept → IsKeptDue at kept mv →
    bar at.core.plan at.core.state mv ≡ None
kept_allowed limit pace at kept mv h here =
    ruled-allowed pace.rule at.core.plan pace.count at.core.state _ mv (sym (kept_earliest limit pace at kept mv h here).mv)

-- the clock keeps the times of its sites
pub kept_sites : (plan : Plan) (c : ClockedState) (kept : KeptMoves) (mv : Move) → AreDue plan c kept → Some mv ≡ slice_get kept.moves 0 → AreKept plan mv
kept_sites plan c kept mv due first = one_of_all (AreKept plan) kept.moves 0 mv due.sites (sym first)

-- It is made --

-- it was made, counted and recorded by the clock; nothing entered at the bottom or left by it
pub record MakesKept (now new : TimedPlace) (kept : KeptMoves) (mv : Move) (event : Event) : Type 0 where
  pub after : 1 ≤ kind_place mv
  pub before : kind_place mv ≤ 10
  pub here : IsKeptDue now kept mv
  pub made : new.core ≡ after_move now.core mv
  pub is_event : IsEvent now.core.plan now.core.state mv event
  pub counted : new.tally ≡ counted_event now.tally mv event
  pub clock_is : new.clock ≡ stamped now.clock mv kept.time

-- nothing is shown of it
unshown : (plan : Plan) (n : ℕ) (made : Made) → [] ≡ shown show.report plan n made
unfolding shown
unshown plan n made = refl

does-unshown : (mv : Move) (old new : Processor) (streams : Streams) (tally later : Tally) (event : Event) → mv ≢ Serve → bar old.plan old.state mv ≡ None →
    new ≡ after_move old mv → IsEvent old.plan old.state mv event → later ≡ counted_event tally mv event →
    MoveDoes show.report mv (run_place_of old streams None tally) (run_place_of new streams None later) (Ok event)
unfolding MoveDoes
does-unshown mv old new streams tally later event other free is is_event counts = record {
  makes = record { allowed = free; makes = move-makes old new mv streams other is; is_event = is_event; tally = counts };
  report = subst (Writes None None) (unshown old.plan later.moves (record { move = mv; event = event; state = new.state })) (writes-nothing None);
}

-- where a run is, with what the streams expose
abbrev place_with : Streams → TimedPlace → RunPlace
place_with streams at = run_place_of at.core streams None at.tally

kept_does : (limit : ℕ) (pace : PaceCount) (now new : TimedPlace) (kept : KeptMoves) (mv : Move) (event : Event) (streams : Streams) →
    IsMakingDue limit pace now kept → MakesKept now new kept mv event →
    MoveDoes show.report mv (place_with streams now) (place_with streams new) (Ok event)
kept_does limit pace now new kept mv event streams h made =
    let before = made.before in
    does-unshown mv now.core new.core streams now.tally new.tally event (no_serve mv (omega (arith, before)))
    (kept_allowed limit pace now kept mv h made.here) made.made made.is_event made.counted

-- the step of the run
abbrev kept_step : TimedPlace → Move → Event → TimedStep
kept_step now mv event = record { event = event; done = timed_by now.clock now.core.state mv }

kept_turn : (limit : ℕ) (pace : PaceCount) (now new : TimedPlace) (kept : KeptMoves) (mv : Move) (event : Event) (streams : Streams) →
    IsMakingDue limit pace now kept → MakesKept now new kept mv event →
    MakesEarliest limit pace.rule (place_with streams now) (place_with streams new) pace.count pace.count now.clock new.clock (kept_step now mv event)
kept_turn limit pace now new kept mv event streams h made =
    let plan : Plan = now.core.plan in
    let soon = kept_earliest limit pace now kept mv h made.here in
    let free = kept_allowed limit pace now kept mv h made.here in
    record {
      makes = record {
        takes = record {
          goes = h.keeps.goes;
          move = mv;
          choice_is = sym soon.mv;
          event = event;
          does = kept_does limit pace now new kept mv event streams h made;
        };
        policy_is = refl;
        count_is = seen-count pace pace mv event (is_drained (moved plan now.core.state mv)) (is_drained new.core.state) plan.stages
            (same-pace plan now.core.state pace mv event made.after made.before free made.is_event (pace_stops limit pace now h.keeps.come))
            (ap (λ (p : Processor). is_drained p.state) (sym made.made)) h.keeps.come.stages;
      };
      clock_is = made.clock_is ∙ ap (λ (n : ℕ). stamped now.clock mv n) soon.timed.time;
      event_is = refl;
      done_is = refl;
    }

-- the program has not ended by it, nor has an instruction retired
kept_keeps : (now new : TimedPlace) (kept : KeptMoves) (mv : Move) (event : Event) → MakesKept now new kept mv event → Keeps now.core.state new.core.state
kept_keeps now new kept mv event made =
    let before = made.before in
    after_keeps now.core new.core mv (λ leaves. absurd (omega (arith, before, leaves))) made.made

kept_goes : (limit : ℕ) (now new : TimedPlace) (kept : KeptMoves) (mv : Move) (event : Event) → GoesOn limit now.core.state →
    MakesKept now new kept mv event → GoesOn limit new.core.state
kept_goes limit now new kept mv event goes made =
    let keeps = kept_keeps now new kept mv event made in
    let below = goes.below in
    let retired = keeps.retired in
    record { unended = keeps.ending ∙ goes.unended; below = omega (arith, below, retired) }

-- each run that has come there comes on by it
kept_leads : (limit : ℕ) (pace : PaceCount) (now new : TimedPlace) (kept : KeptMoves) (mv : Move) (event : Event) → IsMakingDue limit pace now kept →
    MakesKept now new kept mv event → LeadsTimed limit pace now new
kept_leads limit pace now new kept mv event h made = record {
  leads = λ rule begin streams begun comes.
      timed-more pace.rule rule limit begin (place_with streams now) (place_with streams new) now.clock new.clock (kept_step now mv event) pace.count
      pace.count begun comes h.keeps.come.within (kept_turn limit pace now new kept mv event streams h made);
  within = let below = (kept_goes limit now new kept mv event h.keeps.goes made).below in omega (arith, below);
  plan = ap (λ (p : Processor). p.plan) made.made;
  counted = let more : new.tally.moves ≡ now.tally.moves + 1 = ap (λ (t : Tally). t.moves) made.counted in omega (arith, more);
}

-- the others are right after it: they are those that are kept after a move that finished at their time
others_kept : (kept : KeptMoves) (mv : Move) → is_serve mv ≡ false → kept.time < 2 ^ 64 - 1 → kept ≡ kept_after kept mv kept.time
others_kept kept mv other below = by (is_serve mv) (nat_eq kept.time kept.time) (nat_lt kept.time (2 ^ 64 - 1)) other (grind (arith, nat_tests))
    (grind (arith, nat_tests, below))
  where
    by : (v s t : Bool) → v ≡ false → s ≡ true → t ≡ true → kept ≡ cond v none_kept (cond (s && t) kept none_kept)
    by false true true a b c = refl
    by true s t a b c = absurd (cc)
    by false false t a b c = absurd (cc)
    by false true false a b c = absurd (cc)

-- a move of these kinds is neither Serve nor a Leave
inside_plain : (plan : Plan) (s : State) (mv : Move) → kind_place mv ≤ 10 → (is_serve mv ≡ false) × (stands_alone plan s mv ≡ false)
inside_plain plan s Leave before = absurd (omega (arith, before))
inside_plain plan s Serve before = absurd (omega (arith, before))
inside_plain plan s _ before = (refl, refl)

kept_below : (plan : Plan) (c : ClockedState) (kept : KeptMoves) (mv : Move) → AreDue plan c kept → Some mv ≡ slice_get kept.moves 0 → kept.time < 2 ^ 64 - 1
kept_below plan c kept mv due first = due.below (slice_get_within kept.moves 0 mv (sym first))

others_due : (limit : ℕ) (pace : PaceCount) (now new : TimedPlace) (kept : KeptMoves) (mv : Move) (event : Event) → IsMakingDue limit pace now kept →
    IsProcessor now.core.plan now.core.state → MakesKept now new kept mv event →
    AreDue new.core.plan (clocked new.clock new.core.state) (without_first kept)
others_due limit pace now new kept mv event h facts made =
    let plan : Plan = now.core.plan in
    let c : ClockedState = clocked now.clock now.core.state in
    let streams : Streams = h.keeps.come.streams in
    let due = h.keeps.due in
    due-turned show.report mv event (place_with streams now) (place_with streams new) now.clock new.clock kept.time (without_first kept) (without_first kept)
    facts (due_clock limit pace now h.keeps.come) (due_delays limit pace now h.keeps.come) (kept_sites plan c kept mv due made.here.first)
    (kept_does limit pace now new kept mv event streams h made)
    (left_first plan c kept (without_first kept) (kept_due now kept mv) due (first_kept_due now kept mv made.here) refl) made.clock_is
    (others_kept (without_first kept) mv (inside_plain plan now.core.state mv made.before).0 (kept_below plan c kept mv due made.here.first))
    (kept_goes limit now new kept mv event h.keeps.goes made).unended

-- and no Issue comes to finish by their time
still_no_issue : (limit : ℕ) (pace : PaceCount) (now new : TimedPlace) (kept : KeptMoves) (mv : Move) (event : Event) → IsMakingDue limit pace now kept →
    IsProcessor now.core.plan now.core.state → MakesKept now new kept mv event → holds_issue pace ≡ false →
    NoIssueBy new.core.plan (clocked new.clock new.core.state) kept.time
still_no_issue limit pace now new kept mv event h facts made free =
    let plan : Plan = now.core.plan in
    let c : ClockedState = clocked now.clock now.core.state in
    let due = h.keeps.due in
    let before = made.before in
    let makes : Makes now.core new.core mv h.keeps.come.streams h.keeps.come.streams =
    move-makes now.core new.core mv h.keeps.come.streams (no_serve mv (omega (arith, before))) made.made in
    let m : Moment = record { state = now.core.state; rest = makes.rest; output = [] } in
    let there : (next plan m mv).state ≡ new.core.state = ap (λ (q : Moment). q.state) makes.is in
    let none : NoIssueBy plan (clocked (stamped now.clock mv kept.time) (next plan m mv).state) kept.time =
    no_issue_stays plan m now.clock mv kept.time (record {
      sidings = has_sidings plan now.core.state facts;
      is_clock = due_clock limit pace now h.keeps.come;
      delays = due_delays limit pace now h.keeps.come;
      allowed = kept_allowed limit pace now kept mv h made.here;
      plain = (inside_plain plan now.core.state mv before).1;
      kept = kept_sites plan c kept mv due made.here.first;
    }) (kept_below plan c kept mv due made.here.first) (h.no_issue free) in
    subst (λ (p : Plan). NoIssueBy p (clocked new.clock new.core.state) kept.time) (sym makes.plan)
    (subst (λ (k : SiteTimes). NoIssueBy plan (clocked k new.core.state) kept.time) (sym made.clock_is)
    (subst (λ (s : State). NoIssueBy plan (clocked (stamped now.clock mv kept.time) s) kept.time) there none))

-- so the run goes on with the others
pub first_made : (limit : ℕ) (pace : PaceCount) (now new : TimedPlace) (kept : KeptMoves) (mv : Move) (event : Event) → IsMakingDue limit pace now kept →
    IsProcessor now.core.plan now.core.state → MakesKept now new kept mv event → MakesFirst limit pace now new (without_first kept)
first_made limit pace now new kept mv event h facts made =
    let leads = kept_leads limit pace now new kept mv event h made in
    record {
      making = record {
        keeps = record {
          come = come_led limit pace now new h.keeps.come leads;
          goes = kept_goes limit now new kept mv event h.keeps.goes made;
          due = others_due limit pace now new kept mv event h facts made;
        };
        no_issue = still_no_issue limit pace now new kept mv event h facts made;
      };
      leads = leads;
    }

-- a first move that is no longer due is left out, and nothing changes
pub first_past : (limit : ℕ) (pace : PaceCount) (at : TimedPlace) (kept : KeptMoves) (mv : Move) → IsMakingDue limit pace at kept →
    Some mv ≡ slice_get kept.moves 0 → kept.time ≤ begin_time at.clock mv → MakesFirst limit pace at at (without_first kept)
first_past limit pace at kept mv h first past = record {
  making = record {
    keeps = record {
      come = h.keeps.come;
      goes = h.keeps.goes;
      due = due_skipped at.core.plan (clocked at.clock at.core.state) kept mv h.keeps.due first past;
    };
    no_issue = h.no_issue;
  };
  leads = leads_same limit pace at h.keeps.come;
}

-- Move after move --

-- a move that was made leaves fewer to be made
pub due_nearer : (limit : ℕ) (pace : PaceCount) (begin new : TimedPlace) (before : ℕ) → HasComeTimed limit pace new → LeadsTimed limit pace begin new →
    before < new.tally.moves → most_moves begin.core.plan limit - new.tally.moves < most_moves begin.core.plan limit - before
due_nearer limit pace begin new before come leads more =
    let most = subst (λ (plan : Plan). new.tally.moves ≤ most_moves plan limit) leads.plan (due_bounded limit pace new come) in
    less (most_moves begin.core.plan limit) before new.tally.moves more most
  where
    less : (most now new : ℕ) → now < new → new ≤ most → most - new < most - now
    less most now new a b = omega (arith, a, b)
