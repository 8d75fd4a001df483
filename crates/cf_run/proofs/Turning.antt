-- Turns of a policy: what a move leaves as it is, and where some turns lead; and what the rule picks in a sweep.
use Rattle.std.specs.Prelude.{IfSome, MatchOption, is_some, nat_le, not, slice_get, slice_set}
use Rattle.std.proofs.Common.{◌≡◌, ◌≢◌, ◌∙◌, sym, refl, ap, subst, ℕ, zero, suc, ◌+◌, ◌-◌, ◌*◌, ◌≤◌, ◌<◌, ◌^◌, List, [], ◌∷◌, length, Bool, true, false, cond, Option, Some, None, Ok, arith}
use Rattle.std.proofs.Math.Nat.{min-eq_left, min-le_right}
use Rattle.rand_pcg.specs.Lcg.{Lcg}
use Rattle.run_options.specs.declared.guess_rule.GuessRule.{GuessRule}
use Rattle.run_options.specs.declared.reporting.Reporting.{Reporting}
use Rattle.run_options.specs.declared.show.Show.{Show}
use Rattle.run_options.specs.declared.show.Show.TheVariants as shows
use Rattle.cf_io.specs.Puts.{Writes}
use Rattle.cf_io.proofs.Owing.{writes-nothing}
use Rattle.rv_machine.specs.Streams.{Streams, streams_of}
use Rattle.cf_layout.specs.Layout.{Plan, siding_of}
use Rattle.cf_bind.specs.declared.cell.Cell.{Cell}
use Rattle.cf_bind.specs.declared.passenger.End.{End}
use Rattle.cf_bind.specs.declared.passenger.Passenger.{Passenger}
use Rattle.cf_bind.specs.declared.moves.Move.{Move}
use Rattle.cf_bind.specs.declared.moves.Move.TheVariants as mv
use Rattle.cf_semantics.specs.declared.event.Event.{Event}
use Rattle.cf_semantics.specs.moves.Bars.{bar, last_op, running}
use Rattle.cf_semantics.specs.moves.Events.{IsEvent}
use Rattle.cf_semantics.specs.moves.Holding.{is_held}
use Rattle.cf_semantics.specs.moves.Moves.{emitted, launch_trap, launched, left, moved, operation, recovered, with_passenger, without_passenger, written}
use Rattle.cf_semantics.specs.state.Drained.{is_drained}
use Rattle.cf_semantics.specs.state.Layouts.{port}
use Rattle.cf_semantics.specs.state.Options.{on}
use Rattle.cf_semantics.specs.state.Passengers.{kind, trapped}
use Rattle.cf_semantics.specs.state.State.{State, cell_at, siding_at, with_cell, with_siding}
use Rattle.cf_core.specs.Asking.{AsksInput, AsksOutput}
use Rattle.cf_core.specs.Processors.{IsProcessor, Processor, after_move}
use Rattle.cf_core.proofs.Steps.{move-makes}
use Rattle.cf_index.specs.Allowed.{is_allowed, withheld}
use Rattle.cf_index.specs.GuessRules.{guided}
use Rattle.cf_index.specs.Left.{AreLeft, IsLowest, IsMadeAt}
use Rattle.cf_index.specs.Order.{kind_place, leave_place}
use Rattle.cf_index.specs.PickedFrom.{IsLast, IsPicked, IsPickedFrom, from_end}
use Rattle.cf_index.specs.Words.{goes_on}
use Rattle.cf_sched.specs.Paces.{PaceCount, holds_issue, offered_by, saw, stopped}
use Rattle.cf_sched.specs.Policies.{drawn_on, drawn_pick, round_on, round_pick}
use Rattle.cf_report.specs.declared.tally.Tally.{Tally}
use Rattle.run_finishes.specs.declared.finish.Ran.{Ran as Answer}
use Rattle.cf_run.specs.Asking.{SomeAsks}
use Rattle.cf_run.specs.Made.{CanCount, Made, counted_event, shown}
use Rattle.cf_run.specs.Moving.{RunPlace, MoveDoes, run_place_of}
use Rattle.cf_run.specs.Policies.{Turned, chooser, choice, most_moves}
use Rattle.cf_run.specs.Reaching.{GoesOn, IsOver}
use Rattle.cf_run.specs.Sweeps.{DrawsOn, DrawsTo, HasArrived, HasPicked, IsDrawing, IsSweeping, IsRecorded, RunsQuietly, Keeps, TurnsLead, PicksNext, PolicyPlace, RulePlace, SweepsFrom, SweepsOn, SweepsTo, TurnsOnce, TurnsTo, drawn_after, exposing, policy_at, rule_at, silent}
use Rattle.cf_run.proofs.ByRule.{ruled-allowed}
use Rattle.cf_run.proofs.Coming.{asked-comes, comes-bounded, comes-counted, comes-more, comes-offered, seen-count, turned-counted, turned-plan, turned-within}
use Rattle.cf_run.proofs.Occupied.{same-pace}
use Rattle.cf_run.proofs.Runs.{can-count}

-- What is unchanged --

on_keeps : {X : Type 0} (o : Option X) (s : State) (f : X → State) → ((x : X) → Keeps s (f x)) → Keeps s (on o s f)
on_keeps None s f all = record { ending = refl; retired = refl }
on_keeps (Some x) s f all = all x

emitted_keeps : (s : State) (n : ℕ) (lane : List ℕ) (c : Cell) → Keeps s (emitted s n lane c)
emitted_keeps s n [] c = record { ending = refl; retired = refl }
emitted_keeps s n (r ∷ lane) c = record { ending = refl; retired = refl }

launched_keeps : (plan : Plan) (s : State) (i : ℕ) (c : Cell) (p : Passenger) → Keeps s (launched plan s i c p)
launched_keeps plan s i c p = of (launch_trap s p)
  where
    of : (trap : Option End) → Keeps s (on trap
        (on (siding_of plan (kind p)) s (λ k.
        with_siding (with_cell s i (with_passenger c (record p { launched = true }))) k (slice_set (siding_at s k) 0 (Some (operation p)))))
        (λ e. with_cell s i (with_passenger c (trapped p e))))
    of None = on_keeps (siding_of plan (kind p)) s _ (λ k. record { ending = refl; retired = refl })
    of (Some e) = record { ending = refl; retired = refl }

recovered_keeps : (plan : Plan) (s : State) (i : ℕ) (c : Cell) (p : Passenger) → Keeps s (recovered plan s i c p)
recovered_keeps plan s i c p =
    on_keeps (siding_of plan (kind p)) s _ (λ k. on_keeps (last_op (siding_at s k)) s _ (λ op. record { ending = refl; retired = refl }))

moved_keeps : (plan : Plan) (s : State) (m : Move) → kind_place m ≢ leave_place → Keeps s (moved plan s m)
unfolding moved
moved_keeps plan s (mv.Issue g) other =
    on_keeps (cell_at s.cells 1) s _ (λ c. on_keeps (running s.fetch) s _ (λ pc. record { ending = refl; retired = refl }))
moved_keeps plan s mv.Emit other = on_keeps (cell_at s.cells plan.stages) s _ (λ c. emitted_keeps s plan.stages s.lane c)
moved_keeps plan s (mv.Climb i) other =
    on_keeps (cell_at s.cells i) s _ (λ c. on_keeps (cell_at s.cells (i + 1)) s _ (λ d. record { ending = refl; retired = refl }))
moved_keeps plan s (mv.Fall i) other =
    on_keeps (cell_at s.cells i) s _ (λ c. on_keeps (cell_at s.cells (i - 1)) s _ (λ d. record { ending = refl; retired = refl }))
moved_keeps plan s (mv.Meet i) other =
    on_keeps (cell_at s.cells i) s _ (λ c. on_keeps c.passenger s _ (λ p. on_keeps c.packet s _ (λ k. record { ending = refl; retired = refl })))
moved_keeps plan s (mv.Execute i) other =
    on_keeps (cell_at s.cells i) s _ (λ c. on_keeps c.passenger s _ (λ p. record { ending = refl; retired = refl }))
moved_keeps plan s (mv.Send i) other =
    on_keeps (cell_at s.cells i) s _ (λ c. on_keeps c.passenger s _ (λ p. record { ending = refl; retired = refl }))
moved_keeps plan s (mv.Launch i) other =
    on_keeps (cell_at s.cells i) s _ (λ c. on_keeps c.passenger s _ (λ p. launched_keeps plan s i c p))
moved_keeps plan s (mv.Slide k c) other = on_keeps (slice_get (siding_at s k) c) s _ (λ o. record { ending = refl; retired = refl })
moved_keeps plan s mv.Access other = on_keeps (last_op (siding_at s (port plan))) s _ (λ op. record { ending = refl; retired = refl })
moved_keeps plan s (mv.Recover i) other =
    on_keeps (cell_at s.cells i) s _ (λ c. on_keeps c.passenger s _ (λ p. recovered_keeps plan s i c p))
moved_keeps plan s mv.Leave other = absurd (other refl)
moved_keeps plan s mv.Exit other =
    on_keeps (cell_at s.cells 1) s _ (λ c. on_keeps c.packet s _ (λ k. record { ending = refl; retired = refl }))
moved_keeps plan s mv.Serve other = record { ending = refl; retired = refl }

-- and neither the input nor the output has failed
left_works : (s : State) (n : ℕ) (c : Cell) (p : Passenger) → (left s n c p).failed ≡ s.failed
left_works s n c p = by p.dead p.ending
  where
    by : (dead : Bool) (o : Option End) → (cond dead (with_cell s n (without_passenger c)) (on o
        (record (with_cell s n (without_passenger c)) { regs = written s.regs p.dst; retired = s.retired + 1 })
        (λ e. record (with_cell s n (without_passenger c)) { ending = Some e }))).failed ≡ s.failed
    by true o = refl
    by false None = refl
    by false (Some e) = refl

on_works : {X : Type 0} (o : Option X) (s : State) (f : X → State) → ((x : X) → (f x).failed ≡ s.failed) → (on o s f).failed ≡ s.failed
on_works None s f all = refl
on_works (Some x) s f all = all x

emitted_works : (s : State) (n : ℕ) (lane : List ℕ) (c : Cell) → (emitted s n lane c).failed ≡ s.failed
emitted_works s n [] c = refl
emitted_works s n (r ∷ lane) c = refl

launched_works : (plan : Plan) (s : State) (i : ℕ) (c : Cell) (p : Passenger) → (launched plan s i c p).failed ≡ s.failed
launched_works plan s i c p = of (launch_trap s p)
  where
    of : (trap : Option End) → (on trap
        (on (siding_of plan (kind p)) s (λ k.
        with_siding (with_cell s i (with_passenger c (record p { launched = true }))) k (slice_set (siding_at s k) 0 (Some (operation p)))))
        (λ e. with_cell s i (with_passenger c (trapped p e)))).failed ≡ s.failed
    of None = on_works (siding_of plan (kind p)) s _ (λ k. refl)
    of (Some e) = refl

moved_works : (plan : Plan) (s : State) (m : Move) → (moved plan s m).failed ≡ s.failed
unfolding moved
moved_works plan s (mv.Issue g) = on_works (cell_at s.cells 1) s _ (λ c. on_works (running s.fetch) s _ (λ pc. refl))
moved_works plan s mv.Emit = on_works (cell_at s.cells plan.stages) s _ (λ c. emitted_works s plan.stages s.lane c)
moved_works plan s (mv.Climb i) = on_works (cell_at s.cells i) s _ (λ c. on_works (cell_at s.cells (i + 1)) s _ (λ d. refl))
moved_works plan s (mv.Fall i) = on_works (cell_at s.cells i) s _ (λ c. on_works (cell_at s.cells (i - 1)) s _ (λ d. refl))
moved_works plan s (mv.Meet i) = on_works (cell_at s.cells i) s _ (λ c. on_works c.passenger s _ (λ p. on_works c.packet s _ (λ k. refl)))
moved_works plan s (mv.Execute i) = on_works (cell_at s.cells i) s _ (λ c. on_works c.passenger s _ (λ p. refl))
moved_works plan s (mv.Send i) = on_works (cell_at s.cells i) s _ (λ c. on_works c.passenger s _ (λ p. refl))
moved_works plan s (mv.Launch i) = on_works (cell_at s.cells i) s _ (λ c. on_works c.passenger s _ (λ p. launched_works plan s i c p))
moved_works plan s (mv.Slide k c) = on_works (slice_get (siding_at s k) c) s _ (λ o. refl)
moved_works plan s mv.Access = on_works (last_op (siding_at s (port plan))) s _ (λ op. refl)
moved_works plan s (mv.Recover i) = on_works (cell_at s.cells i) s _ (λ c. on_works c.passenger s _ (λ p.
    on_works (siding_of plan (kind p)) s _ (λ k. on_works (last_op (siding_at s k)) s _ (λ op. refl))))
moved_works plan s mv.Leave = on_works (cell_at s.cells plan.stages) s _ (λ c. on_works c.passenger s _ (λ p. left_works s plan.stages c p))
moved_works plan s mv.Exit = on_works (cell_at s.cells 1) s _ (λ c. on_works c.packet s _ (λ k. refl))
moved_works plan s mv.Serve = refl

abbrev reporting_of : Show → Option ℕ → Reporting
reporting_of show every = record { show = show; every = every }

-- so a move of a sweep leaves them
pub after_keeps : (old new : Processor) (m : Move) → kind_place m ≢ leave_place → new ≡ after_move old m → Keeps old.state new.state
after_keeps old new m other is = subst (λ (p : Processor). Keeps old.state p.state) (sym is) (moved_keeps old.plan old.state m other)

after_works : (old new : Processor) (m : Move) → new ≡ after_move old m → new.state.failed ≡ old.state.failed
after_works old new m is = ap (λ (p : Processor). p.state.failed) is ∙ moved_works old.plan old.state m

-- it is not Serve
pub no_serve : (m : Move) → kind_place m ≤ 12 → m ≢ mv.Serve
no_serve m early is = let late = ap kind_place is in absurd (omega (arith, early, late))

-- and nothing is shown of it
unshown : (plan : Plan) (n : ℕ) (made : Made) → [] ≡ shown silent plan n made
unfolding shown
unshown plan n made = refl

does_unshown : (m : Move) (old new : Processor) (streams : Streams) (report : Option (List ℕ)) (tally later : Tally) (e : Event) →
    m ≢ mv.Serve → bar old.plan old.state m ≡ None → new ≡ after_move old m → IsEvent old.plan old.state m e → later ≡ counted_event tally m e →
    MoveDoes silent m (run_place_of old streams report tally) (run_place_of new streams report later) (Ok e)
unfolding MoveDoes
does_unshown m old new streams report tally later e other free is event counts = record {
  makes = record { allowed = free; makes = move-makes old new m streams other is; is_event = event; tally = counts };
  report = subst (Writes report report) (unshown old.plan later.moves (record { move = m; event = e; state = new.state })) (writes-nothing report);
}

-- What is picked --

-- the move that is picked is the rule's choice
chosen_so : (rule : GuessRule) (plan : Plan) (count : ℕ) (s : State) (last : Option Move) (m : Move) →
    IsPicked rule (is_held plan count) plan s last m → choice round_pick plan (chooser rule last count) s ≡ Some m
unfolding offered_by
chosen_so rule plan count s last m picked = picked

-- so nothing bars it
pub picked_free : (rule : GuessRule) (plan : Plan) (count : ℕ) (s : State) (last : Option Move) (m : Move) →
    IsPicked rule (is_held plan count) plan s last m → bar plan s m ≡ None
picked_free rule plan count s last m picked = ruled-allowed rule plan count s _ m (chosen_so rule plan count s last m picked)

-- once a choice of a policy is made, counted and recorded by the pace, the policy has made one turn
chosen_turn : {P : Type 0} (picked : P → List Move → ℕ) (onward : P → List Move → P) (limit : ℕ) (now : PolicyPlace P) (core : Processor) (m : Move)
    (later : P) (pace : PaceCount) (tally : Tally) (e : Event) (seen : Bool) →
    m ≢ mv.Serve → RunsQuietly picked onward limit now →
    choice picked now.core.plan (chooser now.pace.rule now.policy now.pace.count) now.core.state ≡ Some m →
    later ≡ onward now.policy (offered_by now.pace.rule now.core.plan now.pace.count now.core.state) → core ≡ after_move now.core m →
    IsEvent now.core.plan now.core.state m e → tally ≡ counted_event now.tally m e → pace ≡ saw now.pace m e seen → seen ≡ is_drained core.state →
    TurnsOnce picked onward limit silent now (policy_at core later pace tally)
chosen_turn picked onward limit now core m later pace tally e seen other ready chosen goes_to is event counts told drained =
    let plan = now.core.plan in
    let free = ruled-allowed now.pace.rule plan now.pace.count now.core.state _ m chosen in
    record {
      turned = λ streams report. record {
        takes = record {
          goes = ready.goes;
          move = m;
          choice_is = chosen;
          event = e;
          does = does_unshown m now.core core streams report now.tally tally e other free is event counts;
        };
        policy_is = goes_to;
        count_is = seen-count now.pace pace m e seen (is_drained core.state) plan.stages told drained ready.come.stages;
      };
      rule = ap (λ (p : PaceCount). p.rule) told;
      stages = ap (λ (p : PaceCount). p.stages) told;
      works = after_works now.core core m is;
    }

-- Turn after turn --

pub no_turns : {P : Type 0} {picked : P → List Move → ℕ} {onward : P → List Move → P} (limit : ℕ) (show : Reporting) (now : PolicyPlace P) →
    TurnsLead picked onward limit show now now
unfolding TurnsTo
no_turns limit show now = record { count = 0; turns = refl }

one_more_turn : {P : Type 0} {picked : P → List Move → ℕ} {onward : P → List Move → P} (limit : ℕ) (show : Reporting) (now between new : PolicyPlace P) →
    TurnsLead picked onward limit show now between → TurnsOnce picked onward limit show between new →
    TurnsLead picked onward limit show now new
unfolding TurnsTo
one_more_turn limit show now between new first t = record { count = suc first.count; turns = (between, first.turns, t) }

turns_on : {P : Type 0} (picked : P → List Move → ℕ) (onward : P → List Move → P) (limit : ℕ) (show : Reporting) (now between new : PolicyPlace P) (n : ℕ) →
    TurnsLead picked onward limit show now between → TurnsTo picked onward limit show n between new →
    TurnsLead picked onward limit show now new
unfolding TurnsTo
turns_on picked onward limit show now between new zero first same = subst (TurnsLead picked onward limit show now) (sym same) first
turns_on picked onward limit show now between new (suc n) first (place, turns, t) =
    one_more_turn limit show now place new (turns_on picked onward limit show now between place n first turns) t

-- one after the other
pub sweeps_on : {P : Type 0} {picked : P → List Move → ℕ} {onward : P → List Move → P} (limit : ℕ) (show : Reporting) (now between new : PolicyPlace P) →
    TurnsLead picked onward limit show now between → TurnsLead picked onward limit show between new →
    TurnsLead picked onward limit show now new
sweeps_on limit show now between new first second = turns_on _ _ limit show now between new second.count first second.turns

-- where a run has come by a sweep; a stream that its moves had used before counts as used now
pub record ComesBy {P : Type 0} (picked : P → List Move → ℕ) (onward : P → List Move → P) (rule : GuessRule) (limit : ℕ) (show : Reporting) (begin : RunPlace)
    (first : P) (streams : Streams) (report : Option (List ℕ))
    (now new : PolicyPlace P)
    (c : HasPicked rule picked onward limit show begin (exposing now streams report) first now.policy now.pace.count) : Type 0 where
  pub rule_is : new.pace.rule ≡ rule
  pub comes : HasPicked rule picked onward limit show begin (exposing new streams report) first new.policy new.pace.count
  pub input : SomeAsks AsksInput begin.core.plan begin.core.state c.reached.trace →
      SomeAsks AsksInput begin.core.plan begin.core.state comes.reached.trace
  pub output : SomeAsks AsksOutput begin.core.plan begin.core.state c.reached.trace →
      SomeAsks AsksOutput begin.core.plan begin.core.state comes.reached.trace

comes_turns : {P : Type 0} (picked : P → List Move → ℕ) (onward : P → List Move → P) (rule : GuessRule) (limit : ℕ) (show : Reporting) (begin : RunPlace)
    (first : P) (streams : Streams) (report : Option (List ℕ))
    (now new : PolicyPlace P) (n : ℕ)
    (c : HasPicked rule picked onward limit show begin (exposing now streams report) first now.policy now.pace.count) → now.pace.rule ≡ rule →
    TurnsTo picked onward limit show n now new → ComesBy picked onward rule limit show begin first streams report now new c
unfolding TurnsTo
comes_turns picked onward rule limit show begin first streams report now new zero c is same =
    subst (λ (p : PolicyPlace _). ComesBy picked onward rule limit show begin first streams report now p c) (sym same)
    (record { rule_is = is; comes = c; input = λ a. a; output = λ a. a })
comes_turns picked onward rule limit show begin first streams report now new (suc n) c is (between, turns, t) =
    let so_far = comes_turns picked onward rule limit show begin first streams report now between n c is turns in
    let before = exposing between streams report in
    let after = exposing new streams report in
    let later = chooser rule new.policy new.pace.count in
    let turn : Turned picked onward limit show before after (chooser rule between.policy between.pace.count) later =
    subst (λ (r : GuessRule). Turned picked onward limit show before after (chooser r between.policy between.pace.count)
    (chooser r new.policy new.pace.count)) so_far.rule_is (t.turned streams report) in
    record {
      rule_is = t.rule ∙ so_far.rule_is;
      comes = comes-more rule picked onward limit show begin before after first between.policy between.pace.count later so_far.comes turn;
      input = λ a. asked-comes rule picked onward AsksInput limit show begin before after first between.policy between.pace.count later so_far.comes turn
          (so_far.input a);
      output = λ a. asked-comes rule picked onward AsksOutput limit show begin before after first between.policy between.pace.count later so_far.comes turn
          (so_far.output a);
    }

pub comes-by : {P : Type 0} {picked : P → List Move → ℕ} {onward : P → List Move → P} (rule : GuessRule) (limit : ℕ) (show : Reporting) (begin : RunPlace)
    (first : P) (streams : Streams) (report : Option (List ℕ))
    (now new : PolicyPlace P) (c : HasPicked rule picked onward limit show begin (exposing now streams report) first now.policy now.pace.count) →
    now.pace.rule ≡ rule → TurnsLead picked onward limit show now new → ComesBy picked onward rule limit show begin first streams report now new c
comes-by rule limit show begin first streams report now new c is led =
    comes_turns _ _ rule limit show begin first streams report now new led.count c is led.turns

-- What a sweep leaves --

-- the rule, the layout and the streams' faults are unchanged, the limit is not passed, and no fewer moves are counted
pub record Onward {P : Type 0} (limit : ℕ) (now new : PolicyPlace P) : Type 0 where
  pub rule : new.pace.rule ≡ now.pace.rule
  pub stages : new.pace.stages ≡ now.pace.stages
  pub plan : new.core.plan ≡ now.core.plan
  pub works : new.core.state.failed ≡ now.core.state.failed
  pub within : now.core.state.retired ≤ limit → new.core.state.retired ≤ limit
  pub moves : now.tally.moves ≤ new.tally.moves

turns_onward : {P : Type 0} (picked : P → List Move → ℕ) (onward : P → List Move → P) (limit : ℕ) (show : Reporting) (now new : PolicyPlace P) (n : ℕ) →
    TurnsTo picked onward limit show n now new → Onward limit now new
unfolding TurnsTo
turns_onward picked onward limit show now new zero same =
    rw same (record { rule = refl; stages = refl; plan = refl; works = refl; within = λ h. h; moves = omega arith })
turns_onward picked onward limit show now new (suc n) (between, turns, t) =
    let so_far = turns_onward picked onward limit show now between n turns in
    let turn = t.turned (streams_of None None) None in
    record {
      rule = t.rule ∙ so_far.rule;
      stages = t.stages ∙ so_far.stages;
      plan = turned-plan picked onward limit show _ _ _ _ turn ∙ so_far.plan;
      works = t.works ∙ so_far.works;
      within = λ before. turned-within picked onward limit show _ _ _ _ turn;
      moves =
          let more = so_far.moves in
          let one = turned-counted picked onward limit show _ _ _ _ turn in
          omega (arith, more, one);
    }

pub sweeps-onward : {P : Type 0} {picked : P → List Move → ℕ} {onward : P → List Move → P} (limit : ℕ) (show : Reporting) (now new : PolicyPlace P) →
    TurnsLead picked onward limit show now new → Onward limit now new
sweeps-onward limit show now new led = turns_onward _ _ limit show now new led.count led.turns

-- a run that has come to where a sweep begins has come to where it ends
pub come_on : {P : Type 0} {picked : P → List Move → ℕ} {onward : P → List Move → P} (limit : ℕ) (show : Reporting) (now new : PolicyPlace P) →
    HasArrived picked onward limit show now → TurnsLead picked onward limit show now new → HasArrived picked onward limit show new
come_on {picked = picked} {onward = onward} limit show now new come swept =
    let on = sweeps-onward limit show now new swept in
    let by = comes-by now.pace.rule limit show come.begin come.first come.streams come.report now new come.comes refl swept in
    record {
      begin = come.begin;
      first = come.first;
      accepted = come.accepted;
      registers = come.registers;
      opened = come.opened;
      streams = come.streams;
      report = come.report;
      comes = subst (λ (r : GuessRule). HasPicked r picked onward limit show come.begin (exposing new come.streams come.report) come.first new.policy
          new.pace.count) (sym on.rule) by.comes;
      limit_allowed = come.limit_allowed;
      within = on.within come.within;
      stages = on.stages ∙ come.stages ∙ ap (λ (p : Plan). p.stages) (sym on.plan);
    }

-- and the next part of the sweep begins there if the run goes on
pub sweeping-on : {P : Type 0} {picked : P → List Move → ℕ} {onward : P → List Move → P} (limit : ℕ) (now new : PolicyPlace P) →
    RunsQuietly picked onward limit now → TurnsLead picked onward limit silent now new → GoesOn limit new.core.state →
    RunsQuietly picked onward limit new
sweeping-on limit now new ready swept goes = record {
  come = come_on limit silent now new ready.come swept;
  goes = goes;
  works = (sweeps-onward limit silent now new swept).works ∙ ready.works;
}

-- nothing is shown where this is asked
pub shows-nothing : (show : Reporting) → show.show ≡ shows.Report → show.every ≡ None → silent ≡ show
shows-nothing show report never =
    sym (ap (λ (s : Show). reporting_of s show.every) report ∙ ap (λ (o : Option ℕ). reporting_of shows.Report o) never)

-- where it is known not to be over it goes on
pub not-over : (limit : ℕ) (s : State) (o : Option Answer) → MatchOption o (GoesOn limit s) (IsOver limit s) → is_some o ≡ false → GoesOn limit s
not-over limit s None goes none = goes
not-over limit s (Some answer) over none = absurd (cc)

pub set : (b : Bool) → not b ≡ false → b ≡ true
set true e = refl
set false e = absurd (cc)

pub unset : (b : Bool) → not b ≡ true → b ≡ false
unset false e = refl
unset true e = absurd (cc)

-- What holds on the way --

-- one more move can be counted
pub come-counts : {P : Type 0} {picked : P → List Move → ℕ} {onward : P → List Move → P} (limit : ℕ) (show : Reporting) (at : PolicyPlace P) →
    HasArrived picked onward limit show at → CanCount at.tally
come-counts limit show at h =
    let few = comes-counted at.pace.rule _ _ limit show h.begin (exposing at h.streams h.report) h.first at.policy at.pace.count h.accepted
    h.registers h.opened h.comes h.within h.limit_allowed in
    can-count limit show h.begin (exposing at h.streams h.report) h.comes.reached (omega (arith, few))

-- one more instruction too
pub can-retire : {P : Type 0} {picked : P → List Move → ℕ} {onward : P → List Move → P} (limit : ℕ) (at : PolicyPlace P) → RunsQuietly picked onward limit at →
    at.core.state.retired + 1 < 2 ^ 64
can-retire limit at ready =
    let below = ready.goes.below in
    let few = ready.come.limit_allowed in
    omega (arith, below, few)

-- the layout is the one that was opened
same_plan : {P : Type 0} {picked : P → List Move → ℕ} {onward : P → List Move → P} (limit : ℕ) (show : Reporting) (at : PolicyPlace P)
    (h : HasArrived picked onward limit show at) → at.core.plan ≡ h.begin.core.plan
same_plan limit show at h = ap (λ (p : Processor). p.plan) h.comes.reached.core

-- so it has at most 32 stages
pub few-stages : {P : Type 0} {picked : P → List Move → ℕ} {onward : P → List Move → P} (limit : ℕ) (at : PolicyPlace P) → RunsQuietly picked onward limit at →
    at.core.plan.stages ≤ 32
few-stages limit at ready =
    let few = ready.come.accepted.stages.1 in
    let same = ap (λ (p : Plan). p.stages) (same_plan limit silent at ready.come) in
    omega (arith, few, same)

-- also after a sweep
pub few_after : {P : Type 0} {picked : P → List Move → ℕ} {onward : P → List Move → P} (limit : ℕ) (now new : PolicyPlace P) →
    RunsQuietly picked onward limit now → TurnsLead picked onward limit silent now new → new.core.plan.stages ≤ 32
few_after limit now new ready swept =
    let few = few-stages limit now ready in
    let same = ap (λ (p : Plan). p.stages) (sweeps-onward limit silent now new swept).plan in
    omega (arith, few, same)

-- and fewer moves are left after some that were counted
pub come-nearer : {P : Type 0} {picked : P → List Move → ℕ} {onward : P → List Move → P} (limit : ℕ) (show : Reporting) (begin at : PolicyPlace P)
    (made : ℕ) → HasArrived picked onward limit show at → TurnsLead picked onward limit show begin at →
    made < at.tally.moves → most_moves begin.core.plan limit - at.tally.moves < most_moves begin.core.plan limit - made
come-nearer limit show begin at made h swept more =
    let few = comes-bounded at.pace.rule _ _ limit show h.begin (exposing at h.streams h.report) h.first at.policy at.pace.count h.accepted
    h.registers h.opened h.comes h.within in
    let same = (sweeps-onward limit show begin at swept).plan in
    subst (λ (p : Plan). most_moves p limit - at.tally.moves < most_moves p limit - made) (sym (same_plan limit show at h) ∙ same)
    (less (most_moves h.begin.core.plan limit) made at.tally.moves few more)
  where
    less : (most made new : ℕ) → new ≤ most → made < new → most - new < most - made
    less most made new few more = omega (arith, few, more)

-- also after a sweep and one move
pub made-nearer : {P : Type 0} {picked : P → List Move → ℕ} {onward : P → List Move → P} (limit : ℕ) (begin now new : PolicyPlace P) →
    RunsQuietly picked onward limit new → TurnsLead picked onward limit silent begin now → TurnsLead picked onward limit silent now new →
    new.tally.moves ≡ now.tally.moves + 1 → most_moves begin.core.plan limit - new.tally.moves < most_moves begin.core.plan limit - now.tally.moves
made-nearer limit begin now new ready first swept counted =
    come-nearer limit silent begin new now.tally.moves ready.come (sweeps_on limit silent begin now new first swept) (omega (arith, counted))

-- fewer are left after a sweep and one more turn
pub fewer_left : (most now between new : ℕ) → now ≤ between → most - new < most - between → most - new < most - now
fewer_left most now between new grows near = omega (arith, grows, near)

pub goes_on_so : {P : Type 0} {picked : P → List Move → ℕ} {onward : P → List Move → P} (limit : ℕ) (at : PolicyPlace P) → RunsQuietly picked onward limit at →
    goes_on at.core.state ≡ true
goes_on_so limit at ready = rw (ready.goes.unended, ready.works) refl

-- One pick --

-- a choice that was made, counted and recorded by the pace leads on
pub chosen-leads : {P : Type 0} (picked : P → List Move → ℕ) (onward : P → List Move → P) (limit : ℕ) (now : PolicyPlace P) (core : Processor) (m : Move)
    (later : P) (pace : PaceCount) (tally : Tally) (e : Event) (seen : Bool) →
    m ≢ mv.Serve → RunsQuietly picked onward limit now →
    choice picked now.core.plan (chooser now.pace.rule now.policy now.pace.count) now.core.state ≡ Some m →
    later ≡ onward now.policy (offered_by now.pace.rule now.core.plan now.pace.count now.core.state) → core ≡ after_move now.core m →
    IsEvent now.core.plan now.core.state m e → tally ≡ counted_event now.tally m e → pace ≡ saw now.pace m e seen → seen ≡ is_drained core.state →
    TurnsLead picked onward limit silent now (policy_at core later pace tally)
chosen-leads picked onward limit now core m later pace tally e seen other ready chosen goes_to is event counts told drained =
    one_more_turn limit silent now now (policy_at core later pace tally) (no_turns limit silent now)
    (chosen_turn picked onward limit now core m later pace tally e seen other ready chosen goes_to is event counts told drained)

-- so does the rule's pick
pub picked-sweeps : (limit : ℕ) (now : RulePlace) (core : Processor) (m : Move) (pace : PaceCount) (tally : Tally) (e : Event) (seen : Bool) →
    kind_place m ≤ 12 → IsSweeping limit now → PicksNext now.pace now.core now.policy m → core ≡ after_move now.core m →
    IsEvent now.core.plan now.core.state m e → tally ≡ counted_event now.tally m e → pace ≡ saw now.pace m e seen → seen ≡ is_drained core.state →
    SweepsTo limit silent now (rule_at core (Some m) pace tally)
picked-sweeps limit now core m pace tally e seen early ready picked is event counts told drained =
    let chosen = chosen_so now.pace.rule now.core.plan now.pace.count now.core.state now.policy m picked in
    chosen-leads round_pick round_on limit now core m (Some m) pace tally e seen (no_serve m early) ready chosen (sym chosen) is event counts told drained

-- unless it is Leave, the run goes on
pub sweeping-kept : {P : Type 0} {picked : P → List Move → ℕ} {onward : P → List Move → P} (limit : ℕ) (now new : PolicyPlace P) →
    RunsQuietly picked onward limit now → TurnsLead picked onward limit silent now new → Keeps now.core.state new.core.state →
    RunsQuietly picked onward limit new
sweeping-kept limit now new ready swept keeps =
    let below = ready.goes.below in
    let retired = keeps.retired in
    sweeping-on limit now new ready swept (record { unended = keeps.ending ∙ ready.goes.unended; below = omega (arith, below, retired) })

-- the count of a pace has stopped where it stops
pub count-stops : {P : Type 0} {picked : P → List Move → ℕ} {onward : P → List Move → P} (limit : ℕ) (show : Reporting) (at : PolicyPlace P) →
    HasArrived picked onward limit show at → stopped at.pace.stages at.pace.count ≡ at.pace.count
count-stops limit show at h =
    let begin = h.begin.core.plan.stages in
    let same : at.pace.stages ≡ begin = h.stages ∙ ap (λ (p : Plan). p.stages) (same_plan limit show at h) in
    let most = min-le_right h.comes.at.count (2 * begin) in
    let counted = h.comes.count_is in
    min-eq_left (omega (arith, most, counted, same))

-- the pace is unchanged by a choice by which nothing enters at the bottom or leaves
pub chosen-within : {P : Type 0} (picked : P → List Move → ℕ) (onward : P → List Move → P) (limit : ℕ) (now : PolicyPlace P) (core : Processor) (m : Move)
    (later : P) (tally : Tally) (e : Event) → 1 ≤ kind_place m → kind_place m ≤ 10 →
    RunsQuietly picked onward limit now → choice picked now.core.plan (chooser now.pace.rule now.policy now.pace.count) now.core.state ≡ Some m →
    later ≡ onward now.policy (offered_by now.pace.rule now.core.plan now.pace.count now.core.state) → core ≡ after_move now.core m →
    IsEvent now.core.plan now.core.state m e → tally ≡ counted_event now.tally m e →
    TurnsLead picked onward limit silent now (policy_at core later now.pace tally)
chosen-within picked onward limit now core m later tally e after before ready chosen goes_to is event counts =
    let plan = now.core.plan in
    let free = ruled-allowed now.pace.rule plan now.pace.count now.core.state _ m chosen in
    chosen-leads picked onward limit now core m later now.pace tally e (is_drained (moved plan now.core.state m))
    (no_serve m (omega (arith, before))) ready chosen goes_to
    is event counts
    (same-pace plan now.core.state now.pace m e after before free event (count-stops limit silent now ready.come))
    (ap (λ (p : Processor). is_drained p.state) (sym is))

-- so it is by the rule's pick
pub within-sweeps : (limit : ℕ) (now : RulePlace) (core : Processor) (m : Move) (tally : Tally) (e : Event) → 1 ≤ kind_place m →
    kind_place m ≤ 10 → IsSweeping limit now → PicksNext now.pace now.core now.policy m → core ≡ after_move now.core m →
    IsEvent now.core.plan now.core.state m e → tally ≡ counted_event now.tally m e → SweepsTo limit silent now (rule_at core (Some m) now.pace tally)
within-sweeps limit now core m tally e after before ready picked is event counts =
    let chosen = chosen_so now.pace.rule now.core.plan now.pace.count now.core.state now.policy m picked in
    chosen-within round_pick round_on limit now core m (Some m) tally e after before ready chosen (sym chosen) is event counts

-- What is picked next --

pub picked_here : (rule : GuessRule) (held : Bool) (plan : Plan) (s : State) (last : Option Move) (xs : List Move) (m : Move) →
    IsPickedFrom rule held plan s last xs → slice_get xs 0 ≡ Some m → IsPicked rule held plan s last m
unfolding IsPickedFrom
picked_here rule held plan s last xs m picked found = picked.here m found

-- Sweep after sweep --

pub swept_none : (limit : ℕ) (part : Plan → State → List Move) (at : RulePlace) → SweepsFrom limit part at → SweepsOn limit part at at
swept_none limit part at from = record { swept = no_turns limit silent at; from = from }

pub goes_on_from : (limit : ℕ) (part : Plan → State → List Move) (at : RulePlace) → SweepsFrom limit part at → goes_on at.core.state ≡ true
goes_on_from limit part at from = goes_on_so limit at from.ready

-- if no kind is left, only an Issue can come after the last pick
pub picks_last : (limit : ℕ) (at : RulePlace) → SweepsFrom limit from_end at → IsLast at.core.plan at.core.state at.policy
unfolding IsPickedFrom
picks_last limit at from = from.picked.gone refl

pub swept_from : (limit : ℕ) (part : Plan → State → List Move) (now new : RulePlace) → SweepsOn limit part now new → SweepsFrom limit part new
swept_from limit part now new on = on.from

pub swept_on : (limit : ℕ) (part beyond : Plan → State → List Move) (now between new : RulePlace) → SweepsOn limit part now between →
    SweepsOn limit beyond between new → SweepsOn limit beyond now new
swept_on limit part beyond now between new first next = record {
  swept = sweeps_on limit silent now between new first.swept next.swept;
  from = next.from;
}

-- What a sweep has left of a kind --

-- the word of what is left after the move at the lowest stage that was left
pub left-on : (old new : Processor) (kind : ℕ → Move) (a w after i : ℕ) → new ≡ after_move old (kind i) → IsProcessor old.plan old.state →
    AreLeft old.plan old.state a kind w → IsLowest w i →
    ((s : State) (b : ℕ) → IsProcessor new.plan s → IsMadeAt new.plan s new.state b kind w i → AreLeft new.plan new.state i kind after) →
    AreLeft new.plan new.state i kind after
left-on old new kind a w after i made facts left lowest so =
    let plan = ap (λ (p : Processor). p.plan) made in
    let state = ap (λ (p : Processor). p.state) made in
    so old.state a (subst (λ (l : Plan). IsProcessor l old.state) (sym plan) facts) (record {
      left = subst (λ (l : Plan). AreLeft l old.state a kind w) (sym plan) left;
      lowest = lowest;
      moved_is = subst (λ (l : Plan). new.state ≡ moved l old.state (kind i)) (sym plan) state;
    })

-- Moves that are drawn --

-- no move but a meeting shows anything before it leaves
pub unseen-counted : (plan : Plan) (s : State) (m : Move) (e : Event) (tally : Tally) → 1 ≤ kind_place m → kind_place m ≤ 10 → kind_place m ≢ 4 →
    IsEvent plan s m e → counted_event tally m e ≡ record tally { moves = tally.moves + 1 }
unseen-counted plan s (mv.Issue g) e tally after before other is = absurd (omega (arith, after))
unseen-counted plan s mv.Emit e tally after before other is = ap (counted_event tally mv.Emit) is
unseen-counted plan s (mv.Climb i) e tally after before other is = ap (counted_event tally (mv.Climb i)) is
unseen-counted plan s (mv.Fall i) e tally after before other is = ap (counted_event tally (mv.Fall i)) is
unseen-counted plan s (mv.Meet i) e tally after before other is = absurd (other refl)
unseen-counted plan s (mv.Execute i) e tally after before other is = ap (counted_event tally (mv.Execute i)) is
unseen-counted plan s (mv.Send i) e tally after before other is = ap (counted_event tally (mv.Send i)) is
unseen-counted plan s (mv.Launch i) e tally after before other is = ap (counted_event tally (mv.Launch i)) is
unseen-counted plan s (mv.Slide k c) e tally after before other is = ap (counted_event tally (mv.Slide k c)) is
unseen-counted plan s mv.Access e tally after before other is = ap (counted_event tally mv.Access) is
unseen-counted plan s (mv.Recover i) e tally after before other is = ap (counted_event tally (mv.Recover i)) is
unseen-counted plan s mv.Leave e tally after before other is = absurd (omega (arith, before))
unseen-counted plan s mv.Exit e tally after before other is = absurd (omega (arith, before))
unseen-counted plan s mv.Serve e tally after before other is = absurd (omega (arith, before))

-- a move that is allowed where Serve is not is another
pub allowed-inside : (plan : Plan) (s : State) (m : Move) → false ≡ is_allowed plan s mv.Serve → bar plan s m ≡ None → m ≢ mv.Serve
allowed-inside plan s m barred free is =
    let allowed : is_allowed plan s mv.Serve ≡ true = rw (rw is at free) refl in
    absurd (cc)

-- the pace sees nothing of a move by which nothing enters at the bottom or leaves
pub within-taken : (core new : Processor) (m : Move) (pace : PaceCount) (tally after : Tally) (e : Event) → 1 ≤ kind_place m → kind_place m ≤ 10 →
    bar core.plan core.state m ≡ None → stopped pace.stages pace.count ≡ pace.count → new ≡ after_move core m → IsEvent core.plan core.state m e →
    after ≡ counted_event tally m e → IsRecorded m core new pace pace tally after
within-taken core new m pace tally after e late early free stops is event counts = record {
  event = e;
  is_event = event;
  made = is;
  counted = counts;
  recorded = same-pace core.plan core.state pace m e late early free event stops
      ∙ ap (λ (p : Processor). saw pace m e (is_drained p.state)) (sym is);
}

-- a drawn move that was made, counted and recorded is a turn of the run
pub drawn-leads : (limit : ℕ) (now : PolicyPlace Lcg) (core : Processor) (m : Move) (pace : PaceCount) (tally : Tally) (offered : List Move) →
    m ≢ mv.Serve → IsDrawing limit now → offered ≡ offered_by now.pace.rule now.core.plan now.pace.count now.core.state →
    Some m ≡ slice_get offered (drawn_pick now.policy offered) → IsRecorded m now.core core now.pace pace now.tally tally →
    DrawsTo limit silent now (policy_at core (drawn_on now.policy) pace tally)
drawn-leads limit now core m pace tally offered other ready same chosen t =
    chosen-leads drawn_pick drawn_after limit now core m (drawn_on now.policy) pace tally t.event (is_drained core.state) other ready
    (sym (rw same at chosen)) refl t.made t.is_event t.counted t.recorded refl

-- such a move is allowed
pub drawn-free : (limit : ℕ) (now : PolicyPlace Lcg) (m : Move) (offered : List Move) →
    offered ≡ offered_by now.pace.rule now.core.plan now.pace.count now.core.state →
    Some m ≡ slice_get offered (drawn_pick now.policy offered) → bar now.core.plan now.core.state m ≡ None
drawn-free limit now m offered same chosen =
    ruled-allowed now.pace.rule now.core.plan now.pace.count now.core.state _ m (sym (rw same at chosen))

-- so a move that was drawn, made, counted and recorded leads on
pub drawn-on : (limit : ℕ) (answer : Bool) (now : PolicyPlace Lcg) (core : Processor) (m : Move) (pace : PaceCount) (tally : Tally) (offered : List Move) →
    false ≡ is_allowed now.core.plan now.core.state mv.Serve → IsDrawing limit now →
    offered ≡ offered_by now.pace.rule now.core.plan now.pace.count now.core.state →
    Some m ≡ slice_get offered (drawn_pick now.policy offered) → IsRecorded m now.core core now.pace pace now.tally tally →
    (answer ≡ false → kind_place m ≢ leave_place) → (answer ≡ false → pace ≡ now.pace) →
    DrawsOn limit answer now (policy_at core (drawn_on now.policy) pace tally)
drawn-on limit answer now core m pace tally offered inside ready same chosen taken stays kept =
    let other = allowed-inside now.core.plan now.core.state m inside (drawn-free limit now m offered same chosen) in
    let led = drawn-leads limit now core m pace tally offered other ready same chosen taken in
    record {
      draws = led;
      counted = ap (λ (t : Tally). t.moves) taken.counted;
      ready = λ no. sweeping-kept limit now (policy_at core (drawn_on now.policy) pace tally) ready led (after_keeps now.core core m (stays no) taken.made);
      pace = kept;
    }

-- and at least one move is offered
pub drawing-offered : (limit : ℕ) (at : PolicyPlace Lcg) → IsDrawing limit at → 0 < length (offered_by at.pace.rule at.core.plan at.pace.count at.core.state)
drawing-offered limit at ready =
    let h = ready.come in
    comes-offered at.pace.rule _ _ limit silent h.begin (exposing at h.streams h.report) h.first at.policy at.pace.count h.accepted h.registers h.opened
    h.comes ready.goes.unended

-- what is offered under the hold rule, as its count says whether Issue is held back
pub offered-so : (pace : PaceCount) (rule : GuessRule) (plan : Plan) (s : State) (held : Bool) (offered : List Move) → rule ≡ pace.rule →
    held ≡ holds_issue pace → pace.stages ≡ plan.stages → offered ≡ withheld held (guided rule plan s) →
    offered ≡ offered_by pace.rule plan pace.count s
unfolding offered_by
offered-so pace rule plan s held offered same is stages e =
    let here : held ≡ is_held plan pace.count = is ∙ ap (λ (n : ℕ). nat_le (2 * n) pace.count) stages in
    rw (same, here) at e
