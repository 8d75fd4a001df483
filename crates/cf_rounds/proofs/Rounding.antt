-- Where a run in rounds has arrived.
use Rattle.std.proofs.Common.{◌≡◌, ℕ, suc, ◌+◌, ◌-◌, ◌<◌, ◌≤◌, ◌^◌, List, [], ◌∷◌, ◌++◌, length, Option, Some, None, Ok, Err, inl, inr, refl, sym, ap, subst, ◌∙◌, append-nil, append_assoc, length-append, arith}
use Rattle.std.specs.Prelude.{if◌then◌else◌, Bool, true, false}
use Rattle.run_options.specs.declared.guess_rule.GuessRule.{GuessRule}
use Rattle.run_options.specs.Limits.{most_limit}
use Rattle.run_options.specs.Reportings as show
use Rattle.cf_report.proofs.Parts.{part-whole}
use Rattle.rv_machine.specs.Machine.{Machine}
use Rattle.cf_layout.specs.Accepted.{IsAccepted}
use Rattle.cf_layout.specs.Layout.{Plan}
use Rattle.cf_bind.specs.declared.moves.Move.{Move}
use Rattle.cf_bind.specs.declared.moves.Move.TheVariants.{Serve}
use Rattle.cf_semantics.specs.moves.Candidates.{candidates, held_back}
use Rattle.cf_semantics.specs.moves.Holding.{is_held}
use Rattle.cf_semantics.specs.runs.Lines.{Line}
use Rattle.cf_semantics.specs.moves.Moves.{next}
use Rattle.cf_semantics.specs.runs.Runs.{start as start_on}
use Rattle.cf_semantics.specs.state.State.{State, Moment}
use Rattle.theory_unknown_input.specs.Paced.{PacesTo}
use Rattle.theory_unknown_input.proofs.Theorems.{anew_started}
use Rattle.cf_core.specs.Processors.{Processor, IsProcessor, IsOpened}
use Rattle.cf_core.specs.Stepping.{Makes}
use Rattle.cf_report.specs.declared.tally.Tally.{Tally}
use Rattle.cf_index.specs.Alone.{HasSidings}
use Rattle.cf_index.proofs.There.{has_sidings}
use Rattle.cf_index.specs.Allowed.{withheld}
use Rattle.cf_index.specs.GuessRules.{guided}
use Rattle.cf_sched.specs.Paces.{PaceCount, HasCounted, offered_by}
use Rattle.run_finishes.specs.declared.finish.Ran.{Ran as Answer}
use Rattle.run_finishes.specs.declared.finish.Ran.TheVariants as ran
use Rattle.run_finishes.specs.declared.finish.Scripted.TheVariants.{Ran}
use Rattle.cf_run.specs.Ending.{EndsAlike, EndsAsMachine, EndsSequentially}
use Rattle.cf_run.specs.Going.{moment_of, Leads}
use Rattle.cf_run.specs.Headline.{Gets, RunsSequentially, StopsAt}
use Rattle.cf_run.specs.Made.{Made, moves_of}
use Rattle.cf_run.specs.Moving.{RunPlace, MoveDoes}
use Rattle.cf_run.specs.Policies.{most_moves}
use Rattle.cf_run.specs.Reaching.{GoesOn, IsOver, Reaches, no_tally}
use Rattle.cf_run.proofs.Arrived.{begins}
use Rattle.cf_run.proofs.Bounds.{bound_grows, bound_small, machine_of, opened_wide, paced-bounded, paced-offered}
use Rattle.cf_run.proofs.Ending.{Over, ends-level, same_place}
use Rattle.cf_run.proofs.Headline.{comes_sequentially, opened_here, opened_regs}
use Rattle.cf_run.proofs.Runs.{reached-none, none-trace, reached-more, reached-trace}
use Rattle.cf_run.proofs.Stopping.{ComesTo, comes_here, comes_over, comes_unread, comes_unwritten}
use Rattle.cf_rounds.specs.declared.answer.Clocked.{Clocked}
use Rattle.cf_rounds.specs.declared.answer.Clocked.TheVariants.{Exit, Trap, Limit, ReadFault, WriteFault, ReportFault}
use Rattle.cf_rounds.specs.declared.answer.Fired.{Fired}
use Rattle.cf_rounds.specs.declared.answer.Fired.TheVariants.{Plain, Retired, Ended}
use Rattle.cf_rounds.specs.declared.answer.Fired.TheVariants as fault
use Rattle.cf_rounds.specs.Firing.{FiresAll, Fires, MakesAll, input_fired, output_fired, paced_by}
use Rattle.cf_rounds.specs.Rounds.{AreCandidates, IsRound, round_of}
use Rattle.cf_rounds.specs.Running.{InRounds, FailsThere, RunsRounds, StopsRounds, all_of, ran_of, state_after_made}
use Rattle.cf_rounds.specs.Turns.{IsOffered, RoundTurns, finish_with, input_turned, output_turned}
use Rattle.cf_rounds.proofs.Level.{round-level}
use Rattle.cf_rounds.proofs.Making.{leaves, falls, left_first}
use Rattle.cf_rounds.proofs.Pacing.{rounds_paced}

-- what is offered are candidates
pub offered_are : (r : GuessRule) (plan : Plan) (count : ℕ) (s : State) → AreCandidates plan s (offered_by r plan count s)
unfolding offered_by
offered_are r plan count s = by (is_held plan count)
  where
    by : (b : Bool) → AreCandidates plan s (withheld b (guided r plan s))
    by true = (r, inr refl)
    by false = (r, inl refl)

-- the moves of some rounds, and those of the next round
all_more : (rounds : List (List Made)) (made : List Made) → all_of (rounds ++ made ∷ []) ≡ all_of rounds ++ made
all_more [] made = append-nil made
all_more (first ∷ rounds) made = ap (λ (rest : List Made). first ++ rest) (all_more rounds made) ∙ sym (append_assoc first (all_of rounds) made)

rounds_more : (rule : GuessRule) (plan : Plan) (limit count : ℕ) (s : State) (rounds : List (List Made)) (held : ℕ) (end : State) (made : List Made) →
    InRounds rule plan limit count s rounds held end → GoesOn limit end → moves_of made ≡ round_of plan end (offered_by rule plan held end)
    → InRounds rule plan limit count s (rounds ++ made ∷ []) (paced_by held made) (state_after_made end made)
unfolding InRounds
rounds_more rule plan limit count s [] held end made (held_is, end_is) goes is =
    let P : ℕ → State → Type 0 = λ n q. GoesOn limit q × (moves_of made ≡ round_of plan q (offered_by rule plan n q))
    × ((paced_by held made ≡ paced_by n made) × (state_after_made end made ≡ state_after_made q made)) in
    subst (λ (n : ℕ). P n s) held_is (subst (P held) end_is (goes, is, (refl, refl)))
rounds_more rule plan limit count s (first ∷ rounds) held end made (goes_on, first_is, h) goes is =
    (goes_on, first_is, rounds_more rule plan limit (paced_by count first) (state_after_made s first) rounds held end made h goes is)

-- the state after the moves
pub state_there : (trace : List Made) (now new : RunPlace) → MakesAll trace now new → state_after_made now.core.state trace ≡ new.core.state
unfolding MakesAll
state_there [] now new h = ap (λ (p : RunPlace). p.core.state) (sym h)
state_there (made ∷ trace) now new (there, one, is, h) = ap (λ (s : State). state_after_made s trace) is ∙ state_there trace there new h

-- the moves of a round after those of a run
record Reached (limit : ℕ) (start new : RunPlace) (before trace : List Made) : Type 0 where
  reached : Reaches (limit + 1) show.report start new
  all : reached.trace ≡ before ++ trace
  within : new.core.state.retired ≤ limit

reach_all : (limit : ℕ) (start now new : RunPlace) (trace : List Made) (h : Reaches (limit + 1) show.report start now) → MakesAll trace now new →
    now.core.state.retired + leaves (moves_of trace) ≤ limit → Reached limit start new h.trace trace
unfolding MakesAll
reach_all limit start now new [] h all low =
    subst (λ (p : RunPlace). Reached limit start p h.trace []) (sym all) (record { reached = h; all = sym (append-nil h.trace); within = omega (arith, low) })
reach_all limit start now new (made ∷ trace) h (there, one, is, all) low =
    let below : now.core.state.retired < limit + 1 = omega (arith, low) in
    let made_there : Made = record { move = made.move; event = made.event; state = there.core.state } in
    let same : made_there ≡ made = ap (λ (s : State). record { move = made.move; event = made.event; state = s }) (sym is) in
    let more : Reaches (limit + 1) show.report start there = reached-more (limit + 1) show.report start now there made.move made.event h below one in
    let trace_is : more.trace ≡ h.trace ++ made ∷ [] = reached-trace (limit + 1) show.report start now there made.move made.event h below one
    ∙ ap (λ (m : Made). h.trace ++ m ∷ []) same in
    let makes : Makes now.core there.core made.move now.streams there.streams = one.makes.makes in
    let m : Moment = record { state = now.core.state; rest = makes.rest; output = [] } in
    let state : (next now.core.plan m made.move).state.retired ≡ there.core.state.retired = ap (λ (q : Moment). q.state.retired) makes.is in
    let less = falls now.core.plan m made.move (moves_of trace) in
    let rest : Reached limit start new more.trace trace = reach_all limit start there new trace more all (omega (arith, less, state, low)) in
    record {
      reached = rest.reached;
      all = rest.all ∙ ap (λ (t : List Made). t ++ trace) trace_is ∙ append_assoc h.trace (made ∷ []) trace;
      within = rest.within;
    }

-- the rounds so far lead from one RunPlace to another
pub record Comes (rule : GuessRule) (limit : ℕ) (start now : RunPlace) (pace : PaceCount) (number : ℕ) : Type 0 where
  pub reached : Reaches (limit + 1) show.report start now
  pub rounds : List (List Made)
  pub are : reached.trace ≡ all_of rounds
  pub held : ℕ
  pub chosen : InRounds rule start.core.plan limit 0 start.core.state rounds held now.core.state
  pub paced : HasCounted rule start.core.plan.stages held pace
  pub count : number ≡ length rounds
  pub few : number ≤ now.tally.moves
  pub within : now.core.state.retired ≤ limit
  pub over : Over start.core.plan limit now.core.state

unfoldable pub comes-first : (rule : GuessRule) (limit : ℕ) (start : RunPlace) (pace : PaceCount) (number : ℕ) → start.tally ≡ no_tally →
    HasCounted rule start.core.plan.stages 0 pace →
    number ≡ 0 → start.core.state.retired ≤ limit → Over start.core.plan limit start.core.state → Comes rule limit start start pace number
unfolding InRounds
comes-first rule limit start pace number none paced zero_rounds within over = record {
  reached = reached-none (limit + 1) show.report start none;
  rounds = [];
  are = none-trace (limit + 1) show.report start none;
  held = 0;
  chosen = (refl, refl);
  paced = paced;
  count = zero_rounds;
  few = omega (arith, zero_rounds);
  within = within;
  over = over;
}

-- the layout is unchanged
pub same_plan : (rule : GuessRule) (limit : ℕ) (start now : RunPlace) (pace : PaceCount) (number : ℕ) → Comes rule limit start now pace number →
    now.core.plan ≡ start.core.plan
same_plan rule limit start now pace number c = ap (λ (p : Processor). p.plan) c.reached.core

chosen_here : (rule : GuessRule) (limit : ℕ) (start now : RunPlace) (pace : PaceCount) (number : ℕ) (moves round : List Move) →
    (c : Comes rule limit start now pace number) →
    IsOffered now pace moves round → round ≡ round_of start.core.plan now.core.state (offered_by rule start.core.plan c.held now.core.state)
chosen_here rule limit start now pace number moves round c o =
    let plan : now.core.plan ≡ start.core.plan = same_plan rule limit start now pace number c in
    let counted : HasCounted rule now.core.plan.stages c.held pace = subst (λ (l : Plan). HasCounted rule l.stages c.held pace) (sym plan) c.paced in
    o.round_is ∙ ap (round_of now.core.plan now.core.state) (o.moves_are rule c.held counted)
    ∙ ap (λ (l : Plan). round_of l now.core.state (offered_by rule l c.held now.core.state)) plan

-- how many moves were counted
pub count_all : (trace : List Made) (now new : RunPlace) → MakesAll trace now new → new.tally.moves ≡ now.tally.moves + length trace
unfolding MakesAll
count_all [] now new h = omega (arith, ap (λ (p : RunPlace). p.tally.moves) h)
count_all (made ∷ trace) now new (there, one, is, h) = omega (arith, count_all trace there new h, ap (λ (t : Tally). t.moves) one.makes.tally)

moves_length : (trace : List Made) → length (moves_of trace) ≡ length trace
moves_length [] = refl
moves_length (made ∷ trace) = ap suc (moves_length trace)

-- one more round
pub comes-more : (rule : GuessRule) (limit : ℕ) (start now new : RunPlace) (pace later : PaceCount) (number : ℕ) (moves round : List Move) (fired : Fired) →
    Comes rule limit start now pace number → GoesOn limit now.core.state → IsOffered now pace moves round → FiresAll round now new pace later fired →
    Comes rule limit start new later (number + 1)
comes-more rule limit start now new pace later number moves round fired c goes o f =
    let plan : Plan = start.core.plan in
    let same : now.core.plan ≡ plan = same_plan rule limit start now pace number c in
    let few : leaves round ≤ 1 = (left_first now.core.plan now.core.state round o.sidings o.is_round).1 in
    let low : now.core.state.retired + leaves (moves_of f.trace) ≤ limit = omega (arith, goes.below, ap leaves f.moves, few) in
    let r : Reached limit start new c.reached.trace f.trace = reach_all limit start now new f.trace c.reached f.makes low in
    let is : moves_of f.trace ≡ round_of plan now.core.state (offered_by rule plan c.held now.core.state) = f.moves
    ∙ chosen_here rule limit start now pace number moves round c o in
    let more : InRounds rule plan limit 0 start.core.state (c.rounds ++ f.trace ∷ []) (paced_by c.held f.trace) (state_after_made now.core.state f.trace) =
    rounds_more rule plan limit 0 start.core.state c.rounds c.held now.core.state f.trace c.chosen goes is in
    record {
      reached = r.reached;
      rounds = c.rounds ++ f.trace ∷ [];
      are = r.all ∙ ap (λ (t : List Made). t ++ f.trace) c.are ∙ sym (all_more c.rounds f.trace);
      held = paced_by c.held f.trace;
      chosen = subst (λ (s : State). InRounds rule plan limit 0 start.core.state (c.rounds ++ f.trace ∷ []) (paced_by c.held f.trace) s)
          (state_there f.trace now new f.makes) more;
      paced = f.paced rule plan.stages c.held c.paced;
      count = omega (arith, c.count, length-append c.rounds (f.trace ∷ []));
      few = omega (arith, c.few, count_all f.trace now new f.makes, o.some, ap length f.moves, moves_length f.trace);
      within = r.within;
      over = round-level plan limit f.trace now new same
          (subst (λ (l : Plan). HasSidings l now.core.state) same o.sidings)
          (subst (λ (l : Plan). IsRound l now.core.state (moves_of f.trace)) same (subst (IsRound now.core.plan now.core.state) (sym f.moves) o.is_round))
          f.makes goes.below;
    }

-- it is the last of the rounds
pub more-rounds : (rule : GuessRule) (limit : ℕ) (start now new : RunPlace) (pace later : PaceCount) (number : ℕ) (moves round : List Move) (fired : Fired) →
    (c : Comes rule limit start now pace number) (goes : GoesOn limit now.core.state) (o : IsOffered now pace moves round)
    (f : FiresAll round now new pace later fired) →
    (comes-more rule limit start now new pace later number moves round fired c goes o f).rounds ≡ c.rounds ++ f.trace ∷ []
unfolding comes-more
more-rounds rule limit start now new pace later number moves round fired c goes o f = refl

-- the rounds so far are a run under the hold rule
comes_paced : (rule : GuessRule) (limit : ℕ) (start now : RunPlace) (pace : PaceCount) (number : ℕ) → IsAccepted start.core.plan →
    length start.core.state.regs ≡ 32 →
    (o : IsOpened start.core) → (c : Comes rule limit start now pace number)
    → (written : List Line) × PacesTo start.core.plan 0 (start_on start.core.plan (machine_of start.core o c.reached.rest))
    (moves_of c.reached.trace) c.reached.last written
comes_paced rule limit start now pace number accepted wide o c =
    let plan : Plan = start.core.plan in
    let x : Machine = machine_of start.core o c.reached.rest in
    let same : moment_of start.core c.reached.rest ≡ start_on plan x = begins start.core o.hart c.reached.rest c.reached.rest o.is refl in
    let leads : Leads plan (limit + 1) start.streams.input (start_on plan x) c.reached.trace c.reached.last =
    subst (λ (q : Moment). Leads plan (limit + 1) start.streams.input q c.reached.trace c.reached.last) same c.reached.leads in
    let here : Leads plan (limit + 1) start.streams.input (start_on plan x) (all_of c.rounds) c.reached.last =
    subst (λ (t : List Made). Leads plan (limit + 1) start.streams.input (start_on plan x) t c.reached.last) c.are leads in
    let chosen : InRounds rule plan limit 0 (start_on plan x).state c.rounds c.held now.core.state =
    subst (λ (q : Moment). InRounds rule plan limit 0 q.state c.rounds c.held now.core.state) same c.chosen in
    let paces : (written : List Line) × PacesTo plan 0 (start_on plan x) (moves_of (all_of c.rounds)) c.reached.last written =
    rounds_paced rule plan (limit + 1) limit 0 c.held start.streams.input x [] (start_on plan x) c.reached.last c.rounds now.core.state accepted
    (anew_started plan x (opened_wide start.core o wide)) chosen here in
    (paces.0, subst (λ (t : List Made). PacesTo plan 0 (start_on plan x) (moves_of t) c.reached.last paces.0) (sym c.are) paces.1)

-- so they have a bounded number of moves
pub comes-bounded : (rule : GuessRule) (limit : ℕ) (start now : RunPlace) (pace : PaceCount) (number : ℕ) → IsAccepted start.core.plan →
    length start.core.state.regs ≡ 32 →
    IsOpened start.core → Comes rule limit start now pace number → now.tally.moves ≤ most_moves start.core.plan limit
comes-bounded rule limit start now pace number accepted wide o c =
    let paces = comes_paced rule limit start now pace number accepted wide o c in
    let bound = paced-bounded (limit + 1) show.report start now accepted wide o c.reached paces.0 paces.1 in
    let grows = bound_grows start.core.plan (now.core.state.retired - start.core.state.retired) limit (omega (arith, c.within)) in
    omega (arith, bound, grows)

pub comes-small : (rule : GuessRule) (limit : ℕ) (start now : RunPlace) (pace : PaceCount) (number : ℕ) → IsAccepted start.core.plan →
    length start.core.state.regs ≡ 32 →
    IsOpened start.core → limit ≤ most_limit → Comes rule limit start now pace number → now.tally.moves + 1 < 2 ^ 63
comes-small rule limit start now pace number accepted wide o few c =
    let bound = comes-bounded rule limit start now pace number accepted wide o c in
    let small = bound_small start.core.plan limit accepted few in
    omega (arith, bound, small)

-- and while the program goes on there is a candidate
pub comes-offered : (rule : GuessRule) (limit : ℕ) (start now : RunPlace) (pace : PaceCount) (number : ℕ) → IsAccepted start.core.plan →
    length start.core.state.regs ≡ 32 →
    IsOpened start.core → Comes rule limit start now pace number → now.core.state.ending ≡ None → (r : GuessRule) (count : ℕ) →
    0 < length (offered_by r now.core.plan count now.core.state)
comes-offered rule limit start now pace number accepted wide o c unended r count =
    let paces = comes_paced rule limit start now pace number accepted wide o c in
    omega (arith, paced-offered (limit + 1) show.report start now accepted wide o c.reached paces.0 paces.1 unended r count)

-- the pace has counted the Issue moves
pub comes-counted : (rule : GuessRule) (limit : ℕ) (start now : RunPlace) (pace : PaceCount) (number : ℕ) → Comes rule limit start now pace number →
    (r : GuessRule) × (count : ℕ) × HasCounted r now.core.plan.stages count pace
comes-counted rule limit start now pace number c =
    (rule, c.held, subst (λ (l : Plan). HasCounted rule l.stages c.held pace) (sym (same_plan rule limit start now pace number c)) c.paced)

-- each round has a move, so fewer are left
pub comes-nearer : (rule : GuessRule) (limit : ℕ) (start now new : RunPlace) (pace later : PaceCount) (number : ℕ) (moves round : List Move) (fired : Fired) →
    IsAccepted start.core.plan → length start.core.state.regs ≡ 32 → IsOpened start.core → Comes rule limit start now pace number →
    GoesOn limit now.core.state →
    IsOffered now pace moves round → FiresAll round now new pace later fired
    → most_moves start.core.plan limit - new.tally.moves < most_moves start.core.plan limit - now.tally.moves
comes-nearer rule limit start now new pace later number moves round fired accepted wide o c goes offer f =
    let bound = comes-bounded rule limit start new later (number + 1) accepted wide o (comes-more rule limit start now new pace later number moves round
    fired c goes
    offer f) in
    less (most_moves start.core.plan limit) now.tally.moves new.tally.moves (length f.trace) (count_all f.trace now new f.makes)
    (omega (arith, offer.some, ap length f.moves, moves_length f.trace)) bound
  where
    less : (most now new n : ℕ) → new ≡ now + n → 0 < n → new ≤ most → most - new < most - now
    less most now new n e some h = omega (arith, e, some, h)

-- the run stops where it has arrived
unfoldable pub comes-runs : (rule : GuessRule) (limit : ℕ) (start now new : RunPlace) (pace : PaceCount) (number : ℕ) (answer : Clocked) →
    (c : Comes rule limit start now pace number) →
    StopsRounds rule limit c.held now new answer → RunsRounds rule limit start new number answer
comes-runs rule limit start now new pace number answer c stops = record {
  now = now;
  reaches = c.reached;
  rounds = c.rounds;
  are = c.are;
  held = c.held;
  chosen = c.chosen;
  count = c.count;
  stops = stops;
}

-- the call of the next round failed
pub fails-there : (rule : GuessRule) (limit : ℕ) (start now new : RunPlace) (pace : PaceCount) (number : ℕ) (moves round : List Move) (answer : Answer) →
    (c : Comes rule limit start now pace number) → GoesOn limit now.core.state → IsOffered now pace moves round → round ≡ Serve ∷ [] →
    MoveDoes show.report Serve now new (Err answer)
    → FailsThere rule limit c.held now new answer
fails-there rule limit start now new pace number moves round answer c goes o serves does =
    let plan : now.core.plan ≡ start.core.plan = same_plan rule limit start now pace number c in
    record {
      goes = goes;
      serves = ap (λ (l : Plan). round_of l now.core.state (offered_by rule l c.held now.core.state)) plan
          ∙ sym (chosen_here rule limit start now pace number moves round c o) ∙ serves;
      does = does;
    }

-- and the run is a run of the sequential machine
rounds_come : (rule : GuessRule) (limit : ℕ) (start new : RunPlace) (number : ℕ) (answer : Clocked) → IsAccepted start.core.plan →
    (r : RunsRounds rule limit start new number answer) →
    ComesTo (limit + 1) show.report start (moves_of r.reaches.trace) new (Ran (ran_of answer))
unfolding StopsAt Gets
rounds_come rule limit start new number (Exit status) accepted r = comes_over (limit + 1) show.report start r.now new
    (ran.Exit status) r.reaches r.stops.0 r.stops.1
rounds_come rule limit start new number (Trap cause pc detail) accepted r = comes_over (limit + 1) show.report start r.now new
    (ran.Trap cause pc detail) r.reaches r.stops.0 r.stops.1
rounds_come rule limit start new number Limit accepted r = comes_here (limit + 1) show.report start r.now new (Ran ran.Limit) r.reaches r.stops.1 (λ x m h. h)
    (λ text w. w)
rounds_come rule limit start new number ReportFault accepted r = comes_here (limit + 1) show.report start r.now new (Ran ran.ReportFault) r.reaches r.stops
    (λ x m h. h) (λ text w. part-whole start.report new.report text w)
rounds_come rule limit start new number ReadFault accepted r = comes_unread (limit + 1) show.report start r.now new Serve r.reaches r.stops.does
rounds_come rule limit start new number WriteFault accepted r = comes_unwritten (limit + 1) show.report start r.now new Serve accepted r.reaches r.stops.does

pub rounds-sequential : (rule : GuessRule) (limit : ℕ) (start new : RunPlace) (number : ℕ) (answer : Clocked) → IsAccepted start.core.plan →
    length start.core.state.regs ≡ 32 →
    (r : RunsRounds rule limit start new number answer) → RunsSequentially show.report (moves_of r.reaches.trace) start new (Ran (ran_of answer))
rounds-sequential rule limit start new number answer accepted wide r =
    comes_sequentially (limit + 1) show.report start new (moves_of r.reaches.trace) (Ran (ran_of answer)) accepted wide
    (rounds_come rule limit start new number answer accepted r)

-- what is offered, and its round
pub offers : (now : RunPlace) (pace : PaceCount) (moves round : List Move) → IsProcessor now.core.plan now.core.state →
    ((r : GuessRule) (count : ℕ) → HasCounted r now.core.plan.stages count pace → moves ≡ offered_by r now.core.plan count now.core.state) →
    round ≡ round_of now.core.plan now.core.state moves → IsRound now.core.plan now.core.state round → 0 < length round → IsOffered now pace moves round
offers now pace moves round p are is round_is some =
    record { moves_are = are; round_is = is; is_round = round_is; sidings = has_sidings now.core.plan now.core.state p; some = some }

-- so its moves are candidates, and there is one
pub offered-candidates : (plan : Plan) (s : State) (pace : PaceCount) (moves : List Move) →
    (r : GuessRule) × (count : ℕ) × HasCounted r plan.stages count pace →
    ((r : GuessRule) (count : ℕ) → HasCounted r plan.stages count pace → moves ≡ offered_by r plan count s) → AreCandidates plan s moves
offered-candidates plan s pace moves (r, count, counted) are = subst (AreCandidates plan s) (sym (are r count counted)) (offered_are r plan count s)

pub offered-some : (plan : Plan) (s : State) (pace : PaceCount) (moves : List Move) → (r : GuessRule) × (count : ℕ) × HasCounted r plan.stages count pace →
    ((r : GuessRule) (count : ℕ) → HasCounted r plan.stages count pace → moves ≡ offered_by r plan count s) →
    ((r : GuessRule) (count : ℕ) → 0 < length (offered_by r plan count s)) → 0 < length moves
offered-some plan s pace moves (r, count, counted) are some = omega (arith, some r count, ap length (are r count counted))

-- the run is over before the round
pub turned-over : (limit : ℕ) (now : RunPlace) (pace : PaceCount) (answer : Clocked) → IsOver limit now.core.state (ran_of answer) →
    RoundTurns limit now now pace pace (Some answer)
unfolding RoundTurns
turned-over limit now pace (Exit status) over = (over, refl)
turned-over limit now pace (Trap cause pc detail) over = (over, refl)
turned-over limit now pace Limit over = (over, refl)
turned-over limit now pace ReadFault over = absurd over
turned-over limit now pace WriteFault over = absurd over
turned-over limit now pace ReportFault over = absurd over

-- no stream failed it then
pub over-read : (limit : ℕ) (s : State) (answer : Clocked) → IsOver limit s (ran_of answer) → input_turned (Some answer) ≡ Ok tt
over-read limit s (Exit status) over = refl
over-read limit s (Trap cause pc detail) over = refl
over-read limit s Limit over = refl
over-read limit s ReadFault over = absurd over
over-read limit s WriteFault over = refl
over-read limit s ReportFault over = refl

pub over-written : (limit : ℕ) (s : State) (answer : Clocked) → IsOver limit s (ran_of answer) → output_turned (Some answer) ≡ Ok tt
over-written limit s (Exit status) over = refl
over-written limit s (Trap cause pc detail) over = refl
over-written limit s Limit over = refl
over-written limit s ReadFault over = refl
over-written limit s WriteFault over = absurd over
over-written limit s ReportFault over = refl

-- the round is made, or its call fails, and then that stream failed the turn
pub turned-read : (fired : Fired) → input_turned (finish_with fired) ≡ input_fired fired
turned-read Plain = refl
turned-read (Retired line) = refl
turned-read (Ended end) = refl
turned-read fault.ReadFault = refl
turned-read fault.WriteFault = refl

pub turned-written : (fired : Fired) → output_turned (finish_with fired) ≡ output_fired fired
turned-written Plain = refl
turned-written (Retired line) = refl
turned-written (Ended end) = refl
turned-written fault.ReadFault = refl
turned-written fault.WriteFault = refl

pub turned : (limit : ℕ) (now new : RunPlace) (pace later : PaceCount) (moves round : List Move) (fired : Fired) (turn : Option Clocked) →
    GoesOn limit now.core.state → IsOffered now pace moves round → Fires round now new pace later fired → turn ≡ finish_with fired →
    RoundTurns limit now new pace later turn
unfolding RoundTurns Fires
turned limit now new pace later moves round fired turn goes o f is = subst (λ (t : Option Clocked). RoundTurns limit now new pace later t) (sym is) (by fired f)
  where
    by : (fired : Fired) → Fires round now new pace later fired → RoundTurns limit now new pace later (finish_with fired)
    by Plain f = record { goes = goes; moves = moves; round = round; offer = o; fired = Plain; fires = f }
    by (Retired line) f = record { goes = goes; moves = moves; round = round; offer = o; fired = Retired line; fires = f }
    by (Ended end) f = record { goes = goes; moves = moves; round = round; offer = o; fired = Ended end; fires = f }
    by fault.ReadFault f = record { goes = goes; moves = moves; round = round; offer = o; serves = f.0; does = f.1 }
    by fault.WriteFault f = record { goes = goes; moves = moves; round = round; offer = o; serves = f.0; does = f.1 }

-- a turn after which the run goes on
pub comes-on : (rule : GuessRule) (limit : ℕ) (start now new : RunPlace) (pace later : PaceCount) (number : ℕ) → Comes rule limit start now pace number →
    RoundTurns limit now new pace later None → Comes rule limit start new later (number + 1)
unfolding RoundTurns
comes-on rule limit start now new pace later number c t = comes-more rule limit start now new pace later number t.moves t.round t.fired c t.goes t.offer t.fires

pub comes-closer : (rule : GuessRule) (limit : ℕ) (start now new : RunPlace) (pace later : PaceCount) (number : ℕ) → IsAccepted start.core.plan →
    length start.core.state.regs ≡ 32 → IsOpened start.core → Comes rule limit start now pace number → RoundTurns limit now new pace later None
    → most_moves start.core.plan limit - new.tally.moves < most_moves start.core.plan limit - now.tally.moves
unfolding RoundTurns
comes-closer rule limit start now new pace later number accepted wide o c t = comes-nearer rule limit start now new pace later number t.moves t.round t.fired
    accepted
    wide o c t.goes t.offer t.fires

-- a turn that ends the run
unfoldable pub comes-end : (rule : GuessRule) (limit : ℕ) (start now new : RunPlace) (pace later : PaceCount) (number : ℕ) (answer : Clocked) →
    Comes rule limit start now pace number →
    RoundTurns limit now new pace later (Some answer) → RunsRounds rule limit start new number answer
unfolding RoundTurns
comes-end rule limit start now new pace later number (Exit status) c t = comes-runs rule limit start now new pace number (Exit status) c t
comes-end rule limit start now new pace later number (Trap cause pc detail) c t = comes-runs rule limit start now new pace number (Trap cause pc detail) c t
comes-end rule limit start now new pace later number Limit c t = comes-runs rule limit start now new pace number Limit c t
comes-end rule limit start now new pace later number ReadFault c t = comes-runs rule limit start now new pace number ReadFault c
    (fails-there rule limit start now new pace number t.moves t.round ran.ReadFault c t.goes t.offer t.serves t.does)
comes-end rule limit start now new pace later number WriteFault c t = comes-runs rule limit start now new pace number WriteFault c
    (fails-there rule limit start now new pace number t.moves t.round ran.WriteFault c t.goes t.offer t.serves t.does)
comes-end rule limit start now new pace later number ReportFault c t = absurd t

-- if the run stops, only the moves of the rounds were counted
pub end-bounded : (rule : GuessRule) (limit : ℕ) (start now new : RunPlace) (pace later : PaceCount) (number : ℕ) (answer : Clocked) →
    IsAccepted start.core.plan →
    length start.core.state.regs ≡ 32 → IsOpened start.core → Comes rule limit start now pace number → RoundTurns limit now new pace later (Some answer)
    → new.tally.moves ≤ most_moves start.core.plan limit
unfolding RoundTurns MoveDoes
end-bounded rule limit start now new pace later number answer accepted wide o c t =
    omega (arith, comes-bounded rule limit start now pace number accepted wide o c, same answer t)
  where
    same : (answer : Clocked) → RoundTurns limit now new pace later (Some answer) → new.tally.moves ≡ now.tally.moves
    same (Exit status) t = ap (λ (p : RunPlace). p.tally.moves) t.1
    same (Trap cause pc detail) t = ap (λ (p : RunPlace). p.tally.moves) t.1
    same Limit t = ap (λ (p : RunPlace). p.tally.moves) t.1
    same ReadFault t = ap (λ (a : Tally). a.moves) t.does.0.tally
    same WriteFault t = ap (λ (a : Tally). a.moves) t.does.0.tally
    same ReportFault t = absurd t

-- and ends as that machine does
pub rounds-end : (rule : GuessRule) (limit : ℕ) (start now new : RunPlace) (pace later : PaceCount) (number : ℕ) (answer : Clocked) →
    IsAccepted start.core.plan →
    length start.core.state.regs ≡ 32 → Comes rule limit start now pace number → RoundTurns limit now new pace later (Some answer) →
    EndsSequentially limit start new (Ran (ran_of answer))
unfolding EndsSequentially RoundTurns
rounds-end rule limit start now new pace later number answer accepted wide c turns plan hart opens = by answer turns
  where
    ends : (end : Answer) → new ≡ now → IsOver limit now.core.state end → EndsAsMachine limit hart start new end
    ends end same over = same_place limit hart start now new end same
        (ends-level (limit + 1) limit show.report start now hart end accepted (ap length (sym (opened_regs start.core plan hart opens)) ∙ wide)
        (opened_here start.core plan hart opens) c.reached c.over over)

    by : (answer : Clocked) → RoundTurns limit now new pace later (Some answer) → EndsAlike limit hart start new (Ran (ran_of answer))
    by (Exit status) t = ends (ran.Exit status) t.1 t.0
    by (Trap cause pc detail) t = ends (ran.Trap cause pc detail) t.1 t.0
    by Limit t = ends ran.Limit t.1 t.0
    by ReadFault t = tt
    by WriteFault t = tt
    by ReportFault t = absurd t
