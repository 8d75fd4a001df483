-- The moves of a round, one after the other.
use Rattle.std.proofs.Common.{◌≡◌, ℕ, zero, suc, ◌+◌, ◌<◌, ◌≤◌, Bool, true, false, List, [], ◌∷◌, ◌++◌, length, take, drop, Some, None, Ok, Err, inl, inr, refl, sym, ap, subst, ◌∙◌, append_assoc, arith}
use Rattle.std.specs.Prelude.{◌⊎◌, slice_get, if◌then◌else◌}
use Rattle.std.specs.List.{AllByRecursion}
use Rattle.std.proofs.lemmas.Bool.Decides.{nat_tests}
use Rattle.std.proofs.Math.Seq.{take-length}
use Rattle.run_options.specs.declared.guess_rule.GuessRule.{GuessRule}
use Rattle.run_options.specs.Reportings as show
use Rattle.cf_layout.specs.Layout.{Plan}
use Rattle.cf_bind.specs.declared.moves.Move.{Move}
use Rattle.cf_bind.specs.declared.moves.Move.TheVariants.{Issue, Emit, Climb, Fall, Meet, Execute, Send, Launch, Slide, Access, Recover, Leave, Exit, Serve}
use Rattle.cf_semantics.specs.declared.event.Event.{Event}
use Rattle.cf_semantics.specs.declared.event.Event.TheVariants as event
use Rattle.cf_semantics.specs.moves.Bars.{bar}
use Rattle.cf_semantics.specs.state.Drained.{is_drained}
use Rattle.cf_semantics.specs.moves.Holding.{paced}
use Rattle.cf_semantics.specs.moves.Moves.{next}
use Rattle.cf_semantics.specs.moves.Sites.{Stage}
use Rattle.cf_semantics.specs.state.State.{State, Moment}
use Rattle.theory_refinement.proofs.claims.Runs.{Counts, access_counts, climb_counts, emit_counts, execute_counts, exit_counts, fall_counts, issue_counts, launch_counts, meet_counts, recover_counts, send_counts, serve_counts, slide_counts}
use Rattle.cf_core.specs.Processors.{IsProcessor}
use Rattle.cf_core.specs.Stepping.{Makes}
use Rattle.cf_index.specs.Alone.{HasSidings, stands_alone}
use Rattle.cf_index.specs.Sites.{shares, uses_place}
use Rattle.cf_index.proofs.SharedSites.{shared_at}
use Rattle.cf_index.proofs.Independence.{IsPlain}
use Rattle.cf_report.specs.declared.tally.Tally.{Tally}
use Rattle.cf_sched.specs.Paces.{PaceCount, HasCounted}
use Rattle.run_finishes.specs.declared.finish.Ran.TheVariants as ran
use Rattle.cf_run.specs.Made.{Made, moves_of, counted_event, raised_if}
use Rattle.cf_run.specs.Moving.{RunPlace, MakesAndShows, MoveDoes}
use Rattle.cf_run.proofs.AfterOutput.{next-retired}
use Rattle.cf_rounds.specs.declared.answer.Fired.{Fired}
use Rattle.cf_rounds.specs.declared.answer.Fired.TheVariants.{Plain, Retired, Ended, ReadFault, WriteFault}
use Rattle.cf_rounds.specs.Firing.{MakesAll, HasEvent, IsSeen, is_seen, seen, paced_by, Fires}
use Rattle.cf_rounds.specs.Rounds.{AreApart, IsRound}
use Rattle.cf_rounds.proofs.InOrder.{drop_at}
use Rattle.cf_rounds.proofs.Chosen.{Form, alone, together, round_form}
use Rattle.cf_rounds.proofs.Free.{IsFree, free_step, sidings_stay}

-- one more move
all_more : (trace : List Made) (made : Made) (now mid new : RunPlace) → MakesAll trace now mid → MakesAndShows show.report made.move made.event mid new →
    made.state ≡ new.core.state → MakesAll (trace ++ made ∷ []) now new
unfolding MakesAll
all_more [] made now mid new h d e = (new, subst (λ (p : RunPlace). MakesAndShows show.report made.move made.event p new) h d, e, refl)
all_more (first ∷ trace) made now mid new (there, one, is, h) d e = (there, one, is, all_more trace made there mid new h d e)

none_made : (now new : RunPlace) → MakesAll [] now new → new ≡ now
unfolding MakesAll
none_made now new h = h

moves_more : (trace : List Made) (made : Made) → moves_of (trace ++ made ∷ []) ≡ moves_of trace ++ made.move ∷ []
moves_more [] made = refl
moves_more (first ∷ trace) made = ap (λ (moves : List Move). first.move ∷ moves) (moves_more trace made)

paced_more : (count : ℕ) (trace : List Made) (made : Made) → paced_by count (trace ++ made ∷ [])
    ≡ paced (paced_by count trace) made.move made.event (is_drained made.state)
unfolding paced_by
paced_more count [] made = refl
paced_more count (first ∷ trace) made = paced_more (paced count first.move first.event (is_drained first.state)) trace made

-- what is shown with one more move
all_one : (test : Made → Type 0) (trace : List Made) (made : Made) → AllByRecursion test trace → test made → AllByRecursion test (trace ++ made ∷ [])
all_one test [] made h k = (k, tt)
all_one test (first ∷ trace) made (h, hs) k = (h, all_one test trace made hs k)

event_more : (e : Event) (trace : List Made) (made : Made) → HasEvent e trace → HasEvent e (trace ++ made ∷ [])
event_more e trace made (front, one, after, is, same) =
    (front, one, after ++ made ∷ [], ap (λ (t : List Made). t ++ made ∷ []) is ∙ append_assoc front (one ∷ after) (made ∷ []), same)

event_last : (trace : List Made) (made : Made) → HasEvent made.event (trace ++ made ∷ [])
event_last trace made = (trace, made, [], refl, refl)

pub seen_more : (trace : List Made) (made : Made) (fired : Fired) → IsSeen trace fired → IsSeen (trace ++ made ∷ []) (seen fired made.event)
seen_more trace made fired h = by made.event refl
  where
    kept : (f : Fired) → IsSeen trace f → is_seen made.event ≡ false → IsSeen (trace ++ made ∷ []) f
    kept Plain g e = all_one (λ (m : Made). is_seen m.event ≡ false) trace made g e
    kept (Retired line) g e = event_more (event.Retired line) trace made g
    kept (Ended end) g e = event_more (event.Ended end) trace made g
    kept ReadFault g e = absurd g
    kept WriteFault g e = absurd g

    by : (e : Event) → made.event ≡ e → IsSeen (trace ++ made ∷ []) (seen fired e)
    by (event.Retired line) same = subst (λ (e : Event). HasEvent e (trace ++ made ∷ [])) same (event_last trace made)
    by (event.Ended end) same = subst (λ (e : Event). HasEvent e (trace ++ made ∷ [])) same (event_last trace made)
    by event.Plain same = kept fired h (ap is_seen same)
    by event.Killed same = kept fired h (ap is_seen same)
    by event.Died same = kept fired h (ap is_seen same)

-- how many of some moves are a Leave
abbrev pub is_leave : Move → Bool
is_leave Leave = true
is_leave mv = false

abbrev pub leaves : List Move → ℕ
leaves [] = 0
leaves (mv ∷ moves) = if is_leave mv then suc (leaves moves) else leaves moves

-- only Leave raises the count of retired instructions, and by one, or ends the program
pub kept_counts : (plan : Plan) (m : Moment) (mv : Move) → is_leave mv ≡ false → Counts m.state (next plan m mv).state
unfolding next
kept_counts plan m (Issue g) e = issue_counts plan m.state g
kept_counts plan m Emit e = emit_counts plan m.state
kept_counts plan m (Climb i) e = climb_counts plan m.state i
kept_counts plan m (Fall i) e = fall_counts plan m.state i
kept_counts plan m (Meet i) e = meet_counts plan m.state i
kept_counts plan m (Execute i) e = execute_counts plan m.state i
kept_counts plan m (Send i) e = send_counts plan m.state i
kept_counts plan m (Launch i) e = launch_counts plan m.state i
kept_counts plan m (Slide k c) e = slide_counts plan m.state k c
kept_counts plan m Access e = access_counts plan m.state
kept_counts plan m (Recover i) e = recover_counts plan m.state i
kept_counts plan m Leave e = absurd (cc)
kept_counts plan m Exit e = exit_counts plan m.state
kept_counts plan m Serve e = serve_counts plan m

pub falls : (plan : Plan) (m : Moment) (mv : Move) (rest : List Move) → (next plan m mv).state.retired + leaves rest ≤ m.state.retired + leaves (mv ∷ rest)
falls plan m mv rest = by (is_leave mv) refl
  where
    by : (b : Bool) → is_leave mv ≡ b → (next plan m mv).state.retired + leaves rest ≤ m.state.retired + (if b then suc (leaves rest) else leaves rest)
    by true e = omega (arith, next-retired plan m mv)
    by false e = omega (arith, (kept_counts plan m mv e).retired)

-- two Leaves share the highest stage
pub leave_there : (plan : Plan) → uses_place plan Leave (Stage plan.stages) ≡ true
unfolding uses_place
leave_there plan = grind (arith, nat_tests)

pub both_leave : (plan : Plan) → shares plan Leave Leave ≡ true
both_leave plan = shared_at plan Leave Leave (Stage plan.stages) (leave_there plan) (leave_there plan)

pub leave_one : (mv : Move) → is_leave mv ≡ true → mv ≡ Leave
leave_one Leave e = refl
leave_one (Issue g) e = absurd (cc)
leave_one Emit e = absurd (cc)
leave_one (Climb i) e = absurd (cc)
leave_one (Fall i) e = absurd (cc)
leave_one (Meet i) e = absurd (cc)
leave_one (Execute i) e = absurd (cc)
leave_one (Send i) e = absurd (cc)
leave_one (Launch i) e = absurd (cc)
leave_one (Slide k c) e = absurd (cc)
leave_one Access e = absurd (cc)
leave_one (Recover i) e = absurd (cc)
leave_one Exit e = absurd (cc)
leave_one Serve e = absurd (cc)

none_leaves : (plan : Plan) (round : List Move) → AllByRecursion (λ other. shares plan Leave other ≡ false) round → leaves round ≡ 0
none_leaves plan [] h = refl
none_leaves plan (mv ∷ round) (e, h) = by (is_leave mv) refl (none_leaves plan round h)
  where
    by : (b : Bool) → is_leave mv ≡ b → leaves round ≡ 0 → (if b then suc (leaves round) else leaves round) ≡ 0
    by true f rest = absurd (let both : shares plan Leave mv ≡ true = ap (shares plan Leave) (leave_one mv f) ∙ both_leave plan in cc)
    by false f rest = rest

-- so at most one leaves with a round
few_leaves : (plan : Plan) (round : List Move) → AreApart plan round → leaves round ≤ 1
few_leaves plan [] h = omega arith
few_leaves plan (mv ∷ round) (h, hs) = by (is_leave mv) refl (few_leaves plan round hs)
  where
    by : (b : Bool) → is_leave mv ≡ b → leaves round ≤ 1 → (if b then suc (leaves round) else leaves round) ≤ 1
    by true f rest =
        let apart : AllByRecursion (λ other. shares plan Leave other ≡ false) round = subst
        (λ (a : Move). AllByRecursion (λ other. shares plan a other ≡ false) round) (leave_one mv f) h in
        omega (arith, none_leaves plan round apart)
    by false f rest = rest

one_leaves : (mv : Move) → leaves (mv ∷ []) ≤ 1
one_leaves mv = by (is_leave mv)
  where
    by : (b : Bool) → (if b then 1 else 0) ≤ 1
    by true = omega arith
    by false = omega arith

-- the part of a round that is still to be made: moves that can be made in any order; or, at the start, one that is made
-- alone
abbrev pub IsLeft : Plan → State → (round : List Move) → ℕ → Type 0
IsLeft plan s round place =
    IsFree plan s (drop place round)
    ⊎ ((place ≡ 0) × HasSidings plan s × ((mv : Move) × (bar plan s mv ≡ None) × (round ≡ mv ∷ [])))

-- the moves before an index, with the one there
take_at : (round : List Move) (place : ℕ) (mv : Move) → Some mv ≡ slice_get round place → take (place + 1) round ≡ take place round ++ mv ∷ []
take_at [] place mv e = absurd (cc)
take_at (first ∷ round) zero mv e = let same : first ≡ mv = cc in ap (λ (m : Move). m ∷ []) same
take_at (first ∷ round) (suc place) mv e = let one : suc place + 1 ≡ suc (place + 1) = omega arith in
    rw one (ap (λ (moves : List Move). first ∷ moves) (take_at round place mv e))

one_there : (round : List Move) (other mv : Move) (place : ℕ) → place ≡ 0 → round ≡ other ∷ [] → Some mv ≡ slice_get round place → mv ≡ other
one_there round other mv place at is e =
    let here : Some mv ≡ Some other = e ∙ ap (slice_get round) at ∙ ap (λ (r : List Move). slice_get r 0) is in
    cc

-- the move whose turn it is can be made
pub left_allowed : (plan : Plan) (s : State) (round : List Move) (place : ℕ) (mv : Move) → IsLeft plan s round place → Some mv ≡ slice_get round place →
    bar plan s mv ≡ None
left_allowed plan s round place mv (inl f) e = (subst (AllByRecursion (IsPlain plan s)) (drop_at round place mv e) f.plain).0.allowed
left_allowed plan s round place mv (inr (at, sidings, (other, free, is))) e = ap (bar plan s) (one_there round other mv place at is e) ∙ free

-- and if it is Serve, it is alone
pub left_serves : (plan : Plan) (s : State) (round : List Move) (place : ℕ) (mv : Move) → IsLeft plan s round place → Some mv ≡ slice_get round place →
    mv ≡ Serve → (place ≡ 0) × (round ≡ Serve ∷ [])
left_serves plan s round place mv (inl f) e serves =
    let plain : stands_alone plan s mv ≡ false = (subst (AllByRecursion (IsPlain plan s)) (drop_at round place mv e) f.plain).0.plain in
    let never : stands_alone plan s Serve ≡ false = ap (stands_alone plan s) (sym serves) ∙ plain in
    absurd (cc)
left_serves plan s round place mv (inr (at, sidings, (other, free, is))) e serves =
    (at, is ∙ ap (λ (m : Move). m ∷ []) (sym (one_there round other mv place at is e) ∙ serves))

-- after it is made, the others are left
left_step : (plan : Plan) (m : Moment) (round : List Move) (place : ℕ) (mv : Move) → IsLeft plan m.state round place → Some mv ≡ slice_get round place →
    IsLeft plan (next plan m mv).state round (place + 1)
left_step plan m round place mv (inl f) e = inl (free_step plan m mv (drop (place + 1) round) (subst (IsFree plan m.state) (drop_at round place mv e) f))
left_step plan m round place mv (inr (at, sidings, (other, free, is))) e =
    let same : mv ≡ other = one_there round other mv place at is e in
    let none : drop (place + 1) round ≡ [] = ap (λ (n : ℕ). drop (n + 1) round) at ∙ ap (drop (0 + 1)) is in
    inl (subst (IsFree plan (next plan m mv).state) (sym none)
    (record { sidings = sidings_stay plan m mv (ap (bar plan m.state) same ∙ free) sidings; plain = tt; apart = tt }))

-- a round from its start
pub left_first : (plan : Plan) (s : State) (round : List Move) → HasSidings plan s → IsRound plan s round → IsLeft plan s round 0 × (leaves round ≤ 1)
left_first plan s round sidings r = by (round_form plan s round sidings r)
  where
    by : Form plan s round → IsLeft plan s round 0 × (leaves round ≤ 1)
    by (alone mv free stands is) = (inr (refl, sidings, (mv, free, is)), subst (λ (moves : List Move). leaves moves ≤ 1) (sym is) (one_leaves mv))
    by (together f) = (inl f, few_leaves plan round f.apart)

-- the moves of a round so far
pub record FiredSoFar (plan : Plan) (round : List Move) (start now : RunPlace) (pace current : PaceCount) (fired : Fired) (place : ℕ) : Type 0 where
  pub trace : List Made
  pub moves : moves_of trace ≡ take place round
  pub makes : MakesAll trace start now
  pub seen : IsSeen trace fired
  pub paced : (rule : GuessRule) (stages count : ℕ) → HasCounted rule stages count pace → HasCounted rule stages (paced_by count trace) current
  pub plan_is : now.core.plan ≡ plan
  pub left : IsLeft plan now.core.state round place
  pub first : place ≡ 0 → (now ≡ start) × (current ≡ pace)
  pub retired : now.core.state.retired + leaves (drop place round) ≤ start.core.state.retired + 1
  pub counts : (now.tally.moves ≤ start.tally.moves + place) × (now.tally.meets ≤ start.tally.meets + place) × (now.tally.kills ≤ start.tally.kills + place)
      × (now.tally.dead ≤ start.tally.dead + place)

pub fired-none : (start : RunPlace) (pace : PaceCount) (round : List Move) → IsProcessor start.core.plan start.core.state →
    HasSidings start.core.plan start.core.state → IsRound start.core.plan start.core.state round →
    FiredSoFar start.core.plan round start start pace pace Plain 0
unfolding MakesAll paced_by
fired-none start pace round p sidings r =
    let first = left_first start.core.plan start.core.state round sidings r in
    record {
      trace = [];
      moves = refl;
      makes = refl;
      seen = tt;
      paced = λ rule stages count h. h;
      plan_is = refl;
      left = first.0;
      first = λ e. (refl, refl);
      retired = omega (arith, first.1);
      counts = (omega arith, omega arith, omega arith, omega arith);
    }

raised : (b : Bool) (n m place : ℕ) → n ≤ m + place → raised_if b n ≤ m + (place + 1)
raised true n m place h = omega arith
raised false n m place h = omega arith

-- with the move whose turn it is, and its event
pub fired-more : (plan : Plan) (round : List Move) (start now new : RunPlace) (pace current later : PaceCount) (fired answer : Fired) (place : ℕ) (mv : Move)
    (e : Event) (drained : Bool) → FiredSoFar plan round start now pace current fired place → Some mv ≡ slice_get round place
    → MoveDoes show.report mv now new (Ok e) → drained ≡ is_drained new.core.state → ((rule : GuessRule) (stages count : ℕ) → HasCounted rule stages count
    current →
    HasCounted rule stages (paced count mv e drained) later) → answer ≡ seen fired e
    → FiredSoFar plan round start new pace later answer (place + 1)
unfolding MoveDoes
fired-more plan round start now new pace current later fired answer place mv e drained h there d drained_is counts answer_is =
    let made : Made = record { move = mv; event = e; state = new.core.state } in
    let makes : Makes now.core new.core mv now.streams new.streams = d.makes.makes in
    let m : Moment = record { state = now.core.state; rest = makes.rest; output = [] } in
    let state : (next plan m mv).state ≡ new.core.state = ap (λ (l : Plan). (next l m mv).state) (sym h.plan_is) ∙ ap (λ (q : Moment). q.state) makes.is in
    let left : IsLeft plan (next plan m mv).state round (place + 1) = left_step plan m round place mv h.left there in
    let less : (next plan m mv).state.retired + leaves (drop (place + 1) round) ≤ now.core.state.retired + leaves (mv ∷ drop (place + 1) round) =
    falls plan m mv (drop (place + 1) round) in
    let all : leaves (drop place round) ≡ leaves (mv ∷ drop (place + 1) round) = ap leaves (drop_at round place mv there) in
    let tally : new.tally ≡ counted_event now.tally mv e = d.makes.tally in
    record {
      trace = h.trace ++ made ∷ [];
      moves = moves_more h.trace made ∙ ap (λ (moves : List Move). moves ++ mv ∷ []) h.moves ∙ sym (take_at round place mv there);
      makes = all_more h.trace made start now new h.makes d refl;
      seen = subst (λ (f : Fired). IsSeen (h.trace ++ made ∷ []) f) (sym answer_is) (seen_more h.trace made fired h.seen);
      paced = λ rule stages count held. subst (λ (n : ℕ). HasCounted rule stages n later) (ap (paced (paced_by count h.trace) mv e) drained_is
          ∙ sym (paced_more count h.trace made)) (counts rule stages (paced_by count h.trace) (h.paced rule stages count held));
      plan_is = makes.plan ∙ h.plan_is;
      left = subst (λ (s : State). IsLeft plan s round (place + 1)) state left;
      first = λ none. absurd (omega (arith, none));
      retired = omega (arith, less, all, ap (λ (s : State). s.retired) state, h.retired);
      counts = (
        subst (λ (t : Tally). t.moves ≤ start.tally.moves + (place + 1)) (sym tally) (omega (arith, h.counts.0)),
        subst (λ (t : Tally). t.meets ≤ start.tally.meets + (place + 1)) (sym tally) (raised _ _ _ _ h.counts.1),
        subst (λ (t : Tally). t.kills ≤ start.tally.kills + (place + 1)) (sym tally) (raised _ _ _ _ h.counts.2),
        subst (λ (t : Tally). t.dead ≤ start.tally.dead + (place + 1)) (sym tally) (raised _ _ _ _ h.counts.3),
      );
    }

-- the move whose turn it is can be made
pub fired-allowed : (plan : Plan) (round : List Move) (start now : RunPlace) (pace current : PaceCount) (fired : Fired) (place : ℕ) (mv : Move) →
    FiredSoFar plan round start now pace current fired place → Some mv ≡ slice_get round place → bar now.core.plan now.core.state mv ≡ None
fired-allowed plan round start now pace current fired place mv h there = ap (λ (l : Plan). bar l now.core.state mv) h.plan_is
    ∙ left_allowed plan now.core.state round place mv h.left there

-- and if it is Leave, as many instructions may retire as at the start
pub fired-room : (plan : Plan) (round : List Move) (start now : RunPlace) (pace current : PaceCount) (fired : Fired) (place : ℕ) (mv : Move) (most : ℕ) →
    FiredSoFar plan round start now pace current fired place → Some mv ≡ slice_get round place → start.core.state.retired + 1 < most → mv ≡ Leave →
    now.core.state.retired + 1 < most
fired-room plan round start now pace current fired place mv most h there room leave =
    let left : leaves (drop place round) ≡ suc (leaves (drop (place + 1) round)) =
    ap leaves (drop_at round place mv there ∙ ap (λ (m : Move). m ∷ drop (place + 1) round) leave) in
    omega (arith, left, h.retired, room)

-- all moves of a round were made
take_all : (round : List Move) (place : ℕ) → place ≡ length round → take place round ≡ round
take_all round place e = rw e (take-length round)

pub fired-all : (plan : Plan) (round : List Move) (start now : RunPlace) (pace current : PaceCount) (fired : Fired) (place : ℕ) → place ≡ length round →
    FiredSoFar plan round start now pace current fired place → Fires round start now pace current fired
unfolding Fires
fired-all plan round start now pace current Plain place all h =
    record { trace = h.trace; moves = h.moves ∙ take_all round place all; makes = h.makes; seen = h.seen; paced = h.paced }
fired-all plan round start now pace current (Retired line) place all h =
    record { trace = h.trace; moves = h.moves ∙ take_all round place all; makes = h.makes; seen = h.seen; paced = h.paced }
fired-all plan round start now pace current (Ended end) place all h =
    record { trace = h.trace; moves = h.moves ∙ take_all round place all; makes = h.makes; seen = h.seen; paced = h.paced }
fired-all plan round start now pace current ReadFault place all h = absurd h.seen
fired-all plan round start now pace current WriteFault place all h = absurd h.seen

-- the input or the output failed its call
pub fired-unread : (plan : Plan) (round : List Move) (start now new : RunPlace) (pace current : PaceCount) (fired : Fired) (place : ℕ) (mv : Move) →
    FiredSoFar plan round start now pace current fired place → Some mv ≡ slice_get round place → MoveDoes show.report mv now new (Err ran.ReadFault)
    → Fires round start new pace current ReadFault
unfolding Fires MoveDoes
fired-unread plan round start now new pace current fired place mv h there d =
    let alone = left_serves plan now.core.state round place mv h.left there d.0.serves in
    let start_is = h.first alone.0 in (
      alone.1,
      subst (λ (p : RunPlace). MoveDoes show.report Serve p new (Err ran.ReadFault)) start_is.0
          (subst (λ (m : Move). MoveDoes show.report m now new (Err ran.ReadFault)) d.0.serves d),
      start_is.1,
    )

pub fired-unwritten : (plan : Plan) (round : List Move) (start now new : RunPlace) (pace current : PaceCount) (fired : Fired) (place : ℕ) (mv : Move) →
    FiredSoFar plan round start now pace current fired place → Some mv ≡ slice_get round place → MoveDoes show.report mv now new (Err ran.WriteFault)
    → Fires round start new pace current WriteFault
unfolding Fires MoveDoes
fired-unwritten plan round start now new pace current fired place mv h there d =
    let alone = left_serves plan now.core.state round place mv h.left there d.0.serves in
    let start_is = h.first alone.0 in (
      alone.1,
      subst (λ (p : RunPlace). MoveDoes show.report Serve p new (Err ran.WriteFault)) start_is.0
          (subst (λ (m : Move). MoveDoes show.report m now new (Err ran.WriteFault)) d.0.serves d),
      start_is.1,
    )
