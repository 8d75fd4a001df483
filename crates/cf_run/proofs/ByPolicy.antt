-- The run of a policy: the next turn, and where the run arrives, whatever stops it there.
use Rattle.std.proofs.Common.{◌≡◌, ℕ, ◌-◌, ◌≤◌, List, [], ◌∷◌, ◌++◌, Option, Some, Err, refl, sym, ap, subst, ◌∙◌, inl, inr, append-nil, length}
use Rattle.std.specs.Prelude.{◌⊎◌}
use Rattle.run_options.specs.declared.guess_rule.GuessRule.{GuessRule}
use Rattle.run_options.specs.declared.reporting.Reporting.{Reporting}
use Rattle.cf_layout.specs.Accepted.{IsAccepted}
use Rattle.cf_layout.specs.Layout.{Plan}
use Rattle.cf_bind.specs.declared.moves.Move.{Move}
use Rattle.cf_semantics.specs.declared.event.Event.{Event}
use Rattle.cf_core.specs.Processors.{Processor, IsOpened}
use Rattle.cf_report.specs.declared.tally.Tally.{Tally}
use Rattle.run_finishes.specs.declared.finish.Ran.{Ran as Answer}
use Rattle.run_finishes.specs.declared.finish.Ran.TheVariants as ran
use Rattle.run_finishes.specs.declared.finish.Scripted.TheVariants.{Ran}
use Rattle.cf_run.specs.Asking.{SomeAsks}
use Rattle.cf_run.specs.Going.{moment_of}
use Rattle.cf_run.specs.Headline.{RunsSequentially}
use Rattle.cf_run.specs.Made.{Made, moves_of}
use Rattle.cf_run.specs.Moving.{RunPlace, FailsBefore, MoveDoes, MoveGoes, shown_of}
use Rattle.cf_run.specs.Policies.{Chooser, fresh_chooser, choice, offered_to, after_choice, Picks, TakesPick, StopsPolicy, RunsPolicy, ChoiceAsks, made_or_none, most_moves}
use Rattle.cf_run.specs.Reaching.{Reaches, GoesOn, IsOver}
use Rattle.cf_run.proofs.Asked.{one-more}
use Rattle.cf_run.proofs.Bounds.{reached-bounded}
use Rattle.cf_run.proofs.Headline.{comes_sequentially}
use Rattle.cf_run.proofs.Picking.{picks-more}
use Rattle.cf_run.proofs.Runs.{reached-more, reached-trace}
use Rattle.cf_run.proofs.Stopping.{ComesTo, comes_over, comes_unread, comes_unwritten, comes_unshown, comes_unpassed, filled, shown_too}

-- the picks that lead here are picks of the policy
abbrev pub PicksTo : {P : Type 0} → (rule : GuessRule) (picked : P → List Move → ℕ) → (onward : P → List Move → P) → (begin : RunPlace) → P → List Made →
    Chooser P → Type 0
PicksTo rule picked onward begin policy trace at = Picks picked onward begin.core.plan (fresh_chooser rule policy) begin.core.state trace at

-- the move that was taken
abbrev pub taken : {P : Type 0} (picked : P → List Move → ℕ) (limit : ℕ) (shows : Reporting) (at : Chooser P) (now new : RunPlace) →
    TakesPick picked limit shows at now new → Made
taken picked limit shows at now new t = record { move = t.move; event = t.event; state = new.core.state }

-- the policy after it
abbrev pub chooser_after : {P : Type 0} (picked : P → List Move → ℕ) (onward : P → List Move →
    P) (limit : ℕ) (shows : Reporting) (at : Chooser P) (now new : RunPlace) → TakesPick picked limit shows at now new → Chooser P
chooser_after picked onward limit shows at now new t = after_choice onward now.core.plan at now.core.state (taken picked limit shows at now new t)

-- a turn whose move stops the run
pub chosen-stops : {P : Type 0} (picked : P → List Move → ℕ) (onward : P → List Move → P) (limit : ℕ) (shows : Reporting) (at : Chooser P) (now new : RunPlace)
    (later : P) (mv : Move) (answer : Answer) → GoesOn limit now.core.state → choice picked now.core.plan at now.core.state ≡ Some mv →
    later ≡ onward at.policy (offered_to now.core.plan at now.core.state) → MoveGoes shows mv now new (Err answer)
    → StopsPolicy picked onward limit shows at now new later answer
unfolding MoveDoes
chosen-stops picked onward limit shows at now new later mv ran.ReadFault goes chosen on does =
    record { goes = goes; move = mv; choice_is = chosen; later_is = on; does = does }
chosen-stops picked onward limit shows at now new later mv ran.WriteFault goes chosen on does =
    record { goes = goes; move = mv; choice_is = chosen; later_is = on; does = does }
chosen-stops picked onward limit shows at now new later mv ran.ReportFault goes chosen on does =
    record { goes = goes; move = mv; choice_is = chosen; later_is = on; does = does }
chosen-stops picked onward limit shows at now new later mv (ran.Exit status) goes chosen on does = absurd does
chosen-stops picked onward limit shows at now new later mv (ran.Trap cause pc detail) goes chosen on does = absurd does
chosen-stops picked onward limit shows at now new later mv ran.Limit goes chosen on does = absurd does

-- a turn before which the run is over
pub over-stops : {P : Type 0} (picked : P → List Move → ℕ) (onward : P → List Move → P) (limit : ℕ) (shows : Reporting) (at : Chooser P) (now : RunPlace)
    (answer : Answer) → IsOver limit now.core.state answer → StopsPolicy picked onward limit shows at now now at.policy answer
over-stops picked onward limit shows at now (ran.Exit status) over = (over, refl, refl)
over-stops picked onward limit shows at now (ran.Trap cause pc detail) over = (over, refl, refl)
over-stops picked onward limit shows at now ran.Limit over = (over, refl, refl)
over-stops picked onward limit shows at now ran.ReadFault over = absurd over
over-stops picked onward limit shows at now ran.WriteFault over = absurd over
over-stops picked onward limit shows at now ran.ReportFault over = absurd over

-- one more turn
pub turned-more : {P : Type 0} (picked : P → List Move → ℕ) (limit : ℕ) (shows : Reporting) (begin now new : RunPlace) (at : Chooser P) →
    Reaches limit shows begin now → TakesPick picked limit shows at now new → Reaches limit shows begin new
unfolding MoveDoes
turned-more picked limit shows begin now new at h t = reached-more limit shows begin now new t.move t.event h t.goes.below t.does

pub turned-trace : {P : Type 0} (picked : P → List Move → ℕ) (limit : ℕ) (shows : Reporting) (begin now new : RunPlace) (at : Chooser P)
    (h : Reaches limit shows begin now) (t : TakesPick picked limit shows at now new) → (turned-more picked limit shows begin now new at h t).trace ≡ h.trace
    ++ taken picked limit shows at now new t ∷ []
unfolding MoveDoes turned-more
turned-trace picked limit shows begin now new at h t = reached-trace limit shows begin now new t.move t.event h t.goes.below t.does

pub turned-picks : {P : Type 0} (rule : GuessRule) (picked : P → List Move → ℕ) (onward : P → List Move → P) (limit : ℕ) (shows : Reporting)
    (begin now new : RunPlace) (policy : P)
    (at : Chooser P) (h : Reaches limit shows begin now) (t : TakesPick picked limit shows at now new) → PicksTo rule picked onward begin policy h.trace at
    → PicksTo rule picked onward begin policy (turned-more picked limit shows begin now new at h t).trace (chooser_after picked onward limit shows at now new t)
turned-picks {P} rule picked onward limit shows begin now new policy at h t picks =
    let plan : Plan = begin.core.plan in
    let made : Made = taken picked limit shows at now new t in
    let C : Processor → Type 0 = λ p. choice picked p.plan at p.state ≡ Some t.move in
    let next : choice picked plan at h.last.state ≡ Some t.move = subst C h.core t.choice_is in
    let more : PicksTo rule picked onward begin policy (h.trace ++ made ∷ []) (after_choice onward plan at h.last.state made) =
    picks-more picked onward plan limit begin.streams.input (moment_of begin.core h.rest) h.trace h.last (fresh_chooser rule policy) at made h.leads picks
    next in
    let same : chooser_after picked onward limit shows at now new t ≡ after_choice onward plan at h.last.state made =
    ap (λ (p : Processor). after_choice onward p.plan at p.state made) h.core in
    let there : PicksTo rule picked onward begin policy (h.trace ++ made ∷ []) (chooser_after picked onward limit shows at now new t) =
    subst (λ (c : Chooser P). PicksTo rule picked onward begin policy (h.trace ++ made ∷ []) c) (sym same) more in
    subst (λ (trace : List Made). PicksTo rule picked onward begin policy trace (chooser_after picked onward limit shows at now new t))
    (sym (turned-trace picked limit shows begin now new at h t)) there

-- a stream that no move used is unchanged, with one more move
same_choice : (chosen : Option Move) (mv last : Move) → chosen ≡ Some mv → chosen ≡ Some last → mv ≡ last
same_choice chosen mv last e f = cc

pub unasked-turn : {P T : Type 0} (picked : P → List Move → ℕ) (asks : Processor → Move → Type 0) (limit : ℕ) (shows : Reporting) (begin now new : RunPlace)
    (at : Chooser P) (h : Reaches limit shows begin now) (t : TakesPick picked limit shows at now new) (first between last : T)
    → ((SomeAsks asks begin.core.plan begin.core.state h.trace → ⊥) → between ≡ first) → ((ChoiceAsks asks picked limit at now.core → ⊥) → last ≡ between)
    → (SomeAsks asks begin.core.plan begin.core.state (turned-more picked limit shows begin now new at h t).trace → ⊥) → last ≡ first
unasked-turn {P} {T} picked asks limit shows begin now new at h t first between last before one unasked =
    one (λ next. unasked (there (inr (subst (asks now.core) (same_choice (choice picked now.core.plan at now.core.state) next.move t.move next.choice_is
    t.choice_is) next.asked))))
    ∙ before (λ some. unasked (there (inl some)))
  where
    there : SomeAsks asks begin.core.plan begin.core.state h.trace ⊎ asks now.core t.move →
        SomeAsks asks begin.core.plan begin.core.state (turned-more picked limit shows begin now new at h t).trace
    there asked = subst (SomeAsks asks begin.core.plan begin.core.state) (sym (turned-trace picked limit shows begin now new at h t))
        (one-more asks limit shows begin now h (taken picked limit shows at now new t) asked)

-- no moves after the others
nothing_last : (moves before : List Move) → moves ≡ before ++ [] → before ≡ moves
nothing_last moves before e = sym (e ∙ append-nil before)

-- a run that stops because its report failed, after its last move or before a further one
reported-comes : (limit : ℕ) (shows : Reporting) (begin now new : RunPlace) (mv : Move) (moves : List Move) (h : Reaches limit shows begin now) →
    GoesOn limit now.core.state → (stopped : MoveDoes shows mv now new (Err ran.ReportFault) ⊎ FailsBefore mv now new) →
    moves ≡ moves_of h.trace ++ made_or_none mv stopped → ComesTo limit shows begin moves new (Ran ran.ReportFault)
reported-comes limit shows begin now new mv moves h goes (inl after) made =
    subst (λ (m : List Move). ComesTo limit shows begin m new (Ran ran.ReportFault)) (sym made) (comes_unshown limit shows begin now new mv h goes.below after)
reported-comes limit shows begin now new mv moves h goes (inr before) made =
    subst (λ (m : List Move). ComesTo limit shows begin m new (Ran ran.ReportFault)) (nothing_last moves (moves_of h.trace) made)
    (comes_unpassed limit shows begin now new mv h before)

-- whatever stops it, the run of a policy reached some RunPlace by the moves that it made, and stopped there
pub policy-comes : {P : Type 0} (rule : GuessRule) (picked : P → List Move → ℕ) (onward : P → List Move → P) (limit : ℕ) (shows : Reporting)
    (begin new : RunPlace)
    (policy later : P)
    (moves : List Move) (answer : Answer) → IsAccepted begin.core.plan → RunsPolicy rule picked onward limit shows begin new policy later moves answer →
    ComesTo limit shows begin moves new (Ran answer)
policy-comes rule picked onward limit shows begin new policy later moves (ran.Exit status) accepted r =
    subst (λ (m : List Move). ComesTo limit shows begin m new (Ran (ran.Exit status))) (nothing_last moves (moves_of r.reaches.trace) r.made)
    (comes_over limit shows begin r.now new (ran.Exit status) r.reaches r.stops.0 r.stops.1)
policy-comes rule picked onward limit shows begin new policy later moves (ran.Trap cause pc detail) accepted r =
    subst (λ (m : List Move). ComesTo limit shows begin m new (Ran (ran.Trap cause pc detail))) (nothing_last moves (moves_of r.reaches.trace) r.made)
    (comes_over limit shows begin r.now new (ran.Trap cause pc detail) r.reaches r.stops.0 r.stops.1)
policy-comes rule picked onward limit shows begin new policy later moves ran.Limit accepted r =
    subst (λ (m : List Move). ComesTo limit shows begin m new (Ran ran.Limit)) (nothing_last moves (moves_of r.reaches.trace) r.made)
    (comes_over limit shows begin r.now new ran.Limit r.reaches r.stops.0 r.stops.1)
policy-comes rule picked onward limit shows begin new policy later moves ran.ReadFault accepted r =
    subst (λ (m : List Move). ComesTo limit shows begin m new (Ran ran.ReadFault)) (nothing_last moves (moves_of r.reaches.trace) r.made)
    (comes_unread limit shows begin r.now new r.stops.move r.reaches r.stops.does)
policy-comes rule picked onward limit shows begin new policy later moves ran.WriteFault accepted r =
    subst (λ (m : List Move). ComesTo limit shows begin m new (Ran ran.WriteFault)) (nothing_last moves (moves_of r.reaches.trace) r.made)
    (comes_unwritten limit shows begin r.now new r.stops.move accepted r.reaches r.stops.does)
policy-comes rule picked onward limit shows begin new policy later moves ran.ReportFault accepted r =
    reported-comes limit shows begin r.now new r.stops.move moves r.reaches r.stops.goes r.stops.does r.made

-- so it is a run of the sequential machine
pub policy-sequential : {P : Type 0} (rule : GuessRule) (picked : P → List Move → ℕ) (onward : P → List Move →
    P) (limit : ℕ) (shows : Reporting) (begin new : RunPlace) (policy later : P) (moves : List Move) (answer : Answer) → IsAccepted begin.core.plan →
    length begin.core.state.regs ≡ 32 → RunsPolicy rule picked onward limit shows begin new policy later moves answer →
    RunsSequentially shows moves begin new (Ran answer)
policy-sequential rule picked onward limit shows begin new policy later moves answer accepted wide r =
    comes_sequentially limit shows begin new moves (Ran answer) accepted wide (policy-comes rule picked onward limit shows begin new policy later moves answer
    accepted r)

-- the RunPlace of a run whose report failed, as if it had not failed
abbrev unfailed : (shows : Reporting) (now new : RunPlace) → Move → Event → RunPlace
unfailed shows now new mv e = record new { report = filled now.report (shown_of shows mv e now new) }

-- it has a bounded number of moves
pub policy-bounded : {P : Type 0} (rule : GuessRule) (picked : P → List Move → ℕ) (onward : P → List Move → P) (limit : ℕ) (shows : Reporting)
    (begin new : RunPlace) (policy later : P)
    (moves : List Move) (answer : Answer) → IsAccepted begin.core.plan → length begin.core.state.regs ≡ 32 → IsOpened begin.core →
    RunsPolicy rule picked onward limit shows begin new policy later moves answer
    → new.tally.moves ≤ most_moves begin.core.plan (new.core.state.retired - begin.core.state.retired)
unfolding MoveDoes
policy-bounded {P} rule picked onward limit shows begin new policy later moves answer accepted wide o r = go answer r.stops
  where
    Within : RunPlace → Type 0
    Within place = place.tally.moves ≤ most_moves begin.core.plan (place.core.state.retired - begin.core.state.retired)

    here : Within r.now
    here = reached-bounded rule picked onward limit shows begin r.now policy r.at accepted wide o r.reaches r.picks

    -- a call that fails counts nothing and retires nothing
    failed : (place : RunPlace) → place.tally ≡ r.now.tally → place.core.state.retired ≡ r.now.core.state.retired → Within place
    failed place tally retired =
        subst (λ (n : ℕ). place.tally.moves ≤ most_moves begin.core.plan (n - begin.core.state.retired)) (sym retired)
        (subst (λ (n : ℕ). n ≤ most_moves begin.core.plan (r.now.core.state.retired - begin.core.state.retired)) (sym (ap (λ (t : Tally). t.moves) tally)) here)

    -- the last move counts if the report failed after it
    reported : (mv : Move) → GoesOn limit r.now.core.state → choice picked r.now.core.plan r.at r.now.core.state ≡ Some mv →
        MoveDoes shows mv r.now new (Err ran.ReportFault) ⊎ FailsBefore mv r.now new → Within new
    reported mv goes chosen (inl after) =
        let full : RunPlace = unfailed shows r.now new mv after.0 in
        let t : TakesPick picked limit shows r.at r.now full = record {
          goes = goes;
          move = mv;
          choice_is = chosen;
          event = after.0;
          does = shown_too shows mv after.0 r.now new after.1.makes;
        } in
        reached-bounded rule picked onward limit shows begin full policy (chooser_after picked onward limit shows r.at r.now full t) accepted wide o
        (turned-more picked limit shows begin r.now full r.at r.reaches t) (turned-picks rule picked onward limit shows begin r.now full policy r.at r.reaches t
        r.picks)
    reported mv goes chosen (inr before) = failed new before.tally (ap (λ (p : Processor). p.state.retired) before.core)

    go : (answer : Answer) → StopsPolicy picked onward limit shows r.at r.now new later answer → Within new
    go (ran.Exit status) stops = subst Within (sym stops.1) here
    go (ran.Trap cause pc detail) stops = subst Within (sym stops.1) here
    go ran.Limit stops = subst Within (sym stops.1) here
    go ran.ReadFault stops = failed new stops.does.0.tally (ap (λ (p : Processor). p.state.retired) stops.does.1.processor)
    go ran.WriteFault stops = failed new stops.does.0.tally (ap (λ (p : Processor). p.state.retired) stops.does.1.processor)
    go ran.ReportFault stops = reported stops.move stops.goes stops.choice_is stops.does
