-- Where the run of a policy has arrived, by a pace that counts only until the candidates are held.
use Rattle.std.proofs.Common.{◌≡◌, ℕ, ◌+◌, ◌-◌, ◌≤◌, ◌<◌, ◌^◌, List, ◌++◌, Bool, None, inl, inr, refl, sym, ap, subst, ◌∙◌, length, arith}
use Rattle.std.specs.Prelude.{slice_get}
use Rattle.run_options.specs.Limits.{most_limit}
use Rattle.run_options.specs.declared.guess_rule.GuessRule.{GuessRule}
use Rattle.run_options.specs.declared.reporting.Reporting.{Reporting}
use Rattle.cf_layout.specs.Accepted.{IsAccepted}
use Rattle.cf_layout.specs.Layout.{Plan}
use Rattle.cf_bind.specs.declared.moves.Move.{Move}
use Rattle.cf_semantics.specs.declared.event.Event.{Event}
use Rattle.cf_semantics.specs.state.Drained.{is_drained}
use Rattle.cf_semantics.specs.moves.Holding.{paced}
use Rattle.cf_core.specs.Asking.{AsksInput, AsksOutput}
use Rattle.cf_core.specs.Processors.{Processor, IsOpened}
use Rattle.cf_report.specs.declared.tally.Tally.{Tally}
use Rattle.cf_sched.specs.Paces.{PaceCount, offered_by, saw, stopped}
use Rattle.run_finishes.specs.declared.finish.Ran.{Ran as Answer}
use Rattle.run_finishes.specs.declared.finish.Ran.TheVariants as ran
use Rattle.cf_run.specs.Asking.{SomeAsks}
use Rattle.cf_run.specs.Made.{Made, moves_of}
use Rattle.cf_run.specs.Moving.{RunPlace, MoveDoes}
use Rattle.cf_run.specs.Policies.{Chooser, chooser, fresh_chooser, choice, offered_to, Picks, TakesPick, Turned, StopsAtPick, StopsPolicy, RunsPolicy, ChoiceAsks, PolicyUnasked, made_last, most_moves}
use Rattle.cf_run.specs.Reaching.{no_tally, Reaches}
use Rattle.cf_run.specs.Sweeps.{HasPicked}
use Rattle.cf_run.proofs.Bounds.{bound_grows, bound_small, reached-bounded, reached-offered}
use Rattle.cf_run.proofs.Asked.{one-more}
use Rattle.cf_run.proofs.ByPolicy.{PicksTo, chooser_after, taken, turned-more, turned-picks, turned-trace, unasked-turn}
use Rattle.cf_run.proofs.Runs.{reached-none, none-trace, made-within}
use Rattle.cf_run.proofs.Stopped.{offered-stopped, paced-stopped}

-- no pick yet
pub comes-first : {P : Type 0} (rule : GuessRule) (picked : P → List Move → ℕ) (onward : P → List Move → P) (limit : ℕ) (shows : Reporting) (begin : RunPlace)
    (policy : P)
    (held stages : ℕ) → begin.tally ≡ no_tally → stages ≡ begin.core.plan.stages → held ≡ stopped stages 0 →
    HasPicked rule picked onward limit shows begin begin policy policy held
unfolding Picks
comes-first rule picked onward limit shows begin policy held stages none beside zero_held = record {
  at = fresh_chooser rule policy;
  reached = reached-none limit shows begin none;
  picks = subst (λ (trace : List Made). PicksTo rule picked onward begin policy trace (fresh_chooser rule policy)) (sym (none-trace limit shows begin none))
      refl;
  rule_is = refl;
  policy_is = refl;
  count_is = zero_held ∙ ap (λ (n : ℕ). stopped n 0) beside;
}

-- the layout is unchanged
same_plan : (limit : ℕ) (shows : Reporting) (begin now : RunPlace) → Reaches limit shows begin now → now.core.plan ≡ begin.core.plan
same_plan limit shows begin now h = ap (λ (p : Processor). p.plan) h.core

-- the count that stops gives the same offers
offers : {P : Type 0} (rule : GuessRule) (picked : P → List Move → ℕ) (onward : P → List Move → P) (limit : ℕ) (shows : Reporting) (begin now : RunPlace)
    (first current : P)
    (held : ℕ) → (c : HasPicked rule picked onward limit shows begin now first current held) → offered_by rule now.core.plan held now.core.state
    ≡ offered_by c.at.rule now.core.plan c.at.count now.core.state
offers rule picked onward limit shows begin now first current held c =
    ap (λ (n : ℕ). offered_by rule now.core.plan n now.core.state) (c.count_is ∙ ap (λ (p : Plan). stopped p.stages c.at.count)
    (sym (same_plan limit shows begin now c.reached)))
    ∙ offered-stopped rule now.core.plan c.at.count now.core.state
    ∙ ap (λ (r : GuessRule). offered_by r now.core.plan c.at.count now.core.state) (sym c.rule_is)

-- so the pick is the same
chosen_same : {P : Type 0} (rule : GuessRule) (picked : P → List Move → ℕ) (onward : P → List Move → P) (limit : ℕ) (shows : Reporting) (begin now : RunPlace)
    (first current : P)
    (held : ℕ) → (c : HasPicked rule picked onward limit shows begin now first current held) → choice picked now.core.plan
    (chooser rule current held) now.core.state
    ≡ choice picked now.core.plan c.at now.core.state
chosen_same {P} rule picked onward limit shows begin now first current held c =
    ap (λ (moves : List Move). slice_get moves (picked current moves)) (offers rule picked onward limit shows begin now first current held c)
    ∙ ap (λ (p : P). slice_get (offered_to now.core.plan c.at now.core.state) (picked p (offered_to now.core.plan c.at now.core.state))) c.policy_is

-- and the policy after it
onward_same : {P : Type 0} (rule : GuessRule) (picked : P → List Move → ℕ) (onward : P → List Move → P) (limit : ℕ) (shows : Reporting) (begin now : RunPlace)
    (first current : P)
    (held : ℕ) → (c : HasPicked rule picked onward limit shows begin now first current held) → onward current
    (offered_to now.core.plan (chooser rule current held) now.core.state) ≡ onward c.at.policy (offered_to now.core.plan c.at now.core.state)
onward_same {P} rule picked onward limit shows begin now first current held c =
    ap (λ (moves : List Move). onward current moves) (offers rule picked onward limit shows begin now first current held c)
    ∙ ap (λ (p : P). onward p (offered_to now.core.plan c.at now.core.state)) c.policy_is

-- the move that is taken by the count that stops is also taken by the whole count
took : {P : Type 0} (rule : GuessRule) (picked : P → List Move → ℕ) (onward : P → List Move → P) (limit : ℕ) (shows : Reporting) (begin now new : RunPlace)
    (first current : P)
    (held : ℕ) → (c : HasPicked rule picked onward limit shows begin now first current held) →
    TakesPick picked limit shows (chooser rule current held) now new →
    TakesPick picked limit shows c.at now new
took rule picked onward limit shows begin now new first current held c t = record {
  goes = t.goes;
  move = t.move;
  choice_is = sym (chosen_same rule picked onward limit shows begin now first current held c) ∙ t.choice_is;
  event = t.event;
  does = t.does;
}

-- one more pick
pub comes-more : {P : Type 0} (rule : GuessRule) (picked : P → List Move → ℕ) (onward : P → List Move → P) (limit : ℕ) (shows : Reporting)
    (begin now new : RunPlace)
    (first current : P) (held : ℕ) (later : Chooser P) → HasPicked rule picked onward limit shows begin now first current held →
    Turned picked onward limit shows now new (chooser rule current held) later →
    HasPicked rule picked onward limit shows begin new first later.policy later.count
unfolding took
comes-more {P} rule picked onward limit shows begin now new first current held later c t =
    let takes : TakesPick picked limit shows c.at now new = took rule picked onward limit shows begin now new first current held c t.takes in
    let stages : ℕ = begin.core.plan.stages in
    let drained : Bool = is_drained new.core.state in
    record {
      at = chooser_after picked onward limit shows c.at now new takes;
      reached = turned-more picked limit shows begin now new c.at c.reached takes;
      picks = turned-picks rule picked onward limit shows begin now new first c.at c.reached takes c.picks;
      rule_is = c.rule_is;
      policy_is = t.policy_is ∙ onward_same rule picked onward limit shows begin now first current held c;
      count_is = t.count_is ∙ ap (λ (p : Plan). stopped p.stages (paced held t.takes.move t.takes.event drained)) (same_plan limit shows begin now c.reached)
          ∙ ap (λ (n : ℕ). stopped stages (paced n t.takes.move t.takes.event drained)) c.count_is
          ∙ paced-stopped stages c.at.count t.takes.move t.takes.event drained;
    }

-- a stream that no move used is unchanged, with one more pick
pub unasked-comes : {P T : Type 0} (rule : GuessRule) (picked : P → List Move → ℕ) (onward : P → List Move → P) (asks : Processor → Move →
    Type 0) (limit : ℕ) (shows : Reporting) (begin now new : RunPlace) (first current : P) (held : ℕ) (later : Chooser P)
    (c : HasPicked rule picked onward limit shows begin now first current held) (t : Turned picked onward limit shows now new (chooser rule current held) later)
    (before between rest : T)
    → ((SomeAsks asks begin.core.plan begin.core.state c.reached.trace → ⊥) → between ≡ before) →
    ((ChoiceAsks asks picked limit (chooser rule current held) now.core → ⊥) → rest ≡ between)
    → (SomeAsks asks begin.core.plan begin.core.state (comes-more rule picked onward limit shows begin now new first current held later c t).reached.trace →
    ⊥) →
    rest ≡ before
unfolding comes-more
unasked-comes rule picked onward asks limit shows begin now new first current held later c t before between rest so_far one unasked =
    unasked-turn picked asks limit shows begin now new c.at c.reached (took rule picked onward limit shows begin now new first current held c t.takes) before
    between
    rest so_far
    (λ none. one (λ a. none
    (record {
      goes = a.goes;
      move = a.move;
      choice_is = sym (chosen_same rule picked onward limit shows begin now first current held c) ∙ a.choice_is;
      asked =
          a.asked;
    })))
    unasked

-- and a stream that a move used is still used with one more pick
pub asked-comes : {P : Type 0} (rule : GuessRule) (picked : P → List Move → ℕ) (onward : P → List Move → P) (asks : Processor → Move →
    Type 0) (limit : ℕ) (shows : Reporting) (begin now new : RunPlace) (first current : P) (held : ℕ) (later : Chooser P)
    (c : HasPicked rule picked onward limit shows begin now first current held) (t : Turned picked onward limit shows now new (chooser rule current held) later)
    → SomeAsks asks begin.core.plan begin.core.state c.reached.trace →
    SomeAsks asks begin.core.plan begin.core.state (comes-more rule picked onward limit shows begin now new first current held later c t).reached.trace
unfolding comes-more
asked-comes rule picked onward asks limit shows begin now new first current held later c t some =
    let takes = took rule picked onward limit shows begin now new first current held c t.takes in
    subst (SomeAsks asks begin.core.plan begin.core.state) (sym (turned-trace picked limit shows begin now new c.at c.reached takes))
    (one-more asks limit shows begin now c.reached (taken picked limit shows c.at now new takes) (inl some))

-- while it goes on the policy is offered a move
pub comes-offered : {P : Type 0} (rule : GuessRule) (picked : P → List Move → ℕ) (onward : P → List Move → P) (limit : ℕ) (shows : Reporting)
    (begin now : RunPlace) (first current : P)
    (held : ℕ) → IsAccepted begin.core.plan → length begin.core.state.regs ≡ 32 → IsOpened begin.core →
    HasPicked rule picked onward limit shows begin now first current held
    → now.core.state.ending ≡ None → 0 < length (offered_by rule now.core.plan held now.core.state)
comes-offered rule picked onward limit shows begin now first current held accepted wide o c unended =
    reached-offered rule picked onward limit shows begin now first c.at accepted wide o c.reached c.picks unended rule held

-- it has made at most as many moves as the limit allows for
pub comes-bounded : {P : Type 0} (rule : GuessRule) (picked : P → List Move → ℕ) (onward : P → List Move → P) (limit : ℕ) (shows : Reporting)
    (begin now : RunPlace) (first current : P)
    (held : ℕ) → IsAccepted begin.core.plan → length begin.core.state.regs ≡ 32 → IsOpened begin.core →
    HasPicked rule picked onward limit shows begin now first current held
    → now.core.state.retired ≤ limit → now.tally.moves ≤ most_moves begin.core.plan limit
comes-bounded rule picked onward limit shows begin now first current held accepted wide o c within =
    let a = reached-bounded rule picked onward limit shows begin now first c.at accepted wide o c.reached c.picks in
    let b = bound_grows begin.core.plan (now.core.state.retired - begin.core.state.retired) limit (omega (arith, within)) in
    omega (arith, a, b)

-- so they can be counted
pub comes-counted : {P : Type 0} (rule : GuessRule) (picked : P → List Move → ℕ) (onward : P → List Move → P) (limit : ℕ) (shows : Reporting)
    (begin now : RunPlace) (first current : P)
    (held : ℕ) → IsAccepted begin.core.plan → length begin.core.state.regs ≡ 32 → IsOpened begin.core →
    HasPicked rule picked onward limit shows begin now first current held
    → now.core.state.retired ≤ limit → limit ≤ most_limit → now.tally.moves + 1 < 2 ^ 63
comes-counted rule picked onward limit shows begin now first current held accepted wide o c within few =
    let a = comes-bounded rule picked onward limit shows begin now first current held accepted wide o c within in
    let b = bound_small begin.core.plan limit accepted few in
    omega (arith, a, b)

-- no more instructions have retired than the limit allows
pub turned-within : {P : Type 0} (picked : P → List Move → ℕ) (onward : P → List Move → P) (limit : ℕ) (shows : Reporting) (now new : RunPlace)
    (at later : Chooser P) → Turned picked onward limit shows now new at later → new.core.state.retired ≤ limit
unfolding MoveDoes
turned-within picked onward limit shows now new at later t = made-within limit shows now new t.takes.move t.takes.event t.takes.goes.below t.takes.does

-- each pick is counted
pub turned-counted : {P : Type 0} (picked : P → List Move → ℕ) (onward : P → List Move → P) (limit : ℕ) (shows : Reporting) (now new : RunPlace)
    (at later : Chooser P) → Turned picked onward limit shows now new at later → new.tally.moves ≡ now.tally.moves + 1
unfolding MoveDoes
turned-counted picked onward limit shows now new at later t = ap (λ (tally : Tally). tally.moves) t.takes.does.makes.tally

-- so the moves that are left become fewer
pub comes-nearer : {P : Type 0} (rule : GuessRule) (picked : P → List Move → ℕ) (onward : P → List Move → P) (limit : ℕ) (shows : Reporting)
    (begin now new : RunPlace)
    (first current : P) (held : ℕ) (later : Chooser P) → IsAccepted begin.core.plan → length begin.core.state.regs ≡ 32 → IsOpened begin.core →
    HasPicked rule picked onward limit shows begin now first current held → Turned picked onward limit shows now new (chooser rule current held) later
    → most_moves begin.core.plan limit - new.tally.moves < most_moves begin.core.plan limit - now.tally.moves
comes-nearer rule picked onward limit shows begin now new first current held later accepted wide o c t =
    let a = comes-bounded rule picked onward limit shows begin new first later.policy later.count accepted wide o
    (comes-more rule picked onward limit shows begin now new first current held later c t) (turned-within picked onward limit shows now new
    (chooser rule current held) later t) in
    let b = turned-counted picked onward limit shows now new (chooser rule current held) later t in
    less (most_moves begin.core.plan limit) now.tally.moves new.tally.moves b a
  where
    less : (most now new : ℕ) → new ≡ now + 1 → new ≤ most → most - new < most - now
    less most now new e h = omega (arith, e, h)

-- the run stops where it has arrived
stops_same : {P : Type 0} (rule : GuessRule) (picked : P → List Move → ℕ) (onward : P → List Move → P) (limit : ℕ) (shows : Reporting)
    (begin now new : RunPlace)
    (first current later : P) (held : ℕ) (answer : Answer) → (c : HasPicked rule picked onward limit shows begin now first current held) →
    StopsPolicy picked onward limit shows (chooser rule current held) now new later answer → StopsPolicy picked onward limit shows c.at now new later answer
stops_same {P} rule picked onward limit shows begin now new first current later held answer c stops = go answer stops
  where
    chooses : (answer : Answer) → StopsAtPick picked onward limit shows (chooser rule current held) now new later answer →
        StopsAtPick picked onward limit shows c.at now new later answer
    chooses answer h = record {
      goes = h.goes;
      move = h.move;
      choice_is = sym (chosen_same rule picked onward limit shows begin now first current held c) ∙ h.choice_is;
      later_is = h.later_is ∙ onward_same rule picked onward limit shows begin now first current held c;
      does = h.does;
    }

    go : (answer : Answer) → StopsPolicy picked onward limit shows (chooser rule current held) now new later answer →
        StopsPolicy picked onward limit shows c.at now new later answer
    go (ran.Exit status) h = (h.0, h.1, h.2 ∙ c.policy_is)
    go (ran.Trap cause pc detail) h = (h.0, h.1, h.2 ∙ c.policy_is)
    go ran.Limit h = (h.0, h.1, h.2 ∙ c.policy_is)
    go ran.ReadFault h = chooses ran.ReadFault h
    go ran.WriteFault h = chooses ran.WriteFault h
    go ran.ReportFault h = chooses ran.ReportFault h

-- the moves of a run that stops there
pub all-made : {P : Type 0} (rule : GuessRule) (picked : P → List Move → ℕ) (onward : P → List Move → P) (limit : ℕ) (shows : Reporting)
    (begin now new : RunPlace)
    (first current later : P) (held : ℕ) (answer : Answer) → HasPicked rule picked onward limit shows begin now first current held →
    StopsPolicy picked onward limit shows (chooser rule current held) now new later answer → List Move
all-made rule picked onward limit shows begin now new first current later held answer c stops =
    moves_of c.reached.trace ++ made_last picked onward limit shows c.at now new later answer
    (stops_same rule picked onward limit shows begin now new first current later held answer c stops)

pub comes-runs : {P : Type 0} (rule : GuessRule) (picked : P → List Move → ℕ) (onward : P → List Move → P) (limit : ℕ) (shows : Reporting)
    (begin now new : RunPlace)
    (first current later : P) (held : ℕ) (answer : Answer) → (c : HasPicked rule picked onward limit shows begin now first current held) →
    (stops : StopsPolicy picked onward limit shows (chooser rule current held) now new later answer)
    → RunsPolicy rule picked onward limit shows begin new first later (all-made rule picked onward limit shows begin now new first current later held answer
    c stops)
    answer
unfolding all-made
comes-runs rule picked onward limit shows begin now new first current later held answer c stops = record {
  now = now;
  reaches = c.reached;
  at = c.at;
  picks = c.picks;
  stops = stops_same rule picked onward limit shows begin now new first current later held answer c stops;
  made = refl;
}

-- after the move the count that stops is the whole count, up to its bound
pub seen-count : (before after : PaceCount) (mv : Move) (e : Event) (seen drained : Bool) (stages : ℕ) → after ≡ saw before mv e seen → seen ≡ drained →
    before.stages ≡ stages → after.count ≡ stopped stages (paced before.count mv e drained)
seen-count before after mv e seen drained stages is same beside =
    ap (λ (c : PaceCount). c.count) is ∙ ap (λ (d : Bool). stopped before.stages (paced before.count mv e d)) same
    ∙ ap (λ (n : ℕ). stopped n (paced before.count mv e drained)) beside

-- the layout is unchanged
pub turned-plan : {P : Type 0} (picked : P → List Move → ℕ) (onward : P → List Move → P) (limit : ℕ) (shows : Reporting) (now new : RunPlace)
    (at later : Chooser P) → Turned picked onward limit shows now new at later → new.core.plan ≡ now.core.plan
unfolding MoveDoes
turned-plan picked onward limit shows now new at later t = t.takes.does.makes.makes.plan

-- if the next pick by the count that stops uses the stream, so does the next pick by the whole count
choice-asks : {P : Type 0} (asks : Processor → Move → Type 0) (rule : GuessRule) (picked : P → List Move → ℕ) (onward : P → List Move →
    P) (limit : ℕ) (shows : Reporting) (begin now : RunPlace) (first current : P) (held : ℕ) →
    (c : HasPicked rule picked onward limit shows begin now first current
    held) →
    ChoiceAsks asks picked limit (chooser rule current held) now.core → ChoiceAsks asks picked limit c.at now.core
choice-asks asks rule picked onward limit shows begin now first current held c a =
    record {
      goes = a.goes;
      move = a.move;
      choice_is = sym (chosen_same rule picked onward limit shows begin now first current held c) ∙ a.choice_is;
      asked =
          a.asked;
    }

-- a stream that no move of the run used is unchanged
pub comes-unasked : {P S K : Type 0} (rule : GuessRule) (picked : P → List Move → ℕ) (onward : P → List Move →
    P) (limit : ℕ) (shows : Reporting) (begin now new : RunPlace) (first current later : P) (held : ℕ) (answer : Answer) (before between rest : S)
    (blank half full : K) → (c : HasPicked rule picked onward limit shows begin now first current held) →
    StopsPolicy picked onward limit shows (chooser rule current held) now new later answer
    → ((SomeAsks AsksInput begin.core.plan begin.core.state c.reached.trace → ⊥) → between ≡ before) →
    ((ChoiceAsks AsksInput picked limit (chooser rule current held) now.core → ⊥) → rest ≡ between)
    → ((SomeAsks AsksOutput begin.core.plan begin.core.state c.reached.trace → ⊥) → half ≡ blank) →
    ((ChoiceAsks AsksOutput picked limit (chooser rule current held) now.core → ⊥) → full ≡ half)
    → PolicyUnasked rule picked onward limit shows begin new first later answer (rest ≡ before) (full ≡ blank)
unfolding comes-runs
comes-unasked rule picked onward limit shows begin now new first current later held answer before between rest blank half full c stops input input_next output
    output_next = record {
      moves = all-made rule picked onward limit shows begin now new first current later held answer c stops;
      runs = comes-runs rule picked onward limit shows begin now new first current later held answer c stops;
      input_asked = λ unasked. input_next (λ a. unasked (inr (there AsksInput a))) ∙ input (λ some. unasked (inl some));
      output_asked = λ unasked. output_next (λ a. unasked (inr (there AsksOutput a))) ∙ output (λ some. unasked (inl some));
    }
  where
    there : (asks : Processor → Move → Type 0) → ChoiceAsks asks picked limit (chooser rule current held) now.core → ChoiceAsks asks picked limit c.at now.core
    there asks a = choice-asks asks rule picked onward limit shows begin now first current held c a
