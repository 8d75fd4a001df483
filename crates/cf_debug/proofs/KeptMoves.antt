-- A move of the debugger keeps a session on its run.
use Rattle.std.proofs.Common.{◌≡◌, ◌≢◌, ℕ, ◌+◌, ◌≤◌, List, [], ◌∷◌, ◌++◌, Option, Some, None, Ok, Err, refl, sym, ap, subst, ◌∙◌, append-nil, inl, inr, arith}
use Rattle.std.specs.Prelude.{◌⊎◌}
use Rattle.cf_io.specs.Causes.{HasCause}
use Rattle.cf_io.specs.Puts.{Writes}
use Rattle.rv_machine.specs.Streams.{Streams, streams_of}
use Rattle.cf_layout.specs.Layout.{Plan}
use Rattle.cf_bind.specs.declared.moves.Move.{Move}
use Rattle.cf_bind.specs.declared.moves.Move.TheVariants.{Issue, Emit, Climb, Fall, Meet, Execute, Send, Launch, Slide, Access, Recover, Leave, Exit, Serve}
use Rattle.cf_semantics.specs.declared.event.Event.{Event}
use Rattle.cf_semantics.specs.moves.Bars.{bar}
use Rattle.cf_semantics.specs.moves.Kept.{Kept, kept}
use Rattle.cf_semantics.specs.moves.Moves.{moved, next}
use Rattle.cf_semantics.specs.state.State.{Moment, State}
use Rattle.cf_core.specs.Processors.{Processor, in_state}
use Rattle.cf_core.specs.Stepping.{Makes, MakesOrFails as StepsOrFails}
use Rattle.cf_core.specs.Undo.{CanStand, kept_by}
use Rattle.cf_core.specs.declared.fault.Fault.TheVariants as fault
use Rattle.cf_core.specs.declared.undo.Undo.{Undo}
use Rattle.cf_core.proofs.Steps.{next_moved}
use Rattle.cf_run.proofs.AfterOutput.{next-after}
use Rattle.cf_debug.specs.Making.{ProcessorState, MakesAndKeeps, FailsOne, processor_state}
use Rattle.cf_debug.specs.Rings.{WasKept, ring_after, with_record}
use Rattle.cf_debug.specs.Standing.{StandsAfterMoves, StandsNow, StandsSomewhere}
use Rattle.cf_debug.proofs.Standing.{stands-kept, stands-served, stands-untold}

-- what is kept of a move, unless it is Serve
pub serves-or : (mv : Move) → (mv ≡ Serve) ⊎ ((mv ≢ Serve) × ((plan : Plan) (s : State) (ring : List Kept) →
    ring_after plan s mv ring ≡ with_record ring (kept plan s mv)))
unfolding ring_after
serves-or Serve = inl refl
serves-or (Issue g) = inr ((λ e. cc), (λ plan s ring. refl))
serves-or Emit = inr ((λ e. cc), (λ plan s ring. refl))
serves-or (Climb i) = inr ((λ e. cc), (λ plan s ring. refl))
serves-or (Fall i) = inr ((λ e. cc), (λ plan s ring. refl))
serves-or (Meet i) = inr ((λ e. cc), (λ plan s ring. refl))
serves-or (Execute i) = inr ((λ e. cc), (λ plan s ring. refl))
serves-or (Send i) = inr ((λ e. cc), (λ plan s ring. refl))
serves-or (Launch i) = inr ((λ e. cc), (λ plan s ring. refl))
serves-or (Slide k c) = inr ((λ e. cc), (λ plan s ring. refl))
serves-or Access = inr ((λ e. cc), (λ plan s ring. refl))
serves-or (Recover i) = inr ((λ e. cc), (λ plan s ring. refl))
serves-or Leave = inr ((λ e. cc), (λ plan s ring. refl))
serves-or Exit = inr ((λ e. cc), (λ plan s ring. refl))

-- what is kept of a move other than Serve
kept_other : (mv : Move) → mv ≢ Serve → (plan : Plan) (s : State) (ring : List Kept) → ring_after plan s mv ring ≡ with_record ring (kept plan s mv)
kept_other mv other plan s ring = of (serves-or mv)
  where
    of : (mv ≡ Serve) ⊎ ((mv ≢ Serve) × ((plan : Plan) (s : State) (ring : List Kept) → ring_after plan s mv ring ≡ with_record ring (kept plan s mv))) →
        ring_after plan s mv ring ≡ with_record ring (kept plan s mv)
    of (inl serves) = absurd (other serves)
    of (inr h) = h.1 plan s ring

-- a move other than Serve was made and kept
pub made-other : (mv : Move) (e : Event) (core new : Processor) (ring later : List Kept) (out after : Option (List ℕ)) (undo : Undo) →
    CanStand core.plan core.state → kept_by undo ≡ kept core.plan core.state mv → bar core.plan core.state mv ≡ None → mv ≢ Serve
    → StepsOrFails core new mv (streams_of (Some []) out) (streams_of (Some []) after) (Ok e) → later ≡ with_record ring (kept_by undo) →
    MakesAndKeeps mv e (processor_state core ring out) (processor_state new later after)
unfolding StepsOrFails
made-other mv e core new ring later out after undo stood is free other h put = record {
  allowed = free;
  stood = λ differs. stood;
  makes = h.0;
  is_event = h.1;
  ring = put ∙ ap (with_record ring) is ∙ sym (kept_other mv other core.plan core.state ring);
}

-- Serve was made, and nothing is kept
pub made-serve : (e : Event) (core new : Processor) (ring later : List Kept) (out after : Option (List ℕ)) → bar core.plan core.state Serve ≡ None
    → StepsOrFails core new Serve (streams_of (Some []) out) (streams_of (Some []) after) (Ok e) → later ≡ [] →
    MakesAndKeeps Serve e (processor_state core ring out) (processor_state new later after)
unfolding StepsOrFails ring_after
made-serve e core new ring later out after free h empty = record {
  allowed = free;
  stood = λ other. absurd (other refl);
  makes = h.0;
  is_event = h.1;
  ring = empty;
}

-- the output failed Serve
pub failed-serve : (core new : Processor) (ring later : List Kept) (out after : Option (List ℕ)) → bar core.plan core.state Serve ≡ None
    → StepsOrFails core new Serve (streams_of (Some []) out) (streams_of (Some []) after) (Err fault.Write) → later ≡ ring →
    FailsOne Serve (processor_state core ring out) (processor_state new later after)
unfolding StepsOrFails
failed-serve core new ring later out after free h kept = record { allowed = free; serves = refl; fails = h.1; ring = kept }

-- nothing fails a move other than Serve
pub never-fails : (mv : Move) (core new : Processor) (before after : Streams) → mv ≢ Serve → StepsOrFails core new mv before after (Err fault.Write) → ⊥
unfolding StepsOrFails
never-fails mv core new before after other h = other h.0

pub never-reads : (mv : Move) (core new : Processor) (before after : Streams) → mv ≢ Serve → StepsOrFails core new mv before after (Err fault.Read) → ⊥
unfolding StepsOrFails
never-reads mv core new before after other h = other h.0

same_some : {X : Type 0} (x y : X) → Some x ≡ Some y → x ≡ y
same_some x y h = cc

-- the moment after a move that finds nothing left, whatever was written before
after_move : (now new : ProcessorState) (mv : Move) → Makes now.core new.core mv (streams_of (Some []) now.output) (streams_of (Some []) new.output) →
    (added : List ℕ) × Writes now.output new.output added
    × ((before : List ℕ) → next now.core.plan (record { state = now.core.state; rest = []; output = before }) mv
    ≡ record { state = new.core.state; rest = []; output = before ++ added })
after_move now new mv m =
    let plan : Plan = now.core.plan in
    let none : [] ≡ m.later = same_some [] m.later m.leaves.input in
    let P : List ℕ → List ℕ → Type 0 = λ rest later. next plan (record { state = now.core.state; rest = rest; output = [] }) mv
    ≡ record { state = new.core.state; rest = later; output = m.added } in
    let blank : P [] [] = subst (P []) (sym none) (subst (λ (rest : List ℕ). P rest m.later) m.told m.is) in (
      m.added,
      m.leaves.output,
      λ before.
          ap (λ (output : List ℕ). next plan (record { state = now.core.state; rest = []; output = output }) mv) (sym (append-nil before))
          ∙ next-after plan before (record { state = now.core.state; rest = []; output = [] }) mv
          ∙ ap (λ (t : Moment). record t { output = before ++ t.output }) blank,
    )

-- the processor after a move other than Serve
moved_core : (now new : ProcessorState) (mv : Move) → mv ≢ Serve → Makes now.core new.core mv (streams_of (Some []) now.output)
    (streams_of (Some []) new.output) → new.core ≡ in_state now.core (moved now.core.plan now.core.state mv)
moved_core now new mv other m =
    let plan : Plan = now.core.plan in
    let led = (after_move now new mv m).2 [] in
    let state : new.core.state ≡ moved plan now.core.state mv = ap (λ (t : Moment). t.state) (sym led
    ∙ next_moved plan (record { state = now.core.state; rest = []; output = [] }) mv other) in
    ap (λ (p : Plan). record { plan = p; state = new.core.state }) m.plan ∙ ap (in_state now.core) state

-- a move other than Serve writes nothing
nothing_added : (now new : ProcessorState) (mv : Move) → mv ≢ Serve → (m : Makes now.core new.core mv (streams_of (Some []) now.output)
    (streams_of (Some []) new.output)) → Writes now.output new.output []
nothing_added now new mv other m =
    let plan : Plan = now.core.plan in
    let led = after_move now new mv m in
    let none : led.0 ≡ [] = ap (λ (t : Moment). t.output) (sym (led.2 [])
    ∙ next_moved plan (record { state = now.core.state; rest = []; output = [] }) mv other) in
    subst (Writes now.output new.output) none led.1

-- a session stays on its run after a move
pub makes-stands : (start : Processor) (mv : Move) (e : Event) (blank : Option (List ℕ)) (now new : ProcessorState) → StandsNow start blank now →
    MakesAndKeeps mv e now new → StandsNow start blank new
unfolding ring_after kept
makes-stands start mv e blank now new h m = of (serves-or mv)
  where
    of : (mv ≡ Serve) ⊎ ((mv ≢ Serve) × ((plan : Plan) (s : State) (ring : List Kept) → ring_after plan s mv ring ≡ with_record ring (kept plan s mv))) →
        StandsNow start blank new
    of (inl serves) =
        let P : Move → Type 0 = λ v. (bar now.core.plan now.core.state v ≡ None) × Makes now.core new.core v (streams_of (Some []) now.output)
        (streams_of (Some []) new.output) × (new.ring ≡ ring_after now.core.plan now.core.state v now.ring) in
        let here : P Serve = subst P serves (m.allowed, m.makes, m.ring) in
        let led = after_move now new Serve here.1 in
        subst (λ (ring : List Kept). StandsAfterMoves start new.core ring blank new.output) (sym here.2)
        (stands-served start now.core new.core now.ring blank now.output new.output led.0 h here.0 m.makes.plan led.2 led.1)
    of (inr (other, is)) =
        let k : Kept = kept now.core.plan now.core.state mv in
        let was : WasKept now.core.plan now.core.state k = record { stood = m.stood other; allowed = m.allowed; other = other; is = refl } in
        subst (λ (ring : List Kept). StandsAfterMoves start new.core ring blank new.output) (sym (m.ring ∙ is now.core.plan now.core.state now.ring))
        (stands-kept start now.core new.core now.ring blank now.output new.output k h was (moved_core now new mv other m.makes)
        (nothing_added now new mv other m.makes))

-- so it does from some processor, whatever was written
pub makes-somewhere : (mv : Move) (e : Event) (now new : ProcessorState) → StandsSomewhere now.core now.ring → MakesAndKeeps mv e now new →
    StandsSomewhere new.core new.ring
makes-somewhere mv e now new (start, h) m =
    let told : StandsNow start None now = stands-untold start now.core now.ring None None now.output h in
    (start, stands-untold start new.core new.ring None new.output None (makes-stands start mv e None now new told m))
