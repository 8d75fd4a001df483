-- What a policy is offered: moves that are allowed, at least one while the program goes on, and no Issue unless the
-- hold rule permits it.
use Rattle.std.proofs.Common.{◌≡◌, ℕ, ◌≤◌, List, length, Option, Some, None, Bool, true, false, not, refl, subst}
use Rattle.std.specs.Prelude.{slice_get, nat_lt, if◌then◌else◌}
use Rattle.rv_machine.specs.Machine.{Machine}
use Rattle.cf_layout.specs.Accepted.{IsAccepted}
use Rattle.cf_layout.specs.Layout.{Plan}
use Rattle.cf_bind.specs.declared.moves.Bar.{Bar}
use Rattle.cf_bind.specs.declared.moves.Move.{Move}
use Rattle.cf_semantics.specs.moves.Bars.{bar}
use Rattle.cf_semantics.specs.moves.Candidates.{all_moves, candidates, held_back, other_moves}
use Rattle.cf_semantics.specs.state.Drained.{IsStuck}
use Rattle.cf_semantics.specs.moves.Holding.{is_held, offered}
use Rattle.cf_semantics.specs.runs.Lines.{Line}
use Rattle.cf_semantics.specs.state.Options.{is_some}
use Rattle.cf_semantics.specs.state.State.{Moment, State}
use Rattle.cf_semantics.specs.claims.Weight.{is_issue}
use Rattle.theory_refinement.proofs.invariant.Invariant.{HoldsAt, Sound}
use Rattle.theory_refinement.proofs.layouts.Accepted.{accepted_suits}
use Rattle.theory_confluence.proofs.Candidates.{HasShape, has_some, held_stuck, kept_passes, some_pick}
use Rattle.theory_confluence.proofs.drains.Rested.{Rested, rested}
use Rattle.theory_unknown_input.specs.UnknownInput.{finding}
use Rattle.theory_unknown_input.proofs.Invariant.{HoldsAnew}

-- a candidate is allowed
candidate_allowed : (plan : Plan) (s : State) (k : ℕ) (mv : Move) → slice_get (candidates plan s) k ≡ Some mv → bar plan s mv ≡ None
unfolding candidates
candidate_allowed plan s k mv there = no_bar (bar plan s mv) (kept_passes (λ v. not (is_some (bar plan s v))) (all_moves plan) k mv there).0
  where
    no_bar : (o : Option Bar) → not (is_some o) ≡ true → o ≡ None
    no_bar None e = refl
    no_bar (Some b) e = absurd (cc)

-- so is one that is left if Issue is held back
held_allowed : (plan : Plan) (s : State) (k : ℕ) (mv : Move) → slice_get (held_back (candidates plan s)) k ≡ Some mv → bar plan s mv ≡ None
unfolding held_back
held_allowed plan s k mv there = go (nat_lt 0 (length (other_moves (candidates plan s)))) there
  where
    go : (b : Bool) → slice_get (if b then other_moves (candidates plan s) else candidates plan s) k ≡ Some mv → bar plan s mv ≡ None
    go true e = let h = (kept_passes (λ v. not (is_issue v)) (candidates plan s) k mv e).1 in candidate_allowed plan s h.place mv h.there
    go false e = candidate_allowed plan s k mv e

-- each move that is offered is allowed
pub offered_allowed : (plan : Plan) (count : ℕ) (s : State) (k : ℕ) (mv : Move) → slice_get (offered plan count s) k ≡ Some mv → bar plan s mv ≡ None
unfolding offered
offered_allowed plan count s k mv there = go (is_held plan count) there
  where
    go : (b : Bool) → slice_get (if b then held_back (candidates plan s) else candidates plan s) k ≡ Some mv → bar plan s mv ≡ None
    go true e = held_allowed plan s k mv e
    go false e = candidate_allowed plan s k mv e

-- while the candidates are held, an Issue is offered only if no other move is allowed
pub offered_held : (plan : Plan) (count : ℕ) (s : State) (k : ℕ) (mv : Move) → HasShape plan s → slice_get (offered plan count s) k ≡ Some mv →
    is_held plan count ≡ true → is_issue mv ≡ true → IsStuck plan s
unfolding offered
offered_held plan count s k mv shape there held issue = held_stuck plan s k mv shape (subst
    (λ (b : Bool). slice_get (if b then held_back (candidates plan s) else candidates plan s) k ≡ Some mv) held there) issue

-- while the program goes on, the processor is laid out as its layout says
pub anew_shape : (plan : Plan) (start : Machine) (m : Moment) (written : List Line) → HoldsAnew plan start written m → m.state.ending ≡ None →
    HasShape plan m.state
anew_shape plan start m written h going =
    let s : Sound plan m.state h.rest m.output h.held.machine = subst (HoldsAt plan m.state h.rest m.output h.held.machine) going h.held.stage in
    record { cells = s.size; sidings = s.moored.berths }

-- and if no move but Issue is allowed, it is drained and Issue is allowed
pub anew_rested : (plan : Plan) (start : Machine) (m : Moment) (written : List Line) → IsAccepted plan → (h : HoldsAnew plan start written m) →
    m.state.ending ≡ None → IsStuck plan m.state → Rested plan h.held.machine (finding h.rest m)
anew_rested plan start m written accepted h going stuck = rested plan h.at (finding h.rest m) (accepted_suits plan accepted) h.tidy h.held going stuck

-- so at least one move is offered, whatever is counted
pub offered_some : (plan : Plan) (start : Machine) (m : Moment) (count : ℕ) (written : List Line) → IsAccepted plan → HoldsAnew plan start written m →
    m.state.ending ≡ None → 1 ≤ length (offered plan count m.state)
unfolding offered
offered_some plan start m count written accepted h going =
    let p = some_pick plan m.state (anew_shape plan start m written h going) (λ stuck. (anew_rested plan start m written accepted h going stuck).issue) in
    of (is_held plan count) (has_some (candidates plan m.state) p.0.0 p.0.1) (has_some (held_back (candidates plan m.state)) p.1.0 p.1.1)
  where
    of : (b : Bool) → 1 ≤ length (candidates plan m.state) → 1 ≤ length (held_back (candidates plan m.state)) →
        1 ≤ length (if b then held_back (candidates plan m.state) else candidates plan m.state)
    of true free held = held
    of false free held = free
