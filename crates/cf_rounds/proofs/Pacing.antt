-- The moves of rounds are a run under the hold rule: while the candidates are held, no move is an Issue unless no other
-- move is allowed.
use Rattle.std.proofs.Common.{◌≡◌, ℕ, suc, ◌+◌, ◌*◌, ◌≤◌, Bool, true, false, nat_le, List, [], ◌∷◌, ◌++◌, Option, Some, None, refl, sym, ap, subst, ◌∙◌, arith}
use Rattle.std.specs.Prelude.{◌||◌, slice_get, if◌then◌else◌}
use Rattle.std.specs.List.{AllByRecursion, find}
use Rattle.std.proofs.lemmas.Bool.Decides.{nat_tests}
use Rattle.rv_machine.specs.Machine.{Machine}
use Rattle.run_options.specs.declared.guess_rule.GuessRule.{GuessRule}
use Rattle.cf_layout.specs.Accepted.{IsAccepted}
use Rattle.cf_layout.specs.Layout.{Plan}
use Rattle.cf_bind.specs.declared.moves.Move.{Move}
use Rattle.cf_bind.specs.declared.moves.Move.TheVariants.{Issue, Emit, Climb, Fall, Meet, Execute, Send, Launch, Slide, Access, Recover, Leave, Exit, Serve}
use Rattle.cf_semantics.specs.declared.event.Event.{Event}
use Rattle.cf_semantics.specs.moves.Bars.{bar}
use Rattle.cf_semantics.specs.state.Drained.{IsStuck, is_drained}
use Rattle.cf_semantics.specs.moves.Holding.{is_held, is_retirement, paced}
use Rattle.cf_semantics.specs.runs.Lines.{Line, retires}
use Rattle.cf_semantics.specs.moves.Moves.{next}
use Rattle.cf_semantics.specs.state.Options.{on}
use Rattle.cf_semantics.specs.moves.Sites.{Stage}
use Rattle.cf_semantics.specs.state.State.{State, Moment}
use Rattle.cf_semantics.specs.claims.Weight.{is_issue}
use Rattle.theory_confluence.proofs.Candidates.{HasShape}
use Rattle.theory_refinement.proofs.layouts.Accepted.{accepted_suits}
use Rattle.theory_unknown_input.proofs.Invariant.{HoldsAnew}
use Rattle.theory_unknown_input.specs.Paced.{PacesTo}
use Rattle.theory_unknown_input.proofs.Offered.{anew_shape}
use Rattle.theory_unknown_input.proofs.Theorems.{anew_kept}
use Rattle.cf_index.specs.Alone.{stands_alone}
use Rattle.cf_index.specs.Sites.{shares, uses_place}
use Rattle.cf_index.proofs.SharedSites.{shared_at}
use Rattle.cf_run.specs.Made.{Made, moves_of}
use Rattle.cf_run.specs.Going.{Leads}
use Rattle.cf_run.proofs.ByRule.{ruled-held}
use Rattle.cf_sched.specs.Paces.{offered_by}
use Rattle.cf_rounds.specs.Firing.{paced_by}
use Rattle.cf_rounds.specs.Rounds.{AreApart, round_of, taken_moves}
use Rattle.cf_rounds.specs.Running.{InRounds, all_of, state_after_made}
use Rattle.cf_rounds.proofs.Chosen.{found_one, taken_all, taken_apart}

-- the move is not an Issue while the candidates are held, unless no other move is allowed
abbrev MayIssue : Plan → ℕ → State → Move → Type 0
MayIssue plan count s mv = is_held plan count ≡ true → is_issue mv ≡ true → IsStuck plan s

-- each move of a list by its index
all_from : (test : Move → Type 0) (moves : List Move) → ((k : ℕ) (mv : Move) → slice_get moves k ≡ Some mv → test mv) → AllByRecursion test moves
all_from test [] h = tt
all_from test (mv ∷ moves) h = (h 0 mv refl, all_from test moves (λ k m e. h (suc k) m e))

-- what is true of the candidates is true of their round
round_all : (test : Move → Type 0) (plan : Plan) (s : State) (moves : List Move) → AllByRecursion test moves → AllByRecursion test (round_of plan s moves)
unfolding round_of
round_all test plan s moves h = by (find (stands_alone plan s) moves) refl
  where
    by : (o : Option Move) → find (stands_alone plan s) moves ≡ o → AllByRecursion test (on o (taken_moves plan [] moves) (λ mv. mv ∷ []))
    by None e = taken_all test plan [] moves tt h
    by (Some mv) e = ((found_one test (stands_alone plan s) moves mv h e).0, tt)

-- and a round shares no site
round_apart : (plan : Plan) (s : State) (moves : List Move) → AreApart plan (round_of plan s moves)
unfolding round_of
round_apart plan s moves = by (find (stands_alone plan s) moves)
  where
    by : (o : Option Move) → AreApart plan (on o (taken_moves plan [] moves) (λ mv. mv ∷ []))
    by None = taken_apart plan [] moves tt
    by (Some mv) = (tt, tt)

-- two Issue moves share the lowest stage
issue_there : (plan : Plan) (mv : Move) → is_issue mv ≡ true → uses_place plan mv (Stage 1) ≡ true
unfolding uses_place
issue_there plan (Issue g) e = refl
issue_there plan Emit e = absurd (cc)
issue_there plan (Climb i) e = absurd (cc)
issue_there plan (Fall i) e = absurd (cc)
issue_there plan (Meet i) e = absurd (cc)
issue_there plan (Execute i) e = absurd (cc)
issue_there plan (Send i) e = absurd (cc)
issue_there plan (Launch i) e = absurd (cc)
issue_there plan (Slide k c) e = absurd (cc)
issue_there plan Access e = absurd (cc)
issue_there plan (Recover i) e = absurd (cc)
issue_there plan Leave e = absurd (cc)
issue_there plan Exit e = absurd (cc)
issue_there plan Serve e = absurd (cc)

one_issue : (plan : Plan) (a b : Move) → shares plan a b ≡ false → is_issue b ≡ true → is_issue a ≡ false
one_issue plan a b apart e = by (is_issue a) refl
  where
    by : (t : Bool) → is_issue a ≡ t → is_issue a ≡ false
    by false f = f
    by true f = absurd (let both : shares plan a b ≡ true = shared_at plan a b (Stage 1) (issue_there plan a f) (issue_there plan b e) in cc)

-- after a move other than Issue the candidates are held only if they were before
held_before : (plan : Plan) (count : ℕ) (mv : Move) (e : Event) (drained : Bool) → IsAccepted plan → is_issue mv ≡ false →
    is_held plan (paced count mv e drained) ≡ true → is_held plan count ≡ true
unfolding paced
held_before plan count mv e drained accepted other held = by (is_retirement e || drained) held
  where
    by : (b : Bool) → is_held plan (if b then 0 else (if is_issue mv then count + 1 else count)) ≡ true → is_held plan count ≡ true
    by true h = absurd (let low = accepted.stages.0 in none plan.stages low h)
      where
        none : (n : ℕ) → 2 ≤ n → nat_le (2 * n) 0 ≡ true → ⊥
        none n low h = grind (arith, nat_tests)
    by false h = rw other at h

-- so what is true of the remaining moves stays true after one was made
may_stay : (plan : Plan) (s t : State) (count : ℕ) (mv : Move) (e : Event) (drained : Bool) (round : List Move) → IsAccepted plan → bar plan s mv ≡ None →
    AllByRecursion (λ other. shares plan mv other ≡ false) round → AllByRecursion (MayIssue plan count s) round
    → AllByRecursion (MayIssue plan (paced count mv e drained) t) round
may_stay plan s t count mv e drained [] accepted free apart may = tt
may_stay plan s t count mv e drained (other ∷ round) accepted free (one, apart) (h, may) =
    (never, may_stay plan s t count mv e drained round accepted free apart may)
  where
    never : MayIssue plan (paced count mv e drained) t other
    never held issue =
        let plain : is_issue mv ≡ false = one_issue plan mv other one issue in
        absurd (h (held_before plan count mv e drained accepted plain held) issue mv plain free)

-- the moves of a round, and after them those of the others
record GoesOnAfter (plan : Plan) (limit count : ℕ) (told : Option (List ℕ)) (x : Machine) (s : State) (made rest : List Made) (last : Moment) : Type 0 where
  go : (m : Moment) (before : List Line) → m.state ≡ state_after_made s made → HoldsAnew plan x before m → Leads plan limit told m rest last →
      (written : List Line) × PacesTo plan (paced_by count made) m (moves_of rest) last written

in_round : (plan : Plan) (limit count : ℕ) (told : Option (List ℕ)) (x : Machine) (before : List Line) (m last : Moment) (made rest : List Made) →
    IsAccepted plan → HoldsAnew plan x before m → Leads plan limit told m (made ++ rest) last → AreApart plan (moves_of made) →
    AllByRecursion (MayIssue plan count m.state) (moves_of made)
    → GoesOnAfter plan limit count told x m.state made rest last → (written : List Line) × PacesTo plan count m (moves_of (made ++ rest)) last written
unfolding Leads PacesTo paced_by
in_round plan limit count told x before m last [] rest accepted holds leads apart may after = after.go m before refl holds leads
in_round plan limit count told x before m last (first ∷ made) rest accepted holds (r, finds, is, leads) (apart, aparts) (one, may) after =
    let t : Moment = next plan (record m { rest = r }) first.move in
    let kept : HoldsAnew plan x (before ++ retires plan m.state first.move) t = anew_kept plan x m first.move r before
    (accepted_suits plan accepted) is.allowed holds in
    let later : ℕ = paced count first.move first.event (is_drained first.state) in
    let stay : AllByRecursion (MayIssue plan later t.state) (moves_of made) = may_stay plan m.state t.state count first.move first.event
    (is_drained first.state) (moves_of made) accepted is.allowed apart may in
    let onward : GoesOnAfter plan limit later told x t.state made rest last =
    record { go = λ q b same h l. after.go q b (same ∙ ap (λ (s : State). state_after_made s made) (sym is.state)) h l } in
    let goes : (written : List Line) × PacesTo plan later t (moves_of (made ++ rest)) last written =
    in_round plan limit later told x (before ++ retires plan m.state first.move) t last made rest accepted kept leads aparts stay onward in
    let counted : PacesTo plan (paced count first.move first.event (is_drained t.state)) t (moves_of (made ++ rest)) last goes.0 =
    subst (λ (s : State). PacesTo plan (paced count first.move first.event (is_drained s)) t (moves_of (made ++ rest)) last goes.0) is.state goes.1 in
    (retires plan m.state first.move ++ goes.0, (r, goes.0, first.event, is.allowed, one, is.event, counted, refl))

-- the offered moves, if the program goes on
offered_may : (r : GuessRule) (plan : Plan) (x : Machine) (before : List Line) (m : Moment) (count : ℕ) → HoldsAnew plan x before m → m.state.ending ≡ None →
    AllByRecursion (MayIssue plan count m.state) (offered_by r plan count m.state)
offered_may r plan x before m count holds going_on =
    let shape : HasShape plan m.state = anew_shape plan x m before holds going_on in
    all_from (MayIssue plan count m.state) (offered_by r plan count m.state) (λ k mv e held issue. ruled-held r plan count m.state k mv shape e held issue)

-- all rounds
pub rounds_paced : (r : GuessRule) (plan : Plan) (limit below count held : ℕ) (told : Option (List ℕ)) (x : Machine) (before : List Line) (m last : Moment)
    (rounds : List (List Made)) (end : State) → IsAccepted plan → HoldsAnew plan x before m → InRounds r plan below count m.state rounds held end →
    Leads plan limit told m (all_of rounds) last
    → (written : List Line) × PacesTo plan count m (moves_of (all_of rounds)) last written
unfolding InRounds Leads PacesTo
rounds_paced r plan limit below count held told x before m last [] end accepted holds rounds leads = ([], (leads, refl))
rounds_paced r plan limit below count held told x before m last (made ∷ more) end accepted holds (goes, is, rounds) leads =
    let round : List Move = round_of plan m.state (offered_by r plan count m.state) in
    let apart : AreApart plan (moves_of made) = subst (AreApart plan) (sym is) (round_apart plan m.state (offered_by r plan count m.state)) in
    let may : AllByRecursion (MayIssue plan count m.state) (moves_of made) = subst (AllByRecursion (MayIssue plan count m.state)) (sym is)
    (round_all (MayIssue plan count m.state) plan m.state (offered_by r plan count m.state) (offered_may r plan x before m count holds goes.unended)) in
    let after : GoesOnAfter plan limit count told x m.state made (all_of more) last = record {
      go = λ q b same h l. rounds_paced r plan limit below (paced_by count made) held told x b q last more end accepted h
          (subst (λ (s : State). InRounds r plan below (paced_by count made) s more held end) (sym same) rounds) l;
    } in
    in_round plan limit count told x before m last made (all_of more) accepted holds leads apart may after
