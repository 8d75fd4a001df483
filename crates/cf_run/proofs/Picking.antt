-- The picks of a policy are a run under the hold rule: each is allowed, and while the candidates are held no pick is an
-- Issue unless no other move is allowed.
use Rattle.std.proofs.Common.{◌≡◌, ℕ, List, [], ◌∷◌, ◌++◌, Option, Some, true, refl, sym, subst}
use Rattle.rv_machine.specs.Machine.{Machine}
use Rattle.cf_layout.specs.Accepted.{IsAccepted}
use Rattle.cf_layout.specs.Layout.{Plan}
use Rattle.cf_bind.specs.declared.moves.Move.{Move}
use Rattle.cf_semantics.specs.state.Drained.{IsStuck, is_drained}
use Rattle.cf_semantics.specs.moves.Holding.{is_held, paced}
use Rattle.cf_semantics.specs.runs.Lines.{Line, retires}
use Rattle.cf_semantics.specs.moves.Moves.{next}
use Rattle.cf_semantics.specs.state.State.{State, Moment}
use Rattle.cf_semantics.specs.claims.Weight.{is_issue}
use Rattle.theory_refinement.proofs.layouts.Accepted.{accepted_suits}
use Rattle.theory_refinement.proofs.claims.Runs.{going}
use Rattle.theory_unknown_input.specs.UnknownInput.{finding}
use Rattle.theory_unknown_input.proofs.Invariant.{HoldsAnew}
use Rattle.theory_unknown_input.specs.Paced.{PacesTo}
use Rattle.theory_unknown_input.proofs.Offered.{anew_shape}
use Rattle.theory_unknown_input.proofs.Theorems.{anew_kept}
use Rattle.cf_run.proofs.ByRule.{ruled-held}
use Rattle.cf_run.specs.Made.{Made, moves_of}
use Rattle.cf_run.specs.Going.{Leads}
use Rattle.cf_run.specs.Policies.{Chooser, choice, after_choice, offered_to, Picks}

-- one more pick
pub picks-more : {P : Type 0} (picked : P → List Move → ℕ) (onward : P → List Move → P) (plan : Plan) (limit : ℕ) (told : Option (List ℕ)) (m : Moment)
    (trace : List Made) (last : Moment) (at now : Chooser P) (made : Made) → Leads plan limit told m trace last →
    Picks picked onward plan at m.state trace now → choice picked plan now last.state ≡ Some made.move
    → Picks picked onward plan at m.state (trace ++ made ∷ []) (after_choice onward plan now last.state made)
unfolding Leads Picks
picks-more {P} picked onward plan limit told m [] last at now made leads picks next =
    let Q : Chooser P → Type 0 = λ c. (choice picked plan c m.state ≡ Some made.move) × (after_choice onward plan now last.state made
    ≡ after_choice onward plan c m.state made) in
    let R : Moment → Type 0 = λ q. (choice picked plan now q.state ≡ Some made.move) × (after_choice onward plan now last.state made
    ≡ after_choice onward plan now q.state made) in
    let here : R m = subst R leads (next, refl) in
    subst Q picks here
picks-more {P} picked onward plan limit told m (first ∷ trace) last at now made (rest, finds, is, leads) (pick, picks) next_is =
    let t : Moment = next plan (record m { rest = rest }) first.move in
    let on : Chooser P = after_choice onward plan at m.state first in
    let there : Picks picked onward plan on t.state trace now = subst (λ (s : State). Picks picked onward plan on s trace now) is.state picks in
    let more : Picks picked onward plan on t.state (trace ++ made ∷ []) (after_choice onward plan now last.state made) =
    picks-more picked onward plan limit told t trace last on now made leads there next_is in
    (pick, subst (λ (s : State). Picks picked onward plan on s (trace ++ made ∷ []) (after_choice onward plan now last.state made)) (sym is.state) more)

-- a run of picks from a moment at which the invariant holds is a run under the hold rule
pub picks-paced : {P : Type 0} (picked : P → List Move → ℕ) (onward : P → List Move → P) (plan : Plan) (limit : ℕ) (told : Option (List ℕ)) (x : Machine)
    (before : List Line) (m : Moment) (trace : List Made) (last : Moment) (at now : Chooser P) → IsAccepted plan → HoldsAnew plan x before m →
    Leads plan limit told m trace last → Picks picked onward plan at m.state trace now
    → (written : List Line) × PacesTo plan at.count m (moves_of trace) last written
unfolding Leads Picks PacesTo
picks-paced {P} picked onward plan limit told x before m [] last at now accepted holds leads picks = ([], (leads, refl))
picks-paced {P} picked onward plan limit told x before m (made ∷ trace) last at now accepted holds (rest, finds, is, leads) (pick, picks) =
    let t : Moment = next plan (finding rest m) made.move in
    let on : Chooser P = after_choice onward plan at m.state made in
    let unended = going plan m.state made.move is.allowed in
    let free : is_held plan at.count ≡ true → is_issue made.move ≡ true → IsStuck plan m.state =
    ruled-held at.rule plan at.count m.state (picked at.policy (offered_to plan at m.state)) made.move (anew_shape plan x m before holds unended) pick in
    let kept : HoldsAnew plan x (before ++ retires plan m.state made.move) t = anew_kept plan x m made.move rest before
    (accepted_suits plan accepted) is.allowed holds in
    let there : Picks picked onward plan on t.state trace now = subst (λ (s : State). Picks picked onward plan on s trace now) is.state picks in
    let later : (written : List Line) × PacesTo plan on.count t (moves_of trace) last written =
    picks-paced picked onward plan limit told x (before ++ retires plan m.state made.move) t trace last on now accepted kept leads there in
    let counted : PacesTo plan (paced at.count made.move made.event (is_drained t.state)) t (moves_of trace) last later.0 =
    subst (λ (s : State). PacesTo plan (paced at.count made.move made.event (is_drained s)) t (moves_of trace) last later.0) is.state later.1 in
    (retires plan m.state made.move ++ later.0, (rest, later.0, made.event, is.allowed, free, is.event, counted, refl))
