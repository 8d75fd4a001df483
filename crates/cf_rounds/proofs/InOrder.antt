-- The loop over the candidates.
use Rattle.std.proofs.Common.{◌≡◌, ℕ, zero, suc, ◌+◌, ◌<◌, ◌≤◌, Bool, true, false, List, [], ◌∷◌, ◌++◌, length, drop, Option, Some, None, refl, sym, ap, subst, ◌∙◌, arith}
use Rattle.std.specs.Prelude.{slice_get, if◌then◌else◌}
use Rattle.std.specs.List.{AllByRecursion, find, list_any}
use Rattle.cf_layout.specs.Layout.{Plan}
use Rattle.cf_bind.specs.declared.moves.Move.{Move}
use Rattle.cf_semantics.specs.state.Options.{on}
use Rattle.cf_semantics.specs.state.State.{State}
use Rattle.cf_core.specs.Processors.{IsProcessor}
use Rattle.cf_index.specs.Alone.{stands_alone}
use Rattle.cf_index.specs.Sites.{HasSites}
use Rattle.cf_index.proofs.There.{there_allowed}
use Rattle.cf_rounds.specs.Rounds.{AreApart, AreCandidates, IsAllowed, IsRound, round_of, shares_any, taken_moves}
use Rattle.cf_rounds.proofs.Chosen.{apart_after, candidates_allowed, all_after, taken_more, unshared}
use Rattle.cf_rounds.proofs.Few.{few}

-- the moves from an index on
pub drop_at : (moves : List Move) (place : ℕ) (mv : Move) → Some mv ≡ slice_get moves place → drop place moves ≡ mv ∷ drop (place + 1) moves
drop_at [] place mv e = absurd (cc)
drop_at (first ∷ moves) zero mv e = let same : first ≡ mv = cc in ap (λ (m : Move). m ∷ moves) same
drop_at (first ∷ moves) (suc place) mv e = let one : suc place + 1 ≡ suc (place + 1) = omega arith in rw one (drop_at moves place mv e)

drop_past : (moves : List Move) (place : ℕ) → length moves ≤ place → drop place moves ≡ []
drop_past [] zero h = refl
drop_past [] (suc place) h = refl
drop_past (mv ∷ moves) zero h = absurd (omega arith)
drop_past (mv ∷ moves) (suc place) h = drop_past moves place (omega arith)

-- the first that passes a test
pub find_next : (p : Move → Bool) (moves : List Move) (place : ℕ) (mv : Move) → Some mv ≡ slice_get moves place → p mv ≡ false →
    find p (drop (place + 1) moves) ≡ find p (drop place moves)
find_next p moves place mv e f = sym (ap (find p) (drop_at moves place mv e) ∙ rw f refl)

pub find_here : (p : Move → Bool) (moves : List Move) (place : ℕ) (mv : Move) → Some mv ≡ slice_get moves place → p mv ≡ true →
    find p (drop place moves) ≡ Some mv
find_here p moves place mv e f = ap (find p) (drop_at moves place mv e) ∙ rw f refl

pub find_past : (p : Move → Bool) (moves : List Move) (place : ℕ) → length moves ≤ place → find p (drop place moves) ≡ None
find_past p moves place h = ap (find p) (drop_past moves place h)

-- whether one passes it
pub any_next : (p : Move → Bool) (moves : List Move) (place : ℕ) (mv : Move) → Some mv ≡ slice_get moves place → p mv ≡ false →
    list_any p (drop (place + 1) moves) ≡ list_any p (drop place moves)
any_next p moves place mv e f = sym (ap (list_any p) (drop_at moves place mv e) ∙ rw f refl)

pub any_here : (p : Move → Bool) (moves : List Move) (place : ℕ) (mv : Move) → Some mv ≡ slice_get moves place → p mv ≡ true →
    list_any p (drop place moves) ≡ true
any_here p moves place mv e f = ap (list_any p) (drop_at moves place mv e) ∙ rw f refl

pub any_past : (p : Move → Bool) (moves : List Move) (place : ℕ) → length moves ≤ place → list_any p (drop place moves) ≡ false
any_past p moves place h = ap (list_any p) (drop_past moves place h)

-- one of the moves
pub all_at : (test : Move → Type 0) (moves : List Move) (place : ℕ) (mv : Move) → AllByRecursion test moves → Some mv ≡ slice_get moves place → test mv
all_at test [] place mv h e = absurd (cc)
all_at test (first ∷ moves) zero mv (h, hs) e = let same : first ≡ mv = cc in subst test same h
all_at test (first ∷ moves) (suc place) mv (h, hs) e = all_at test moves place mv hs e

pub candidate_there : (plan : Plan) (s : State) (moves : List Move) (place : ℕ) (mv : Move) → IsProcessor plan s → AreCandidates plan s moves →
    Some mv ≡ slice_get moves place → HasSites plan mv
candidate_there plan s moves place mv p are e = there_allowed plan s mv p (all_at (IsAllowed plan s) moves place mv (candidates_allowed plan s moves are) e)

-- the moves that are taken so far: the layout has the sites that they use, no two share a site, and together with the
-- candidates from the index on they make the round
pub record TakenSoFar (plan : Plan) (moves round : List Move) (place : ℕ) : Type 0 where
  pub there : AllByRecursion (HasSites plan) round
  pub apart : AreApart plan round
  pub rest : taken_moves plan round (drop place moves) ≡ taken_moves plan [] moves

pub taken_none : (plan : Plan) (moves round : List Move) → round ≡ [] → TakenSoFar plan moves round 0
taken_none plan moves round none = subst (λ (r : List Move). TakenSoFar plan moves r 0) (sym none) (record { there = tt; apart = tt; rest = refl })

pub taken_next : (plan : Plan) (moves round new : List Move) (place : ℕ) (mv : Move) → TakenSoFar plan moves round place → Some mv ≡ slice_get moves place →
    HasSites plan mv → new ≡ (if shares_any plan round mv then round else round ++ mv ∷ []) → TakenSoFar plan moves new (place + 1)
unfolding taken_moves
taken_next plan moves round new place mv h e there is = subst (λ (r : List Move). TakenSoFar plan moves r (place + 1)) (sym is)
    (by (shares_any plan round mv) refl)
  where
    rest : taken_moves plan (if shares_any plan round mv then round else round ++ mv ∷ []) (drop (place + 1) moves) ≡ taken_moves plan [] moves
    rest = sym (ap (taken_moves plan round) (drop_at moves place mv e)) ∙ h.rest

    by : (b : Bool) → shares_any plan round mv ≡ b → TakenSoFar plan moves (if shares_any plan round mv then round else round ++ mv ∷ []) (place + 1)
    by true f = record {
      there = subst (λ (r : List Move). AllByRecursion (HasSites plan) r) (sym (rw f refl)) h.there;
      apart = subst (λ (r : List Move). AreApart plan r) (sym (rw f refl)) h.apart;
      rest = rest;
    }
    by false f = record {
      there = subst (λ (r : List Move). AllByRecursion (HasSites plan) r) (sym (rw f refl)) (all_after (HasSites plan) round mv h.there there);
      apart = subst (λ (r : List Move). AreApart plan r) (sym (rw f refl)) (apart_after plan round mv h.apart (unshared plan round mv f));
      rest = rest;
    }

pub taken_last : (plan : Plan) (moves round : List Move) (place : ℕ) → TakenSoFar plan moves round place → length moves ≤ place →
    round ≡ taken_moves plan [] moves
unfolding taken_moves
taken_last plan moves round place h past = sym (ap (taken_moves plan round) (drop_past moves place past)) ∙ h.rest

pub taken_few : (plan : Plan) (s : State) (moves round : List Move) (place : ℕ) → IsProcessor plan s → TakenSoFar plan moves round place → length round < 128
taken_few plan s moves round place p h = let few_moves : length round ≤ 96 = few plan round p.accepted h.there h.apart in omega (arith, few_moves)

-- the round that was chosen
pub chose_alone : (plan : Plan) (s : State) (moves new : List Move) (mv : Move) → Some mv ≡ find (stands_alone plan s) moves → new ≡ [] ++ mv ∷ [] →
    new ≡ round_of plan s moves
unfolding round_of
chose_alone plan s moves new mv found is = is ∙ ap (λ (o : Option Move). on o (taken_moves plan [] moves) (λ m. m ∷ [])) found

pub chose_taken : (plan : Plan) (s : State) (moves new : List Move) → None ≡ find (stands_alone plan s) moves → new ≡ taken_moves plan [] moves →
    new ≡ round_of plan s moves
unfolding round_of
chose_taken plan s moves new none is = is ∙ ap (λ (o : Option Move). on o (taken_moves plan [] moves) (λ m. m ∷ [])) none

pub chose_round : (plan : Plan) (s : State) (moves new : List Move) → AreCandidates plan s moves → new ≡ round_of plan s moves → IsRound plan s new
chose_round plan s moves new are is = record { moves = moves; are = are; is = is }

-- a round of some candidates has a move
pub round_some : (plan : Plan) (s : State) (moves new : List Move) → 0 < length moves → new ≡ round_of plan s moves → 0 < length new
unfolding round_of taken_moves
round_some plan s [] new h is = absurd (omega arith)
round_some plan s (mv ∷ moves) new h is = by (find (stands_alone plan s) (mv ∷ moves)) is (taken_more plan (mv ∷ []) moves)
  where
    by : (o : Option Move) → new ≡ on o (taken_moves plan (mv ∷ []) moves) (λ m. m ∷ []) →
        ((more : List Move) × (taken_moves plan (mv ∷ []) moves ≡ mv ∷ [] ++ more)) →
        0 < length new
    by (Some m) e more = omega (arith, ap length e)
    by None e more = omega (arith, ap length (e ∙ more.1))
