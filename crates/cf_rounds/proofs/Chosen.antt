-- How a round relates to its candidates.
use Rattle.std.proofs.Common.{◌≡◌, Bool, true, false, nat_lt, List, [], ◌∷◌, ◌++◌, length, Option, Some, None, inl, inr, refl, sym, ap, subst, ◌∙◌, append-nil, append_assoc}
use Rattle.std.specs.Prelude.{◌||◌, filter, not, if◌then◌else◌}
use Rattle.std.specs.List.{AllByRecursion, find}
use Rattle.std.proofs.lemmas.List.Folds.{list_any-append}
use Rattle.cf_layout.specs.Layout.{Plan}
use Rattle.cf_bind.specs.declared.moves.Move.{Move}
use Rattle.cf_semantics.specs.moves.Bars.{bar}
use Rattle.cf_semantics.specs.moves.Candidates.{all_moves, candidates, held_back, other_moves}
use Rattle.cf_semantics.specs.state.Options.{is_some, on}
use Rattle.cf_semantics.specs.state.State.{State}
use Rattle.cf_semantics.specs.claims.Weight.{is_issue}
use Rattle.cf_index.specs.Alone.{HasSidings, stands_alone}
use Rattle.cf_index.specs.Sites.{shares}
use Rattle.cf_index.specs.GuessRules.{guided, keeps_move}
use Rattle.cf_rounds.specs.Rounds.{AreApart, AreCandidates, IsAllowed, IsFull, IsRound, IsTaken, round_of, shares_any, taken_moves}
use Rattle.cf_rounds.proofs.Free.{IsFree, unshared_back}
use Rattle.cf_index.proofs.Independence.{IsPlain}

-- what is true of each move, and of those that pass a test
all_passed : (test : Move → Type 0) (p : Move → Bool) (moves : List Move) → AllByRecursion test moves → AllByRecursion test (filter p moves)
all_passed test p [] h = tt
all_passed test p (mv ∷ moves) (h, hs) = by (p mv) (all_passed test p moves hs)
  where
    by : (b : Bool) → AllByRecursion test (filter p moves) → AllByRecursion test (if b then mv ∷ filter p moves else filter p moves)
    by true rest = (h, rest)
    by false rest = rest

none_barred : (plan : Plan) (s : State) (mv : Move) → not (is_some (bar plan s mv)) ≡ true → bar plan s mv ≡ None
none_barred plan s mv e = go (bar plan s mv) e
  where
    go : {B : Type 0} (o : Option B) → not (is_some o) ≡ true → o ≡ None
    go None f = refl
    go (Some b) f = absurd (cc)

all_free : (plan : Plan) (s : State) (moves : List Move) → AllByRecursion (IsAllowed plan s) (filter (λ mv. not (is_some (bar plan s mv))) moves)
all_free plan s [] = tt
all_free plan s (mv ∷ moves) = by (not (is_some (bar plan s mv))) refl (all_free plan s moves)
  where
    by : (b : Bool) → not (is_some (bar plan s mv)) ≡ b → AllByRecursion (IsAllowed plan s) (filter (λ mv. not (is_some (bar plan s mv))) moves)
        → AllByRecursion (IsAllowed plan s) (if b then mv ∷ filter (λ mv. not (is_some (bar plan s mv))) moves else filter
        (λ mv. not (is_some (bar plan s mv))) moves)
    by true e rest = (none_barred plan s mv e, rest)
    by false e rest = rest

-- each candidate can be made
pub candidates_allowed : (plan : Plan) (s : State) (moves : List Move) → AreCandidates plan s moves → AllByRecursion (IsAllowed plan s) moves
unfolding candidates guided held_back
candidates_allowed plan s moves (r, inl is) = subst (AllByRecursion (IsAllowed plan s)) (sym is)
    (all_passed (IsAllowed plan s) (keeps_move r plan s) (filter (λ mv. not (is_some (bar plan s mv))) (all_moves plan)) (all_free plan s (all_moves plan)))
candidates_allowed plan s moves (r, inr is) = subst (AllByRecursion (IsAllowed plan s)) (sym is) (by (nat_lt 0 (length (other_moves all))))
  where
    all : List Move
    all = filter (keeps_move r plan s) (filter (λ mv. not (is_some (bar plan s mv))) (all_moves plan))

    free : AllByRecursion (IsAllowed plan s) all
    free = all_passed (IsAllowed plan s) (keeps_move r plan s) (filter (λ mv. not (is_some (bar plan s mv))) (all_moves plan))
        (all_free plan s (all_moves plan))

    by : (b : Bool) → AllByRecursion (IsAllowed plan s) (if b then other_moves all else all)
    by true = all_passed (IsAllowed plan s) (λ mv. not (is_issue mv)) all free
    by false = free

-- a move that is found passes the test, and is one of the list
pub found_one : (test : Move → Type 0) (p : Move → Bool) (moves : List Move) (mv : Move) → AllByRecursion test moves → find p moves ≡ Some mv →
    test mv × (p mv ≡ true)
found_one test p [] mv h e = absurd (cc)
found_one test p (first ∷ moves) mv (h, hs) e = by (p first) refl (λ g. found_one test p moves mv hs g) e
  where
    by : (b : Bool) → p first ≡ b → (find p moves ≡ Some mv → test mv × (p mv ≡ true)) → (if b then Some first else find p moves) ≡ Some mv →
        test mv × (p mv ≡ true)
    by true f rest g = let same : first ≡ mv = cc in (subst test same h, ap p (sym same) ∙ f)
    by false f rest g = rest g

-- if no move is found, none passes the test
none_found : (p : Move → Bool) (moves : List Move) → find p moves ≡ None → AllByRecursion (λ mv. p mv ≡ false) moves
none_found p [] e = tt
none_found p (mv ∷ moves) e = by (p mv) refl (λ g. none_found p moves g) e
  where
    by : (b : Bool) → p mv ≡ b → (find p moves ≡ None → AllByRecursion (λ mv. p mv ≡ false) moves) → (if b then Some mv else find p moves) ≡ None →
        AllByRecursion (λ mv. p mv ≡ false) (mv ∷ moves)
    by true f rest g = absurd (cc)
    by false f rest g = (f, rest g)

both_hold : (one other : Move → Type 0) (both : Move → Type 0) (moves : List Move) → ((mv : Move) → one mv → other mv → both mv) → AllByRecursion one moves →
    AllByRecursion other moves → AllByRecursion both moves
both_hold one other both [] make h k = tt
both_hold one other both (mv ∷ moves) make (h, hs) (k, ks) = (make mv h k, both_hold one other both moves make hs ks)

-- one move after a list
pub all_after : (test : Move → Type 0) (round : List Move) (mv : Move) → AllByRecursion test round → test mv → AllByRecursion test (round ++ mv ∷ [])
all_after test [] mv h k = (k, tt)
all_after test (first ∷ round) mv (h, hs) k = (h, all_after test round mv hs k)

-- a move that shares no site with a round
pub unshared : (plan : Plan) (round : List Move) (mv : Move) → shares_any plan round mv ≡ false → AllByRecursion (λ other. shares plan mv other ≡ false) round
unshared plan [] mv e = tt
unshared plan (first ∷ round) mv e = by (shares plan mv first) refl (λ g. unshared plan round mv g) e
  where
    by : (b : Bool) → shares plan mv first ≡ b → (shares_any plan round mv ≡ false → AllByRecursion (λ other. shares plan mv other ≡ false) round) →
        (b || shares_any plan round mv) ≡ false
        → AllByRecursion (λ other. shares plan mv other ≡ false) (first ∷ round)
    by true f rest g = absurd (cc)
    by false f rest g = (f, rest g)

pub apart_after : (plan : Plan) (round : List Move) (mv : Move) → AreApart plan round → AllByRecursion (λ other. shares plan mv other ≡ false) round →
    AreApart plan (round ++ mv ∷ [])
apart_after plan [] mv h k = (tt, tt)
apart_after plan (first ∷ round) mv (h, hs) (k, ks) =
    (all_after (λ other. shares plan first other ≡ false) round mv h (unshared_back plan mv first k), apart_after plan round mv hs ks)

-- a test that all candidates pass, the taken moves pass too; and they share no site
pub taken_all : (test : Move → Type 0) (plan : Plan) (round moves : List Move) → AllByRecursion test round → AllByRecursion test moves →
    AllByRecursion test (taken_moves plan round moves)
unfolding taken_moves
taken_all test plan round [] h k = h
taken_all test plan round (mv ∷ moves) h (k, ks) = by (shares_any plan round mv) (λ next g. taken_all test plan next moves g ks)
  where
    by : (b : Bool) → ((next : List Move) → AllByRecursion test next → AllByRecursion test (taken_moves plan next moves)) →
        AllByRecursion test (taken_moves plan (if b then round else round ++ mv ∷ []) moves)
    by true more = more round h
    by false more = more (round ++ mv ∷ []) (all_after test round mv h k)

pub taken_apart : (plan : Plan) (round moves : List Move) → AreApart plan round → AreApart plan (taken_moves plan round moves)
unfolding taken_moves
taken_apart plan round [] h = h
taken_apart plan round (mv ∷ moves) h = by (shares_any plan round mv) refl (λ next g. taken_apart plan next moves g)
  where
    by : (b : Bool) → shares_any plan round mv ≡ b → ((next : List Move) → AreApart plan next → AreApart plan (taken_moves plan next moves)) →
        AreApart plan (taken_moves plan (if b then round else round ++ mv ∷ []) moves)
    by true e more = more round h
    by false e more = more (round ++ mv ∷ []) (apart_after plan round mv h (unshared plan round mv e))

-- moves that were taken stay
pub taken_more : (plan : Plan) (round moves : List Move) → (more : List Move) × (taken_moves plan round moves ≡ round ++ more)
unfolding taken_moves
taken_more plan round [] = ([], sym (append-nil round))
taken_more plan round (mv ∷ moves) = by (shares_any plan round mv) (λ next. taken_more plan next moves)
  where
    by : (b : Bool) → ((next : List Move) → (more : List Move) × (taken_moves plan next moves ≡ next ++ more)) →
        (more : List Move) × (taken_moves plan (if b then round else round ++ mv ∷ []) moves ≡ round ++ more)
    by true go = go round
    by false go = let h = go (round ++ mv ∷ []) in (mv ∷ h.0, h.1 ∙ append_assoc round (mv ∷ []) h.0)

-- and each candidate is taken, or shares a site with a taken one
pub taken_full : (plan : Plan) (round moves : List Move) → AllByRecursion (IsTaken plan (taken_moves plan round moves)) moves
unfolding taken_moves
taken_full plan round [] = tt
taken_full plan round (mv ∷ moves) = by (shares_any plan round mv) refl (λ next. taken_more plan next moves) (λ next. taken_full plan next moves)
  where
    by : (b : Bool) → shares_any plan round mv ≡ b → ((next : List Move) → (more : List Move) × (taken_moves plan next moves ≡ next ++ more)) →
        ((next : List Move) → AllByRecursion (IsTaken plan (taken_moves plan next moves)) moves)
        → AllByRecursion (IsTaken plan (taken_moves plan (if b then round else round ++ mv ∷ []) moves)) (mv ∷ moves)
    by true e go rest =
        let h = go round in (
          inr (ap (λ (all : List Move). shares_any plan all mv) h.1 ∙ list_any-append (shares plan mv) round h.0
              ∙ ap (λ (t : Bool). t || shares_any plan h.0 mv) e),
          rest round,
        )
    by false e go rest =
        let h = go (round ++ mv ∷ []) in
        (inl (round, h.0, h.1 ∙ append_assoc round (mv ∷ []) h.0), rest (round ++ mv ∷ []))

-- a round is full
pub round_full : (plan : Plan) (s : State) (moves : List Move) → AreCandidates plan s moves → IsFull plan s moves (round_of plan s moves)
unfolding round_of
round_full plan s moves are = by (find (stands_alone plan s) moves) refl
  where
    by : (o : Option Move) → find (stands_alone plan s) moves ≡ o → IsFull plan s moves (on o (taken_moves plan [] moves) (λ mv. mv ∷ []))
    by None e = inr (taken_apart plan [] moves tt, taken_full plan [] moves)
    by (Some mv) e = inl (mv, (found_one (IsAllowed plan s) (stands_alone plan s) moves mv (candidates_allowed plan s moves are) e).1, refl)

-- one move that is made alone, or moves that can be made in any order
pub data Form (plan : Plan) (s : State) (round : List Move) : Type 0 where
  alone : (mv : Move) → bar plan s mv ≡ None → stands_alone plan s mv ≡ true → round ≡ mv ∷ [] → Form plan s round
  together : IsFree plan s round → Form plan s round

pub round_form : (plan : Plan) (s : State) (round : List Move) → HasSidings plan s → IsRound plan s round → Form plan s round
unfolding round_of
round_form plan s round sidings r = by (find (stands_alone plan s) r.moves) refl r.is
  where
    allowed : AllByRecursion (IsAllowed plan s) r.moves
    allowed = candidates_allowed plan s r.moves r.are

    by : (o : Option Move) → find (stands_alone plan s) r.moves ≡ o → round ≡ on o (taken_moves plan [] r.moves) (λ mv. mv ∷ []) → Form plan s round
    by None e is = together (record {
      sidings = sidings;
      plain = subst (AllByRecursion (IsPlain plan s)) (sym is)
          (taken_all (IsPlain plan s) plan [] r.moves tt (both_hold (IsAllowed plan s) (λ mv. stands_alone plan s mv ≡ false) (IsPlain plan s) r.moves
          (λ mv f g. record { allowed = f; plain = g }) allowed (none_found (stands_alone plan s) r.moves e)));
      apart = subst (AreApart plan) (sym is) (taken_apart plan [] r.moves tt);
    })
    by (Some mv) e is =
        let one = found_one (IsAllowed plan s) (stands_alone plan s) r.moves mv allowed e in
        alone mv one.0 one.1 is
