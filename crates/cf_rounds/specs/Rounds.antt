-- Rounds: the moves that a clocked processor makes at one tick. No two of them share a site, so they can be made in any
-- order.
use Rattle.std.specs.Prelude.{◌≡◌, ◌⊎◌, ℕ, ◌≤◌, List, length, [], ◌∷◌, ◌++◌, Bool, true, false, None, if◌then◌else◌}
use Rattle.std.specs.List.{AllByRecursion, find, list_any}
use Rattle.run_options.specs.declared.guess_rule.GuessRule.{GuessRule}
use Rattle.cf_layout.specs.Layout.{Plan}
use Rattle.cf_bind.specs.declared.moves.Move.{Move}
use Rattle.cf_semantics.specs.moves.Bars.{bar}
use Rattle.cf_semantics.specs.moves.Candidates.{held_back}
use Rattle.cf_semantics.specs.state.Options.{on}
use Rattle.cf_semantics.specs.state.State.{State}
use Rattle.cf_index.specs.Alone.{stands_alone}
use Rattle.cf_index.specs.GuessRules.{guided}
use Rattle.cf_index.specs.Sites.{shares}

-- a round is stored in a table of 128 moves, of which the first entries are used
pub record IsHeld (count : ℕ) (places : List Move) : Type 0 where
  pub room : length places ≡ 128
  pub few : count ≤ 128

-- the move shares a site with one of these
abbrev pub shares_any : Plan → List Move → Move → Bool
shares_any plan round mv = list_any (shares plan mv) round

-- the taken moves, followed by each move of a list, in order, that shares no site with one already taken
unfoldable pub taken_moves : Plan → (round moves : List Move) → List Move
taken_moves plan round [] = round
taken_moves plan round (mv ∷ moves) = taken_moves plan (if shares_any plan round mv then round else round ++ mv ∷ []) moves

-- the round of some candidates: the first that must be made alone, if there is one; otherwise those that are taken
unfoldable pub round_of : Plan → State → List Move → List Move
round_of plan s moves = on (find (stands_alone plan s) moves) (taken_moves plan [] moves) (λ mv. mv ∷ [])

-- these are the candidates of the state under some guess rule, with Issue held back or not
abbrev pub AreCandidates : Plan → State → List Move → Type 0
AreCandidates plan s moves = (r : GuessRule) × ((moves ≡ guided r plan s) ⊎ (moves ≡ held_back (guided r plan s)))

-- the moves are the round of the state's candidates under some guess rule, with Issue held back or not
pub record IsRound (plan : Plan) (s : State) (round : List Move) : Type 0 where
  pub moves : List Move
  pub are : AreCandidates plan s moves
  pub is : round ≡ round_of plan s moves

-- nothing bars the move
abbrev pub IsAllowed : Plan → State → Move → Type 0
IsAllowed plan s mv = bar plan s mv ≡ None

-- no two of the moves share a site
abbrev pub AreApart : Plan → List Move → Type 0
AreApart plan [] = Unit {0}
AreApart plan (mv ∷ round) = AllByRecursion (λ other. shares plan mv other ≡ false) round × AreApart plan round

-- the move is one of the round, or shares a site with one in it
abbrev pub IsTaken : Plan → List Move → Move → Type 0
IsTaken plan round mv = ((front : List Move) × (after : List Move) × (round ≡ front ++ mv ∷ after)) ⊎ (shares_any plan round mv ≡ true)

-- the round is one move that is made alone; or no two of its moves share a site, and each candidate outside it shares a
-- site with one of its moves
abbrev pub IsFull : Plan → State → (moves round : List Move) → Type 0
IsFull plan s moves round =
    ((mv : Move) × (stands_alone plan s mv ≡ true) × (round ≡ mv ∷ []))
    ⊎ (AreApart plan round × AllByRecursion (IsTaken plan round) moves)

-- the other list is a permutation: it has the first move somewhere, and the rest is a permutation of the others
abbrev pub IsOrderOf : List Move → List Move → Type 0
IsOrderOf [] other = other ≡ []
IsOrderOf (mv ∷ moves) other =
    (front : List Move) × (after : List Move) × (other ≡ front ++ mv ∷ after) × IsOrderOf moves (front ++ after)
