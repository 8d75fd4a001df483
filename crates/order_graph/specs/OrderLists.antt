-- Lists of moves in the order of a search: each move has a place among those that lead on from the state in which it is
-- made.
use Rattle.std.specs.Prelude.{◌≡◌, ℕ, zero, suc, List, [], ◌∷◌, Some, slice_get, length, ◌≤◌, if◌then◌else◌}
use Rattle.std.specs.List.{Contains, flat_map}
use Rattle.cf_bind.specs.declared.moves.Move.{Move}
use Rattle.cf_semantics.specs.state.State.{Moment}
use Rattle.order_claims.specs.declared.wrong_kind.WrongKind.{WrongKind}
use Rattle.order_claims.specs.MoveLists.{issued_with}
use Rattle.order_search.specs.Routes.{is_none, each_behind}
use Rattle.order_search.specs.SearchOrder.{Precedes, IsNotAfter}
use Rattle.order_graph.specs.OrderTrial.{OrderTrial, IssuedState, first_moment, leads_on, moment_next, IsTrialOrder, IsWrongOrderOf, reached_by}

-- each move of the list leads on from the state in which it is made, and has this place among those that do
unfoldable pub IsPlacedFrom : OrderTrial → Moment → ℕ → List ℕ → List Move → Type 0
IsPlacedFrom t m issued [] [] = Unit {0}
IsPlacedFrom t m issued [] (mv ∷ moves) = ⊥
IsPlacedFrom t m issued (place ∷ places) [] = ⊥
IsPlacedFrom t m issued (place ∷ places) (mv ∷ moves) =
    (slice_get (leads_on t m.state issued) place ≡ Some mv) × IsPlacedFrom t (moment_next t m mv) (issued_with issued mv) places moves

-- the same from the start
abbrev pub IsPlaced : OrderTrial → List ℕ → List Move → Type 0
IsPlaced t places moves = IsPlacedFrom t (first_moment t) 0 places moves

-- the list is wrong in this way, and no wrong list comes before it: none is shorter, and no equally long one takes an
-- earlier place where the two first differ. The lists before it lead to at most `bound` states
pub record IsFirstWrong (t : OrderTrial) (bound : ℕ) (moves : List Move) (kind : WrongKind) : Type 0 where
  pub places : List ℕ
  pub placed : IsPlaced t places moves
  pub wrong : IsWrongOrderOf t moves kind
  pub least : (others : List ℕ) (list : List Move) (other : WrongKind) → IsPlaced t others list → IsWrongOrderOf t list other → IsNotAfter places others
  pub before : List IssuedState
  pub few : length before ≤ bound
  pub earlier : (others : List ℕ) (list : List Move) → IsPlaced t others list → Precedes others places → Contains before (reached_by t list)

-- a list of moves leads to the state
pub record IsReachedState (t : OrderTrial) (n : IssuedState) : Type 0 where
  pub moves : List Move
  pub allowed : IsTrialOrder t moves
  pub is : n ≡ reached_by t moves

-- a list of moves that leads to the first state comes before each list that leads to the second
pub record IsReachedBefore (t : OrderTrial) (earlier later : IssuedState) : Type 0 where
  pub places : List ℕ
  pub moves : List Move
  pub placed : IsPlaced t places moves
  pub is : earlier ≡ reached_by t moves
  pub before : (others : List ℕ) (list : List Move) → IsPlaced t others list → later ≡ reached_by t list → Precedes places others

-- a list that is not after these places leads to the state
pub record IsReachedEarly (t : OrderTrial) (last : List ℕ) (n : IssuedState) : Type 0 where
  pub places : List ℕ
  pub moves : List Move
  pub placed : IsPlaced t places moves
  pub early : IsNotAfter places last
  pub is : n ≡ reached_by t moves

-- the lists of at most `depth` moves from a moment to one from which none leads on
unfoldable pub whole_orders : OrderTrial → ℕ → Moment → ℕ → List (List Move)
whole_orders t zero m issued = if is_none (leads_on t m.state issued) then [] ∷ [] else []
whole_orders t (suc depth) m issued = if is_none (leads_on t m.state issued) then [] ∷ []
    else flat_map (λ mv. each_behind mv (whole_orders t depth (moment_next t m mv) (issued_with issued mv))) (leads_on t m.state issued)
