-- How many states are reached, how many moves lead on from them, from how many of them no move leads on, and how many
-- lists of moves lead to these.
use Rattle.std.specs.Prelude.{◌≡◌, ◌≢◌, ℕ, ◌≤◌, ◌<◌, ◌^◌, List, length, sum_by, count_by}
use Rattle.std.specs.List.{Contains, AllPairs}
use Rattle.cf_bind.specs.declared.moves.Move.{Move}
use Rattle.order_claims.specs.declared.wrong_kind.WrongKind.{WrongKind}
use Rattle.order_search.specs.declared.orders.Orders.{Orders}
use Rattle.order_search.specs.declared.orders.Orders.TheVariants.{Exactly, More, Endless}
use Rattle.order_search.specs.Routes.{is_none}
use Rattle.order_search.specs.SearchOrder.{Precedes}
use Rattle.order_graph.specs.OrderTrial.{OrderTrial, IssuedState, first_moment, leads_on, IsTrialOrder, IsWrongOrderOf}
use Rattle.order_graph.specs.OrderLists.{IsPlaced, IsReachedState, IsReachedEarly, whole_orders}

-- this many lists of moves lead from the start to where no move leads on; each list has at most `depth` moves
pub record HasWholeOrders (t : OrderTrial) (count : ℕ) : Type 0 where
  pub depth : ℕ
  pub bounded : (moves : List Move) → IsTrialOrder t moves → length moves ≤ depth
  pub all : count ≡ length (whole_orders t depth (first_moment t) 0)

-- more of them than fit into a number of 64 bits
pub record HasManyOrders (t : OrderTrial) : Type 0 where
  pub count : ℕ
  pub all : HasWholeOrders t count
  pub many : 2 ^ 64 ≤ count

-- the answer for the lists of moves from the start to where no move leads on; it is never that they do not end
abbrev pub CountsOrders : OrderTrial → Orders → Type 0
CountsOrders t (Exactly count) = HasWholeOrders t count
CountsOrders t More = HasManyOrders t
CountsOrders t Endless = ⊥

-- all states that are reached, each once and at most `bound`, each with the number of Issue moves on the way; the
-- number of moves that lead on from them; the number of states from which none does; and no list of moves is wrong
pub record AreAllStates (t : OrderTrial) (bound : ℕ) (nodes : List IssuedState) (moves ends : ℕ) : Type 0 where
  pub once : AllPairs (λ a b. a ≢ b) nodes
  pub reached : (n : IssuedState) → Contains nodes n → IsReachedState t n
  pub all : (n : IssuedState) → IsReachedState t n → Contains nodes n
  pub few : length nodes ≤ bound
  pub lead : moves ≡ sum_by (λ n. length (leads_on t n.state n.issued)) nodes
  pub last : ends ≡ count_by (λ n. is_none (leads_on t n.state n.issued)) nodes
  pub sound : (list : List Move) (kind : WrongKind) → IsWrongOrderOf t list kind → ⊥

-- more than `bound` states are reached, and by lists that are not after one of these places; each wrong list is after
-- it
pub record HasMoreStates (t : OrderTrial) (bound : ℕ) : Type 0 where
  pub nodes : List IssuedState
  pub last : List ℕ
  pub once : AllPairs (λ a b. a ≢ b) nodes
  pub many : bound < length nodes
  pub near : (n : IssuedState) → Contains nodes n → IsReachedEarly t last n
  pub least : (places : List ℕ) (list : List Move) (kind : WrongKind) → IsPlaced t places list → IsWrongOrderOf t list kind → Precedes last places
