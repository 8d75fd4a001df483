-- The answer of a search of all orders.
use Rattle.std.specs.Prelude.{◌≡◌, ℕ, List, length, map, Option, Some, slice_get}
use Rattle.std.specs.List.{All, AllPairs, AllZip}
use Rattle.rv_machine.specs.Hart.{Hart}
use Rattle.cf_layout.specs.Layout.{Plan}
use Rattle.cf_bind.specs.declared.moves.Move.{Move}
use Rattle.order_rules.specs.declared.rule.Rule.{Rule}
use Rattle.order_model.specs.Situations.{lone_moment}
use Rattle.order_machine.specs.Waypoints.{machine_of}
use Rattle.order_search.specs.declared.reached.NumberedEdge.{NumberedEdge}
use Rattle.order_search.specs.Rows.{AreRows}
use Rattle.order_claims.specs.MoveLists.{issued_with}
use Rattle.order_graph.specs.declared.found.OrdersFound.{OrdersFound}
use Rattle.order_graph.specs.declared.found.OrdersFound.TheVariants.{Wrong, Reached, TooMany}
use Rattle.order_graph.specs.declared.reached.OrdersReached.{OrdersReached}
use Rattle.order_graph.specs.OrderTrial.{OrderTrial, IssuedState, leads_on, moment_next}
use Rattle.order_graph.specs.OrderLists.{IsFirstWrong, IsReachedBefore}
use Rattle.order_graph.specs.StateCounts.{AreAllStates, HasMoreStates, CountsOrders}
use Rattle.order_graph.specs.WrongAnswers.{ShowsWrong}
use Rattle.order_graph.specs.KeyGraph.{IsOrderKey, edges_from, memory_loaded, state_at}

-- the trial of a program that starts on this hart
abbrev pub trial_of : Option Rule → Plan → Hart → ℕ → OrderTrial
trial_of away plan hart most = record { away = away; plan = plan; machine = machine_of hart; most = most }

-- the states that were reached, in the order of their numbers
abbrev pub states_of : OrdersReached → List IssuedState
states_of r = map (state_at r.graph.trial) r.reached.nodes

-- what was reached is a graph of the trial's states, and the search uses the trial's memory
pub record IsSearched (r : OrdersReached) : Type 0 where
  pub loaded : r.graph.mem ≡ memory_loaded r.graph.trial
  pub as_many : length r.reached.rows ≡ length r.reached.nodes
  pub known : All (IsOrderKey r.graph.trial) r.reached.nodes
  pub rows : AreRows (edges_from r.graph.trial) r.reached.nodes r.reached.rows

-- all states are reached and counted, and their numbers are in the order in which they are first reached
pub record IsCountOf (t : OrderTrial) (bound : ℕ) (r : OrdersReached) : Type 0 where
  pub trial : r.graph.trial ≡ t
  pub searched : IsSearched r
  pub states : AreAllStates t bound (states_of r) r.reached.edges r.reached.ends
  pub in_order : AllPairs (IsReachedBefore t) (states_of r)
  pub orders : CountsOrders t r.reached.orders

-- the state to which a move leads
unfoldable pub state_next : OrderTrial → IssuedState → Move → IssuedState
state_next t n mv = record { state = (moment_next t (lone_moment n.state) mv).state; issued = issued_with n.issued mv }

-- a move, with the number of the state to which it leads from this one
pub record IsNumberedMove (t : OrderTrial) (states : List IssuedState) (n : IssuedState) (numbered : NumberedEdge Move) (mv : Move) : Type 0 where
  pub name : numbered.label ≡ mv
  pub to : slice_get states numbered.to ≡ Some (state_next t n mv)

-- the moves that lead on from the state with a number, in their order, each with the number of the state to which it leads
pub record AreNumberedMoves (t : OrderTrial) (states : List IssuedState) (number : ℕ) (list : List (NumberedEdge Move)) : Type 0 where
  pub from : IssuedState
  pub there : slice_get states number ≡ Some from
  pub moves : AllZip (IsNumberedMove t states from) list (leads_on t from.state from.issued)

-- the answer of a search of at most `bound` states
abbrev pub AreOrdersFound : OrderTrial → ℕ → OrdersFound → Type 0
AreOrdersFound t bound (Wrong w) = IsFirstWrong t bound w.moves.items w.kind × ShowsWrong t w.moves.items w.reached w.counts w.seen w.wanted
AreOrdersFound t bound (Reached r) = IsCountOf t bound r
AreOrdersFound t bound TooMany = HasMoreStates t bound

-- the answer is anything but a wrong list of moves
abbrev pub IsNotWrong : OrdersFound → Type 0
IsNotWrong (Wrong w) = ⊥
IsNotWrong (Reached r) = Unit {0}
IsNotWrong TooMany = Unit {0}
