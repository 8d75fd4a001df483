-- What a search has reached, as a value.
use Rattle.std.specs.Prelude.{ℕ, List}
use Rattle.order_search.specs.declared.orders.Orders.{Orders}

-- the nodes, in the order in which they were first reached; for each node the numbers of the nodes to which its edges
-- lead; the number of edges; the number of nodes without outgoing edges; and the number of routes that lead to these
pub record ReachedGraph : Type 0 where
  pub nodes : List (List ℕ)
  pub rows : List (List ℕ)
  pub edges : ℕ
  pub ends : ℕ
  pub orders : Orders
