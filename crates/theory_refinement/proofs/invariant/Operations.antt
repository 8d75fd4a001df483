-- The operations of a siding are those of the instructions that launched them, in their order.
use Rattle.std.specs.Prelude.{◌≡◌, ◌≢◌, ℕ, List, length}
use Rattle.cf_layout.specs.Layout.{Plan, cells_of}
use Rattle.cf_semantics.specs.state.State.{State, siding_at}
use Rattle.cf_semantics.specs.state.Column.{Item}
use Rattle.cf_semantics.specs.state.Layouts.{port}
use Rattle.cf_semantics.specs.claims.Soundness.{AreUnanswered, LastAnswered, operations_in, operations_of}

-- the sidings hold what these items have launched
pub record IsMoored (plan : Plan) (s : State) (items : List Item) : Type 0 where
  pub operations : (k : ℕ) → operations_in (siding_at s k) ≡ operations_of plan k items
  pub front : (k : ℕ) → LastAnswered (siding_at s k)
  pub plain : (k : ℕ) → k ≢ port plan → AreUnanswered (siding_at s k)
  pub berths : (k : ℕ) → length (siding_at s k) ≡ cells_of plan k
