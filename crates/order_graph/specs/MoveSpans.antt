-- Which stages a move may change, if it changes nothing else; and what two states have in common that differ only
-- there.
use Rattle.std.specs.Prelude.{◌≡◌, ◌≤◌, ℕ, ◌+◌, ◌-◌, Option, Some, None, length, take, drop}
use Rattle.cf_bind.specs.declared.moves.Move.{Move}
use Rattle.cf_bind.specs.declared.moves.Move.TheVariants.{Climb, Fall, Meet, Execute, Send}
use Rattle.cf_semantics.specs.state.State.{State}
use Rattle.order_keys.specs.declared.node.Node.{Node}
use Rattle.order_keys.specs.Beside.{DiffersWithin}
use Rattle.order_graph.specs.declared.spans.StageSpan.{StageSpan}
use Rattle.order_graph.specs.OrderTrial.{OrderTrial}
use Rattle.order_graph.specs.KeyGraph.{node_next}

-- the stages of the move, counted from 0; moves count them from 1
abbrev pub stages_of_move : Move → Option StageSpan
stages_of_move (Climb i) = Some (record { low = i - 1; high = i + 1 })
stages_of_move (Fall i) = Some (record { low = i - 2; high = i })
stages_of_move (Meet i) = Some (record { low = i - 1; high = i })
stages_of_move (Execute i) = Some (record { low = i - 1; high = i })
stages_of_move (Send i) = Some (record { low = i - 1; high = i })
stages_of_move mv = None

-- a state differs from another at most in the stages from `low` up to, but not including, `high`
pub record StaysOutside (low high : ℕ) (s t : State) : Type 0 where
  pub as_many : length t.cells ≡ length s.cells
  pub lower : take low t.cells ≡ take low s.cells
  pub upper : drop high t.cells ≡ drop high s.cells
  pub others : (let r : State = record t { cells = s.cells } in r) ≡ s

-- the stages that a move which leads on from a node may change, if it changes nothing else
pub record IsSpanOf (t : OrderTrial) (n : Node) (m : Move) (span : StageSpan) : Type 0 where
  pub within : DiffersWithin span.low span.high n (node_next t n m)
  pub order : span.low ≤ span.high
  pub inside : span.high ≤ length n.situation.cells
