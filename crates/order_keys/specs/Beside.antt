-- Nodes that differ only in some of their stages.
use Rattle.std.specs.Prelude.{◌≡◌, ℕ, take, drop, length}
use Rattle.cf_semantics.specs.state.State.{State}
use Rattle.order_keys.specs.declared.node.Node.{Node}

-- the state of a node with the stages of another
abbrev pub with_stages_of : Node → Node → State
with_stages_of other n = record n.situation { cells = other.situation.cells }

-- a node differs from another at most in the stages from `low` up to, but not including, `high`, counted from 0
pub record DiffersWithin (low high : ℕ) (before n : Node) : Type 0 where
  pub as_many : length n.situation.cells ≡ length before.situation.cells
  pub lower : take low n.situation.cells ≡ take low before.situation.cells
  pub upper : drop high n.situation.cells ≡ drop high before.situation.cells
  pub others : with_stages_of before n ≡ before.situation
  pub changes : n.changes ≡ before.changes
  pub issues : n.issues ≡ before.issues
