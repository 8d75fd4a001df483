-- What a policy is offered: the candidates that its guess rule keeps, with Issue held back or not. The hold rule has a
-- count that stops once Issue is held back: it gives the same answers as the whole count.
use Rattle.std.specs.Prelude.{◌≡◌, ℕ, ◌*◌, List, min, Bool, nat_le}
use Rattle.run_options.specs.declared.guess_rule.GuessRule.{GuessRule}
use Rattle.cf_layout.specs.Layout.{Plan}
use Rattle.cf_bind.specs.declared.moves.Move.{Move}
use Rattle.cf_semantics.specs.declared.event.Event.{Event}
use Rattle.cf_semantics.specs.state.State.{State}
use Rattle.cf_semantics.specs.moves.Holding.{is_held, paced}
use Rattle.cf_index.specs.Allowed.{withheld}
use Rattle.cf_index.specs.GuessRules.{guided}

-- the guess rule, the number of stages, and the count, which stops at twice that number
pub record PaceCount : Type 0 where
  pub rule : GuessRule
  pub stages : ℕ
  pub count : ℕ

-- the count that stops
abbrev pub stopped : ℕ → ℕ → ℕ
stopped stages count = min count (2 * stages)

-- a count of this many Issue moves, for this many stages, under this guess rule
abbrev pub HasCounted : GuessRule → ℕ → ℕ → PaceCount → Type 0
HasCounted r stages count c = (c.rule ≡ r) × (c.stages ≡ stages) × (c.count ≡ stopped stages count)

-- Issue is held back
abbrev pub holds_issue : PaceCount → Bool
holds_issue c = nat_le (2 * c.stages) c.count

-- the count after one more move
abbrev pub saw : PaceCount → Move → Event → Bool → PaceCount
saw c mv e drained = record c { count = stopped c.stages (paced c.count mv e drained) }

-- what a policy is offered
unfoldable pub offers : PaceCount → Plan → State → List Move
offers c plan s = withheld (holds_issue c) (guided c.rule plan s)

-- the same by a whole count of Issue moves
unfoldable pub offered_by : GuessRule → Plan → ℕ → State → List Move
offered_by r plan count s = withheld (is_held plan count) (guided r plan s)
