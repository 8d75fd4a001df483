use Rattle.std.proofs.Common.{◌≡◌, ◌++◌, map}
use Rattle.cf_semantics.specs.moves.Candidates.{counted_from}
use Rattle.order_model.specs.StageKinds.{kind_at}
use Rattle.order_model.proofs.listing.push_stages.Given as goal

-- the moves at the stages so far
abbrev pub invariant-loop-below : goal.invariant-loop-below
invariant-loop-below l = l.moves.items ≡ l.fn.moves.items ++ map (kind_at l.kind) (counted_from 1 l.below)
