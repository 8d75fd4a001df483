use Rattle.std.proofs.Common.{◌≡◌, ◌++◌, map}
use Rattle.cf_bind.specs.declared.moves.Move.TheVariants.{Slide}
use Rattle.cf_semantics.specs.moves.Candidates.{counted_from}
use Rattle.order_model.proofs.listing.push_cells.Given as goal

-- the moves from the cells so far
abbrev pub invariant-loop-cell : goal.invariant-loop-cell
invariant-loop-cell l = l.moves.items ≡ l.fn.moves.items ++ map (Slide l.siding) (counted_from 0 l.cell)
