-- One more cell.
use Rattle.std.proofs.Common.{◌+◌, ◌∷◌, [], ap, arith, map}
use Rattle.cf_bind.specs.declared.moves.Move.TheVariants.{Slide}
use Rattle.cf_semantics.specs.moves.Candidates.{counted_from}
use Rattle.order_model.proofs.Listed.{counted_more, grown}
use Rattle.order_model.proofs.listing.push_cells.Goals as goal

pub loop-cell-preserved : goal.loop-cell-preserved
loop-cell-preserved c =
    let k = c.args.siding in
    let n = c.loop-cell.cell in
    grown c.args.moves.now.items c.loop-cell.moves.items c.push.new.self.items (map (Slide k) (counted_from 0 n)) (Slide k n ∷ [])
    (map (Slide k) (counted_from 0 (n + 1)))
    c.loop-cell.invariant c.in_ok-push.ensures.items (counted_more (Slide k) 0 n (Slide k n) (ap (Slide k) (omega arith)))
