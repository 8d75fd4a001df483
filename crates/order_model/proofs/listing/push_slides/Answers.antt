-- One more siding.
use Rattle.std.proofs.Common.{◌≡◌, ◌∙◌, ◌<◌, ◌+◌, ◌-◌, ◌++◌, ap, arith, length, map, take}
use Rattle.cf_layout.specs.Layout.{cells_of}
use Rattle.cf_bind.specs.declared.moves.Move.TheVariants.{Slide}
use Rattle.cf_semantics.specs.moves.Candidates.{counted_from, slides_from}
use Rattle.order_model.proofs.Listed.{grown, slides_more}
use Rattle.order_model.proofs.listing.push_slides.Goals as goal

pub loop-siding-preserved : goal.loop-siding-preserved
loop-siding-preserved c =
    let plan = c.args.layout.now in
    let k = c.loop-siding.siding in
    let h : k < length plan.sidings = omega arith in
    let e : cells_of plan k - 1 ≡ c.saturating_sub.result = omega arith in
    grown c.args.moves.now.items c.loop-siding.moves.items c.push_cells.new.moves.items (slides_from 0 (take k plan.sidings))
    (map (Slide k) (counted_from 0 c.saturating_sub.result))
    (slides_from 0 (take (k + 1) plan.sidings)) c.loop-siding.invariant c.in_ok-push_cells.ensures
    (slides_more plan k h ∙ ap (λ n. slides_from 0 (take k plan.sidings) ++ map (Slide k) (counted_from 0 n)) e)
