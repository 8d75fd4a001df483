-- One more stage.
use Rattle.std.proofs.Common.{◌∙◌, ◌+◌, ◌∷◌, [], ap, arith, map}
use Rattle.cf_semantics.specs.moves.Candidates.{counted_from}
use Rattle.order_model.specs.StageKinds.{kind_at}
use Rattle.order_model.proofs.Listed.{counted_more, grown}
use Rattle.order_model.proofs.listing.push_stages.Goals as goal

pub loop-below-preserved : goal.loop-below-preserved
loop-below-preserved c =
    let f = kind_at c.args.kind in
    let n = c.loop-below.below in
    grown c.args.moves.now.items c.loop-below.moves.items c.push.new.self.items (map f (counted_from 1 n)) (c.at.result ∷ []) (map f (counted_from 1 (n + 1)))
    c.loop-below.invariant c.in_ok-push.ensures.items (counted_more f 1 n c.at.result (c.at.ensures ∙ ap f (omega arith)))
