-- The node below is a different one, so the search goes on with the next of its chain.
use Rattle.std.proofs.Common.{arith, ◌≡◌, ◌-◌, ◌<◌, sym, subst, ◌∙◌, true≢false, length, map, get_or}
use Rattle.std.proofs.lemmas.List.{get_or_default, length-map}
use Rattle.order_search.specs.Chains.{bucket_of}
use Rattle.order_search.specs.Numbers.{node_at}
use Rattle.order_search.proofs.Chaining.{IsSought, sought_next}
use Rattle.order_search.proofs.node_list.find.Goals as goal

pub loop-top-preserved : goal.loop-top-preserved
loop-top-preserved c =
    let within : c.loop-top.top - 1 < length c.args.chains.now.links.items = omega (
      arith,
      c.loop-top-test.true,
      c.loop-top.invariant.sought.below,
      c.requires.chains.chained.as_many,
      length-map c.args.nodes.now (bucket_of (length c.args.chains.now.heads.items)),
    ) in
    let at = get_or_default c.args.chains.now.links.items (c.loop-top.top - 1) c.index-top-in-loop-top.result.now 0 within in
    let next : c.index-top-in-loop-top.result.now ≡ get_or c.args.chains.now.links.items (c.loop-top.top - 1) 0 = cc (c.index-top-in-loop-top.ensures, at) in
    let other : node_at c.args.nodes.now (c.loop-top.top - 1) ≡ c.args.node.now → ⊥ =
    λ same. true≢false (sym (c.is_there.ensures.1 same) ∙ c.if-is_there.false) in record {
      sought = subst (IsSought (map (bucket_of (length c.args.chains.now.heads.items)) c.args.nodes.now)
          c.args.nodes.now c.args.node.now c.args.bucket) (sym next)
          (sought_next c.args.nodes.now c.args.chains.now.heads.items c.args.chains.now.links.items c.args.node.now c.requires.chains.chained c.args.bucket
          c.loop-top.top
          (c.loop-top.top - 1) c.requires.bucket (omega (arith, c.loop-top-test.true)) other c.loop-top.invariant.sought);
    }
