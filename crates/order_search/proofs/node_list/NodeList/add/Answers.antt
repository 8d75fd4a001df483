-- The node is searched for in its bucket, and is added there with its hash if it is new.
use Rattle.std.proofs.Common.{◌≡◌, ap, length, rules, ◌∙◌}
use Rattle.order_search.specs.Chains.{AreChained, bucket_of, bucket_with}
use Rattle.order_search.proofs.Chaining.{node_chained}
use Rattle.order_search.proofs.node_list.NodeList.add.Goals as goal

pub find-requires-clause-bucket : goal.find-requires-clause-bucket
unfolding bucket_of
find-requires-clause-bucket c =
    let many : c.len.result ≡ length c.self.inside.chains.heads.items = search rules in
    c.bucket_of-bucket.ensures.bucket ∙ ap (λ n. bucket_with n c.hash_of-hash.result) many
    ∙ ap (bucket_with (length c.self.inside.chains.heads.items)) c.hash_of-hash.ensures

pub invariant_of-self-2 : goal.invariant_of-self-2
invariant_of-self-2 c =
    let old : AreChained c.self.inside.nodes c.self.inside.hashes.items c.reserve.new.self.heads.items c.reserve.new.self.links.items
    = rw (c.in_ok-reserve.ensures.heads, c.in_ok-reserve.ensures.links) c.self.invariant in
    let many : c.len.result ≡ length c.self.inside.chains.heads.items = search rules in
    let there : c.bucket_of-bucket.result ≡ bucket_with (length c.reserve.new.self.heads.items) c.hash_of-hash.result
    = rw c.in_ok-reserve.ensures.heads (c.bucket_of-bucket.ensures.bucket ∙ ap (λ n. bucket_with n c.hash_of-hash.result) many) in
    rw (c.in_ok-push.ensures.added, c.push_reserved.ensures.items, c.in_ok-reserve-2.ensures.items)
    (node_chained c.self.inside.nodes c.self.inside.hashes.items c.args.node.now c.add.new.self.heads.items c.add.new.self.links.items
    c.reserve.new.self.heads.items c.reserve.new.self.links.items c.hash_of-hash.result c.bucket_of-bucket.result c.add.ensures.size c.hash_of-hash.ensures
    there old c.add.ensures.chains)
