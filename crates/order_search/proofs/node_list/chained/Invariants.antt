-- The chains of the nodes so far.
use Rattle.std.proofs.Common.{◌≡◌, length, map, take}
use Rattle.order_search.specs.Chains.{AreChains, bucket_with}
use Rattle.order_search.proofs.node_list.chained.Given as goal

abbrev pub invariant-loop-hash : goal.invariant-loop-hash
invariant-loop-hash l = record {
  size : length l.chains.heads.items ≡ l.buckets;
  chains : AreChains (map (bucket_with l.buckets) (take l.hash-index l.hashes)) l.chains.heads.items l.chains.links.items;
}
