-- The node is none of those above, and the next is in its bucket.
use Rattle.std.proofs.Common.{length, map}
use Rattle.order_search.specs.Chains.{bucket_of}
use Rattle.order_search.proofs.Chaining.{IsSought}
use Rattle.order_search.proofs.node_list.find.Given as goal

abbrev pub invariant-loop-top : goal.invariant-loop-top
invariant-loop-top l = record { sought : IsSought (map (bucket_of (length l.chains.heads.items)) l.nodes) l.nodes l.node l.bucket l.top }

abbrev pub decreases-loop-top : goal.decreases-loop-top
decreases-loop-top l = l.top
