-- The cache keeps its size.
use Rattle.order_keys.proofs.situation_parts.unpack_situation.Goals as goal

pub invariant_of-s-then-not-unpack_fetching : goal.invariant_of-s-then-not-unpack_fetching
invariant_of-s-then-not-unpack_fetching c = c.unpack_fetching.ensures.size

pub invariant_of-s-2 : goal.invariant_of-s-2
invariant_of-s-2 c = c.unpack_fetching.ensures.size
