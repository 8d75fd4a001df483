use Rattle.std.proofs.Common.{◌≡◌, length}
use Rattle.order_search.specs.Counting.{Sweeps, open_count}
use Rattle.order_search.proofs.orders.settle_in_turns.Given as goal

abbrev pub invariant-turns : goal.invariant-turns
invariant-turns l = record {
  swept : Sweeps l.rows l.fn.counts l.counts;
  as_many : length l.counts ≡ length l.rows;
}

abbrev pub decreases-turns : goal.decreases-turns
decreases-turns l = open_count l.counts
