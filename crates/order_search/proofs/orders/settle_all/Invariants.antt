use Rattle.std.proofs.Common.{◌≡◌, length}
use Rattle.order_search.specs.Counting.{SettlesFrom}
use Rattle.order_search.proofs.orders.settle_all.Given as goal

abbrev pub invariant-loop-number : goal.invariant-loop-number
invariant-loop-number l = record {
  as_many : length l.counts ≡ length l.rows;
  settles : SettlesFrom l.rows l.fn.counts l.counts l.number l.found;
}
