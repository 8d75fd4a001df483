use Rattle.std.proofs.Common.{◌≡◌, take}
use Rattle.order_search.specs.Counting.{total_count}
use Rattle.order_search.proofs.orders.total.Given as goal

abbrev pub invariant-loop-to : goal.invariant-loop-to
invariant-loop-to l = l.sum ≡ total_count l.counts (take l.to-index l.row)
