use Rattle.std.proofs.Common.{◌≡◌, ◌<◌, length}
use Rattle.std.specs.List.{All}
use Rattle.order_search.specs.Counting.{Sweeps}
use Rattle.order_search.proofs.orders.settle_along_paths.Given as goal

abbrev pub invariant-loop : goal.invariant-loop
invariant-loop l = record {
  as_many : length l.counts ≡ length l.rows;
  waiting : All (λ number. number < length l.rows) l.waiting.items;
  swept : Sweeps l.rows l.fn.counts l.counts;
}
