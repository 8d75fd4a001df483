use Rattle.std.proofs.Common.{◌≤◌, length}
use Rattle.order_search.proofs.Traces.{LeadsFrom}
use Rattle.order_search.proofs.trail.Trail.labels.Given as goal

abbrev pub invariant-loop-at : goal.invariant-loop-at
invariant-loop-at g l = record {
  inside : l.at ≤ length l.self.entered.items;
  rest : LeadsFrom l.self.entered.items l.number l.fn.label l.labels.items l.at;
}

abbrev pub decreases-loop-at : goal.decreases-loop-at
decreases-loop-at g l = l.at
