use Rattle.std.proofs.Common.{◌≡◌, ◌≤◌, drop}
use Rattle.cf_semantics.specs.claims.Weight.{larger, most_cells}
use Rattle.cf_core.proofs.processor.Processor.most_cells.Given as goal

-- the most cells of a siding, among those so far and those that are left
abbrev pub invariant-loop-k : goal.invariant-loop-k
invariant-loop-k l = record {
  whole : larger l.most (most_cells (drop l.k l.self.plan.sidings)) ≡ most_cells l.self.plan.sidings;
  size : l.most ≤ 8;
}
