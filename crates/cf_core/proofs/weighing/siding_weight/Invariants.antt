use Rattle.std.proofs.Common.{◌≡◌, ◌+◌, ◌*◌, ◌≤◌, drop, length}
use Rattle.cf_semantics.specs.claims.Weight.{siding_weight}
use Rattle.cf_core.proofs.weighing.siding_weight.Given as goal

-- what is counted, and the weight of the cells that are left, are together the weight of all
abbrev pub invariant-loop-index : goal.invariant-loop-index
invariant-loop-index l = record {
  whole : l.weight + siding_weight (length l.cells) l.index (drop l.index l.cells) ≡ siding_weight (length l.cells) 0 l.cells;
  size : l.weight ≤ 9 * l.index;
}
