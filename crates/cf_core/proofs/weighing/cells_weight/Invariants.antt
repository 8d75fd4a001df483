use Rattle.std.proofs.Common.{◌≡◌, ◌+◌, ◌*◌, ◌≤◌, drop, length}
use Rattle.cf_semantics.specs.claims.Weight.{cells_weight}
use Rattle.cf_core.proofs.weighing.cells_weight.Given as goal

-- what is counted, and the weight of the stages that are left, are together the weight of all
abbrev pub invariant-loop-index : goal.invariant-loop-index
invariant-loop-index l = record {
  whole : l.weight + cells_weight (length l.stages) l.cells (1 + l.index) (drop l.index l.stages) ≡ cells_weight (length l.stages) l.cells 1 l.stages;
  size : l.weight ≤ 512 * l.index;
}
