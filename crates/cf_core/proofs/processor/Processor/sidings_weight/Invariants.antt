use Rattle.std.proofs.Common.{◌≡◌, ◌+◌, ◌*◌, ◌≤◌, drop}
use Rattle.cf_semantics.specs.claims.Weight.{sidings_weight}
use Rattle.cf_core.proofs.processor.Processor.sidings_weight.Given as goal

-- what is counted, and the weight of the sidings that are left, are together the weight of all
abbrev pub invariant-loop-k : goal.invariant-loop-k
invariant-loop-k l = record {
  whole : l.weight + sidings_weight (drop l.k l.self.state.sidings) ≡ sidings_weight l.self.state.sidings;
  size : l.weight ≤ 72 * l.k;
}
