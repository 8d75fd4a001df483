use Rattle.std.proofs.Common.{◌≡◌, map, take}
use Rattle.cf_semantics.specs.runs.Runs.{empty_siding}
use Rattle.order_model.proofs.starting.empty_sidings.Given as goal

-- the empty sidings so far
abbrev pub invariant-loop-k : goal.invariant-loop-k
invariant-loop-k l = l.list.items ≡ map empty_siding (take l.k l.layout.sidings)
