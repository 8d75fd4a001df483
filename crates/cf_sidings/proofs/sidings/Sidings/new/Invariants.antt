use Rattle.std.proofs.Common.{◌≡◌, map, take, replicate, None}
use Rattle.cf_sidings.proofs.sidings.Sidings.new.Given as goal

-- the empty sidings so far
abbrev pub invariant-loop-k : goal.invariant-loop-k
invariant-loop-k l = l.list.items ≡ map (λ siding. replicate siding.cells None) (take l.k l.layout.sidings)
