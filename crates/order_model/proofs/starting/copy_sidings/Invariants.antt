use Rattle.std.proofs.Common.{◌≡◌, take}
use Rattle.order_model.proofs.starting.copy_sidings.Given as goal

-- the sidings so far
abbrev pub invariant-loop-siding : goal.invariant-loop-siding
invariant-loop-siding l = l.list.items ≡ take l.siding-index l.sidings
