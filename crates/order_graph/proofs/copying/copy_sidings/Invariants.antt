-- The sidings so far.
use Rattle.std.proofs.Common.{◌≡◌, take}
use Rattle.order_graph.proofs.copying.copy_sidings.Given as goal

abbrev pub invariant-loop-siding : goal.invariant-loop-siding
invariant-loop-siding l = record { copied : l.list.items ≡ take l.siding-index l.sidings }
