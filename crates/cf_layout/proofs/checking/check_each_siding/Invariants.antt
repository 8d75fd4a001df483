use Rattle.std.proofs.Common.{◌≡◌, [], take, drop}
use Rattle.cf_layout.specs.Refusal.{sidings_refusal}
use Rattle.cf_layout.proofs.checking.check_each_siding.Given as goal

-- no siding before this one is refused
abbrev pub invariant-loop-index : goal.invariant-loop-index
invariant-loop-index l = sidings_refusal l.most l.units (take l.index l.sidings) (drop l.index l.sidings) ≡ sidings_refusal l.most l.units [] l.sidings
