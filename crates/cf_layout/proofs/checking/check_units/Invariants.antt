use Rattle.std.proofs.Common.{◌≡◌, [], take, drop}
use Rattle.cf_layout.specs.Refusal.{units_refusal}
use Rattle.cf_layout.proofs.checking.check_units.Given as goal

-- no unit before this one is refused
abbrev pub invariant-loop-index : goal.invariant-loop-index
invariant-loop-index l = units_refusal l.most (take l.index l.units) (drop l.index l.units) ≡ units_refusal l.most [] l.units
