use Rattle.std.proofs.Common.{◌≡◌, ◌≤◌, ◌++◌, drop, map}
use Rattle.order_keys.specs.Places.{register_place, packed_registers, packed_runs}
use Rattle.order_keys.proofs.places.pack_registers.Given as goal

-- with the remaining registers they are all
abbrev pub invariant-loop-value : goal.invariant-loop-value
invariant-loop-value l = record {
  whole : l.key.items ++ packed_runs l.empty (map register_place (drop l.value-index l.regs)) ≡ l.fn.key.items ++ packed_registers l.regs;
  few : l.empty ≤ l.value-index;
}
