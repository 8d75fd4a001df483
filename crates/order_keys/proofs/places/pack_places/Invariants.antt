use Rattle.std.proofs.Common.{◌≡◌, ◌≤◌, ◌++◌, drop}
use Rattle.order_keys.specs.Places.{packed_places, packed_runs}
use Rattle.order_keys.proofs.places.pack_places.Given as goal

-- with the remaining places they are all
abbrev pub invariant-loop-place : goal.invariant-loop-place
invariant-loop-place l = record {
  whole : l.key.items ++ packed_runs l.empty (drop l.place-index l.places) ≡ l.fn.key.items ++ packed_places l.places;
  few : l.empty ≤ l.place-index;
}
