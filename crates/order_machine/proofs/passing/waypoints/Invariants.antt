use Rattle.std.proofs.Common.{◌≡◌, ◌+◌, ◌≤◌, length}
use Rattle.mem_changes.specs.Differing.{AreChangesOf}
use Rattle.order_machine.specs.Waypoints.{AreWaypoints, IsAfter, machine_of}
use Rattle.order_machine.proofs.passing.waypoints.Given as goal

-- the places so far, and the machine after the same number of steps
abbrev pub invariant-loop-step : goal.invariant-loop-step
invariant-loop-step l = record {
  places : AreWaypoints l.isa l.image (machine_of l.fn.machine) 0 l.places.items;
  long : length l.places.items ≡ l._step;
  after : IsAfter l.isa (machine_of l.fn.machine) l._step l.machine;
  changes : AreChangesOf l.image l.machine.mem l.changes;
  count : l.machine.retired ≤ l.fn.machine.retired + l._step;
}
