use Rattle.std.proofs.Common.{◌-◌, ◌≤◌}
use Rattle.mem_regions.specs.Access.{bounds_of}
use Rattle.mem_regions.specs.Window.{IsWindowOf}
use Rattle.rv_machine.specs.Quick.{RetireAlone}
use Rattle.rv_machine.proofs.machine.Machine.run_alone.Given as goal

abbrev pub invariant-loop-self : goal.invariant-loop-self
invariant-loop-self l = record {
  goes : RetireAlone l.initial.self (l.self.retired - l.initial.self.retired) l.self;
  onward : l.initial.self.retired ≤ l.self.retired;
  within : l.self.retired ≤ l.end;
  window : IsWindowOf (bounds_of l.self.mem) l.window;
}

abbrev pub decreases-loop-self : goal.decreases-loop-self
decreases-loop-self l = l.end - l.self.retired
