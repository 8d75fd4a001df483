use Rattle.std.proofs.Common.{◌≡◌, ◌++◌, take}
use Rattle.mem_changes.specs.Steps.{from}
use Rattle.mem_changes.proofs.updating.push_from.Given as goal

-- those of the changes so far
abbrev pub invariant-loop-change : goal.invariant-loop-change
invariant-loop-change l = l.list.items ≡ l.fn.list.items ++ from l.addr (take l.change-index l.changes)
