use Rattle.std.proofs.Common.{◌≡◌, ◌++◌, take}
use Rattle.mem_changes.specs.Steps.{below}
use Rattle.mem_changes.proofs.updating.push_below.Given as goal

-- those of the changes so far
abbrev pub invariant-loop-change : goal.invariant-loop-change
invariant-loop-change l = l.list.items ≡ l.fn.list.items ++ below l.addr (take l.change-index l.changes)
