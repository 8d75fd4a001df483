use Rattle.std.proofs.Common.{◌≡◌, ◌+◌, ◌-◌, ◌++◌}
use Rattle.mem_regions.specs.Bytes.{le_bytes}
use Rattle.mem_changes.specs.Steps.{differences}
use Rattle.mem_changes.proofs.updating.push_differences.Given as goal

-- adding the rest of the differences to this list gives the same as adding all of them to the first one
abbrev pub invariant-loop-i : goal.invariant-loop-i
invariant-loop-i l = l.list.items ++ differences (l.addr + l.i) (le_bytes (l.width - l.i) l.bytes) (le_bytes (l.width - l.i) l.olds)
    ≡ l.fn.list.items ++ differences l.addr (le_bytes l.width l.number) (le_bytes l.width l.loaded)
