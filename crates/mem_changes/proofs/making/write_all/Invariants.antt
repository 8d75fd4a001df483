use Rattle.std.proofs.Common.{◌≡◌, drop}
use Rattle.mem_changes.specs.Steps.{all_written}
use Rattle.mem_changes.proofs.making.write_all.Given as goal

-- writing the rest in this memory gives the same as writing all changes in the first one
abbrev pub invariant-loop-change : goal.invariant-loop-change
invariant-loop-change l = all_written (drop l.change-index l.changes) l.mem ≡ all_written l.changes l.fn.mem
