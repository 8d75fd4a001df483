use Rattle.std.proofs.Common.{◌≡◌, drop}
use Rattle.mem_changes.specs.Steps.{all_restored}
use Rattle.mem_changes.proofs.making.restore_all.Given as goal

-- restoring the rest in this memory gives the same as restoring everything in the first one
abbrev pub invariant-loop-change : goal.invariant-loop-change
invariant-loop-change l = all_restored l.image (drop l.change-index l.changes) l.mem ≡ all_restored l.image l.changes l.fn.mem
