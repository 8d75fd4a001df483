use Rattle.std.proofs.Common.{length}
use Rattle.mem_changes.proofs.changes.+same_lists.Given as goal

-- the list is shorter in each call
abbrev pub decreases-same_lists : goal.decreases-same_lists
decreases-same_lists l = length l.list.now
