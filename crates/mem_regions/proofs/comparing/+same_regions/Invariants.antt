use Rattle.std.proofs.Common.{length}
use Rattle.mem_regions.proofs.comparing.+same_regions.Given as goal

-- the regions that remain to be compared
abbrev pub decreases-same_regions : goal.decreases-same_regions
decreases-same_regions l = length l.list.now
