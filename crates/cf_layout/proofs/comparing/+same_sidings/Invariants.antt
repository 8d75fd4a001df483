use Rattle.std.proofs.Common.{length}
use Rattle.cf_layout.proofs.comparing.+same_sidings.Given as goal

-- the sidings that are left to compare
abbrev pub decreases-same_sidings : goal.decreases-same_sidings
decreases-same_sidings l = length l.sidings.now
