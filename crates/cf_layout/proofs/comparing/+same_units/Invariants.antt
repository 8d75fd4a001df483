use Rattle.std.proofs.Common.{length}
use Rattle.cf_layout.proofs.comparing.+same_units.Given as goal

-- the units that are left to compare
abbrev pub decreases-same_units : goal.decreases-same_units
decreases-same_units l = length l.units.now
