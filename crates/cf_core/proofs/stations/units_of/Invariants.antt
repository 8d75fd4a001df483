-- The word of the stages so far.
use Rattle.std.proofs.Common.{◌≡◌}
use Rattle.cf_layout.specs.Layout.{unit_at}
use Rattle.cf_stages.specs.Words.{word_of}
use Rattle.cf_core.proofs.stations.units_of.Given as goal

abbrev pub invariant-loop-below : goal.invariant-loop-below
invariant-loop-below l = l.units ≡ word_of (unit_at l.layout l.class) l.below
