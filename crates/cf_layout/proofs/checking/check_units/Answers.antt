-- A unit that is not refused is skipped.
use Rattle.std.proofs.Common.{◌∙◌}
use Rattle.cf_layout.proofs.Passing.{none_told}
use Rattle.cf_layout.proofs.Steps.{units_on}
use Rattle.cf_layout.proofs.checking.check_units.Goals as goal

pub loop-index-preserved : goal.loop-index-preserved
loop-index-preserved c = units_on c.args.most c.args.units.now c.loop-index.index c.index-units-index.result c.loop-index-test.true c.index-units-index.is
    (none_told _ _ _ c.check_unit.ensures c.in_ok-check_unit.was) ∙ c.loop-index.invariant
