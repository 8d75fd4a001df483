-- A siding that is not refused is skipped.
use Rattle.std.proofs.Common.{◌∙◌}
use Rattle.cf_layout.proofs.Passing.{none_told}
use Rattle.cf_layout.proofs.Steps.{sidings_on}
use Rattle.cf_layout.proofs.checking.check_each_siding.Goals as goal

pub loop-index-preserved : goal.loop-index-preserved
loop-index-preserved c = sidings_on c.args.most c.args.units.now c.args.sidings.now c.loop-index.index c.index-sidings-index.result c.loop-index-test.true
    c.index-sidings-index.is (none_told _ _ _ c.check_siding.ensures c.in_ok-check_siding.was) ∙ c.loop-index.invariant
