use Rattle.std.proofs.Common.{sym, ◌∙◌}
use Rattle.std.specs.Prelude.{◌||◌}
use Rattle.cf_layout.specs.Asked.{is_unit, is_sided}
use Rattle.cf_layout.proofs.Steps.{repeated_on}
use Rattle.cf_layout.proofs.checking.first_repeated.Goals as goal

pub loop-index-preserved : goal.loop-index-preserved
loop-index-preserved c = repeated_on (λ k. is_unit c.args.units.now k || is_sided c.args.before.now k) c.args.classes.now c.loop-index.index _
    c.loop-index-test.true (sym c.stands_before.ensures ∙ c.if-stands_before.false) ∙ c.loop-index.invariant
