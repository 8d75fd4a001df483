use Rattle.std.proofs.Common.{◌∙◌}
use Rattle.cf_layout.specs.Layout.{computed_classes}
use Rattle.cf_layout.proofs.Words.{class_listed, classes_listed}
use Rattle.cf_layout.proofs.class_set.ClassSet.list.Goals as goal

pub loop-class-preserved : goal.loop-class-preserved
loop-class-preserved c = class_listed c.self.inside.word c.loop-class.class-index _ computed_classes _ _ _ c.loop-class-test.true c.in_ok-add_class.ensures
    c.loop-class.invariant

pub returns : goal.returns
returns c = classes_listed c.self.inside.word c.loop-class.class-index computed_classes _ c.loop-class-test.false c.loop-class.invariant ∙ c.self.view_is
