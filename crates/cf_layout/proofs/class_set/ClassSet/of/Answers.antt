use Rattle.cf_layout.proofs.Words.{classes_by}
use Rattle.cf_layout.proofs.class_set.ClassSet.of.Goals as goal

pub returns : goal.returns
returns c = classes_by c.loop-class.word c.loop-class.class-index c.args.classes.now c.loop-class-test.false c.loop-class.invariant.bits
