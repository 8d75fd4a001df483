-- The move leaves the words as they are.
use Rattle.std.proofs.Common.{refl}
use Rattle.cf_bind.specs.declared.moves.Move.TheVariants.{Exit}
use Rattle.cf_core.specs.Marks.{keeps_marks}
use Rattle.cf_core.proofs.Made.{marks-stay}
use Rattle.cf_core.proofs.processor.Processor.make_exit.Goals as goal

pub returns-clause-marks : goal.returns-clause-marks
unfolding keeps_marks
returns-clause-marks c = marks-stay c.args.self.now c.exit.new.self c.args.marks.now Exit c.requires.allowed c.exit.ensures c.requires.marks refl
