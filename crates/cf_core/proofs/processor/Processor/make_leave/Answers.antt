-- The move leaves the words as they are.
use Rattle.std.proofs.Common.{refl}
use Rattle.cf_bind.specs.declared.moves.Move.TheVariants.{Leave}
use Rattle.cf_core.specs.Marks.{keeps_marks}
use Rattle.cf_core.proofs.Made.{marks-stay}
use Rattle.cf_core.proofs.processor.Processor.make_leave.Goals as goal

pub returns-clause-marks : goal.returns-clause-marks
unfolding keeps_marks
returns-clause-marks c = marks-stay c.args.self.now c.leave.new.self c.args.marks.now Leave c.requires.allowed c.leave.ensures.processor c.requires.marks refl
