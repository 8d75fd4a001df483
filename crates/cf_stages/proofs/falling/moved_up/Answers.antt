-- The bits of the word after one goes up.
use Rattle.cf_stages.proofs.InTurn.{moved-bits}
use Rattle.cf_stages.proofs.falling.moved_up.Goals as goal

pub returns : goal.returns
returns c = λ k. moved-bits c.args.word c.args.other c.args.i k c.requires.above c.requires.within c.ranges.word.fits c.ranges.other.fits
