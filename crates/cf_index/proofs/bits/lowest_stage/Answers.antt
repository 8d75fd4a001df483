use Rattle.std.proofs.Common.{◌∙◌, sym}
use Rattle.cf_index.proofs.LowestBits.{lowest_so}
use Rattle.cf_index.proofs.bits.lowest_stage.Goals as goal

pub returns-in-Some-clause-lowest : goal.returns-in-Some-clause-lowest
returns-in-Some-clause-lowest c = lowest_so c.args.word c.in-Some.k c.ranges.word.fits (sym c.in-Some.is ∙ c.lowest.ensures.number)
