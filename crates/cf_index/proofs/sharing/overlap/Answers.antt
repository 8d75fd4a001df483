use Rattle.cf_index.proofs.SiteWords.{common_bit}
use Rattle.cf_index.proofs.sharing.overlap.Goals as goal

pub returns : goal.returns
returns c = common_bit c.args.word c.args.other c.ranges.word.fits c.ranges.other.fits
