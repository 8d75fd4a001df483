-- The bits of the word are those of the two words, stage by stage.
use Rattle.std.proofs.Common.{◌-◌}
use Rattle.cf_index.proofs.LowestNext.{next_tests}
use Rattle.cf_index.proofs.words.with_next.Goals as goal

pub returns : goal.returns
returns c = λ i k lowest.
    rw (
      c.either.ensures k,
      c.common.ensures k,
      c.below.ensures k,
      c.without.ensures (k - 1),
      c.without_lowest-rest.ensures i k lowest,
      c.without_lowest-rest.ensures i (k - 1) lowest,
    )
    (next_tests c.args.word c.args.other i k c.ranges.other.fits lowest)
