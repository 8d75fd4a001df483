-- The bits of the word are the tests of a climb.
use Rattle.std.proofs.Common.{◌+◌}
use Rattle.cf_layout.specs.Words.{has_bit}
use Rattle.cf_index.specs.Words.{full_bit}
use Rattle.cf_index.proofs.WordBits.{climb_tests}
use Rattle.cf_index.proofs.words.climbing.Goals as goal

pub returns : goal.returns
returns c = λ k.
    let m = c.args.masks.now in
    rw (
      c.common.ensures k,
      c.without-clear.ensures k,
      c.without-done.ensures k,
      c.without.ensures k,
      c.without-met.ensures k,
      c.full.ensures k,
      c.above.ensures k,
      c.lowest.ensures k,
    )
    (climb_tests k c.args.stages (has_bit m.passengers k) (full_bit m k) (has_bit m.owes k) (has_bit m.stops k) (has_bit m.passengers (k + 1)) c.requires.some)
