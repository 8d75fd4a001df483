-- The bits of the word are the tests of a fall.
use Rattle.std.proofs.Common.{◌-◌, ◌∙◌, sym, arith}
use Rattle.cf_layout.specs.Words.{has_bit}
use Rattle.cf_index.specs.Words.{full_bit}
use Rattle.cf_index.proofs.WordBits.{fall_tests, no_high}
use Rattle.cf_index.proofs.words.falling.Goals as goal

pub returns : goal.returns
returns c = λ k.
    let m = c.args.masks.now in
    rw (c.without.ensures k, c.without-clear.ensures k, c.resting.ensures k, c.below.ensures k, c.lowest.ensures k)
    (fall_tests k (has_bit m.packets k) (full_bit m k) (has_bit m.packets (k - 1)) (λ high. sym (c.resting.ensures k)
    ∙ no_high c.resting.result k (omega arith) high))
