use Rattle.std.proofs.Common.{arith}
use Rattle.std.proofs.lemmas.Grind.{common_steps}
use Rattle.rv_text.proofs.Numerals.{numeral-read}
use Rattle.cf_log.proofs.Times.{next_fits}
use Rattle.cf_log.proofs.time.digits_of.Goals as goal

pub overflow_mul-value : goal.overflow_mul-value
overflow_mul-value c =
    grind (arith, common_steps, next_fits c.loop-byte.byte-index c.args.digits.now)

pub overflow_add-value : goal.overflow_add-value
overflow_add-value c =
    grind (arith, common_steps, next_fits c.loop-byte.byte-index c.args.digits.now)

pub returns : goal.returns
returns c =
    numeral-read 10 18 _ c.loop-byte.byte-index c.args.digits.now
    (search arith) (omega arith) (omega arith) c.loop-byte.invariant.digits c.loop-byte.invariant.value
