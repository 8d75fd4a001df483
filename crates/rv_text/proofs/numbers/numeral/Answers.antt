use Rattle.std.proofs.Common.{arith}
use Rattle.std.proofs.lemmas.Grind.{common_steps}
use Rattle.rv_text.proofs.Numerals.{next_small, numeral-read, digits_value_small, digits_value_below}
use Rattle.rv_text.proofs.numbers.numeral.Goals as goal

pub overflow_mul-value : goal.overflow_mul-value
overflow_mul-value c =
    grind (arith, common_steps, next_small c.args.base c.args.most c.loop-byte.byte-index c.args.digits.now)

pub overflow_add-value : goal.overflow_add-value
overflow_add-value c =
    grind (arith, common_steps, next_small c.args.base c.args.most c.loop-byte.byte-index c.args.digits.now)

pub returns-clause-value : goal.returns-clause-value
returns-clause-value c =
    numeral-read c.args.base c.args.most _ c.loop-byte.byte-index c.args.digits.now
    (search arith) (omega arith) (omega arith) c.loop-byte.invariant.digits c.loop-byte.invariant.value

pub returns-clause-small : goal.returns-clause-small
returns-clause-small c =
    grind (arith, common_steps, digits_value_small)

pub returns-clause-below : goal.returns-clause-below
returns-clause-below c =
    grind (arith, common_steps, digits_value_below)
