use Rattle.std.proofs.Common.{arith}
use Rattle.cf_layout.proofs.class_set.with_class.Goals as goal

pub returns-then-place-lt9-clause-small : goal.returns-then-place-lt9-clause-small
returns-then-place-lt9-clause-small c = λ small. c.with_bit.ensures.small 9 (omega arith) small
