use Rattle.std.proofs.Common.{arith}
use Rattle.cf_index.proofs.Places.{counts_all_below}
use Rattle.cf_index.proofs.bits.count_below.Goals as goal

pub returns-else-k-lt64-clause-numbers : goal.returns-else-k-lt64-clause-numbers
returns-else-k-lt64-clause-numbers c = counts_all_below c.args.word c.args.k (omega arith) c.if-k-lt64.false
