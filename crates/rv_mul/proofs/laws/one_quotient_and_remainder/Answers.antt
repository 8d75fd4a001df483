-- Division has one answer.
use Rattle.rv_mul.proofs.Division.{one_quotient, one_remainder}
use Rattle.rv_mul.proofs.laws.one_quotient_and_remainder.Goals as goal

pub returns-clause-quotient : goal.returns-clause-quotient
returns-clause-quotient c = one_quotient

pub returns-clause-remainder : goal.returns-clause-remainder
returns-clause-remainder c = one_remainder
