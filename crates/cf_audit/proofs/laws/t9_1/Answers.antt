use Rattle.cf_audit.proofs.Unique.{one-count, wrong-for-none}
use Rattle.cf_audit.proofs.laws.t9_1.Goals as goal

pub returns-clause-one_number : goal.returns-clause-one_number
returns-clause-one_number c = one-count

pub returns-clause-wrong_for_none : goal.returns-clause-wrong_for_none
returns-clause-wrong_for_none c = wrong-for-none
