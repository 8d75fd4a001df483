use Rattle.cf_layout.proofs.Acceptance.{acceptable}
use Rattle.cf_layout.proofs.laws.refused_unless_acceptable.Goals as goal

pub returns-clause-acceptable : goal.returns-clause-acceptable
returns-clause-acceptable c = λ parts e. acceptable parts e
