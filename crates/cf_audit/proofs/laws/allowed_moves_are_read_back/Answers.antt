use Rattle.cf_audit.proofs.SmallNumbers.{numbers-small, allowed-read-back}
use Rattle.cf_audit.proofs.laws.allowed_moves_are_read_back.Goals as goal

pub returns-clause-small : goal.returns-clause-small
returns-clause-small c = numbers-small

pub returns-clause-read_back : goal.returns-clause-read_back
returns-clause-read_back c = allowed-read-back
