-- The law is a theorem.
use Rattle.theory_confluence.proofs.Laws.{kept_is_true}
use Rattle.cf_core.proofs.laws.t5_7.Goals as goal

pub returns : goal.returns
returns c = kept_is_true
