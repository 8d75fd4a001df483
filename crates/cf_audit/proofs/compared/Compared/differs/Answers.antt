use Rattle.std.proofs.Common.{sym, ◌∙◌}
use Rattle.cf_audit.proofs.Comparing.{has-other}
use Rattle.cf_audit.proofs.compared.Compared.differs.Goals as goal

pub returns-clause-yes : goal.returns-clause-yes
returns-clause-yes c = λ yes. has-other _ _ _ _ _ c.self.view_is c.self.invariant (sym c.is_some.ensures ∙ yes)
