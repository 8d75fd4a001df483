use Rattle.std.proofs.Common.{arith, sym, ◌∙◌}
use Rattle.std.proofs.lemmas.Bool.Decides.{nat_tests}
use Rattle.cf_audit.proofs.Comparing.{taken, refused, compared-more}
use Rattle.cf_audit.proofs.compared.ComparedSink.put.Goals as goal

pub returns-then-is_some-clause-bytes : goal.returns-then-is_some-clause-bytes
returns-then-is_some-clause-bytes c = refused _ _ _ _ _ _ _ _ c.self.view_is (grind (arith, nat_tests))

pub invariant_of-self-2 : goal.invariant_of-self-2
invariant_of-self-2 c =
    compared-more _ _ _ _ _ _ _ _ _ c.self.view_is c.self.invariant (sym c.is_some.ensures
    ∙ c.if-is_some.false) c.rest.ensures c.common-same.ensures.within_one c.common-same.ensures.apart c.byte_at-self-inside.ensures

pub returns-clause-bytes : goal.returns-clause-bytes
returns-clause-bytes c =
    taken _ _ _ _ _ _ _ _ _ _ c.self.view_is (sym c.is_some.ensures ∙ c.if-is_some.false) c.rest.ensures
    (grind (arith, nat_tests)) c.common-same.ensures.within_other c.common-same.ensures.same c.byte_at-self-inside.ensures c.min.ensures
