-- Two bit words of 0 say that the stages are empty.
use Rattle.cf_stages.proofs.Empty.{empty-else, empty-then}
use Rattle.cf_stages.proofs.stages.Stages.is_empty.Goals as goal

pub returns-then-self-eq0 : goal.returns-then-self-eq0
returns-then-self-eq0 c = empty-then _ _ _ _ _ _ c.self.invariant c.self.view_is c.if-self-eq0.true

pub returns-else-self-eq0 : goal.returns-else-self-eq0
returns-else-self-eq0 c = empty-else _ _ _ _ _ _ c.self.invariant c.self.view_is c.if-self-eq0.false
