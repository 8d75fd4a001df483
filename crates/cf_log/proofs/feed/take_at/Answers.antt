use Rattle.cf_log.proofs.Holding.{taken-at}
use Rattle.cf_log.proofs.feed.take_at.Goals as goal

pub returns-clause-taken : goal.returns-clause-taken
returns-clause-taken g c = taken-at _ _ _ _ _ _ _ c.told-held c.requires c.take.auto.into c.take.ensures.bytes
