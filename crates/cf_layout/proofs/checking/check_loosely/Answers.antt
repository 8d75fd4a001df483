use Rattle.cf_layout.proofs.Telling.{loosely_refused_cause, refused_unequipped, laid_equipped}
use Rattle.cf_layout.proofs.checking.check_loosely.Goals as goal

pub returns-clause-equipped : goal.returns-clause-equipped
returns-clause-equipped c = laid_equipped c.args.parts.now c.lay_loosely.result c.lay_loosely.ensures.not_refused

pub returns-clause-unequipped : goal.returns-clause-unequipped
returns-clause-unequipped c = refused_unequipped c.args.parts.now c.lay_loosely.result c.lay_loosely.ensures.refused

pub returns-clause-cause : goal.returns-clause-cause
returns-clause-cause c = loosely_refused_cause c.args.parts.now c.lay_loosely.result c.lay_loosely.ensures.refused
