use Rattle.cf_layout.proofs.Telling.{refused_cause, refused_unacceptable, accepted_acceptable}
use Rattle.cf_layout.proofs.checking.check.Goals as goal

pub returns-clause-acceptable : goal.returns-clause-acceptable
returns-clause-acceptable c = accepted_acceptable c.args.parts.now c.lay_out.result c.lay_out.ensures.not_refused

pub returns-clause-unacceptable : goal.returns-clause-unacceptable
returns-clause-unacceptable c = refused_unacceptable c.args.parts.now c.lay_out.result c.lay_out.ensures.refused

pub returns-clause-cause : goal.returns-clause-cause
returns-clause-cause c = refused_cause c.args.parts.now c.lay_out.result c.lay_out.ensures.refused
