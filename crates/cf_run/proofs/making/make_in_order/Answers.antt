use Rattle.cf_run.proofs.Moves.{cause-after, goes-after, goes-unpassed}
use Rattle.cf_run.proofs.making.make_in_order.Goals as goal

pub returns-in-Ok-clause-does : goal.returns-in-Ok-clause-does
returns-in-Ok-clause-does g c = goes-after _ _ _ _ _ _ _ _ _ _ _ _ c.in-Ok.ensures.written c.make_and_show.ensures.does

pub returns-in-Ok-clause-report : goal.returns-in-Ok-clause-report
returns-in-Ok-clause-report g c = cause-after _ _ _ _ c.in-Ok.ensures.cause.still c.make_and_show.ensures.report

pub returns-in-Err-clause-does : goal.returns-in-Err-clause-does
returns-in-Err-clause-does g c = goes-unpassed _ _ _ _ _ _ _ c.requires.allowed c.in-Err.ensures.serves c.in-Err.ensures.written
