use Rattle.order_search.proofs.Sweeping.{not_swept, one_swept}
use Rattle.order_search.proofs.orders.settle_last.Goals as goal

pub returns-in_default-clause-swept : goal.returns-in_default-clause-swept
returns-in_default-clause-swept c = not_swept c.args.rows.now c.args.counts.now

pub returns-in_err-push-2-clause-swept : goal.returns-in_err-push-2-clause-swept
returns-in_err-push-2-clause-swept c = not_swept c.args.rows.now c.args.counts.now

pub returns-in-Some-first_open-clause-swept : goal.returns-in-Some-first_open-clause-swept
returns-in-Some-first_open-clause-swept c = not_swept c.args.rows.now c.args.counts.now

pub returns-clause-swept : goal.returns-clause-swept
returns-clause-swept c = one_swept c.args.rows.now c.args.counts.now c.settle.new.counts _ c.settle.result c.settle.ensures
