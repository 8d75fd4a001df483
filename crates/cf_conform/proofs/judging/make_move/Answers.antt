use Rattle.std.proofs.Common.{refl}
use Rattle.cf_run.specs.Moving.{MoveDoes}
use Rattle.cf_conform.proofs.Making.{made-logged, failed-logged}
use Rattle.cf_conform.proofs.judging.make_move.Goals as goal

pub unreachable-requires-in-Err-Exit : goal.unreachable-requires-in-Err-Exit
unfolding MoveDoes
unreachable-requires-in-Err-Exit g c = rw c.in-Err-Exit.field-0-is at c.in-Err-Exit.ensures.does

pub unreachable-requires-in-Err-Trap : goal.unreachable-requires-in-Err-Trap
unfolding MoveDoes
unreachable-requires-in-Err-Trap g c = rw c.in-Err-Trap.field-0-is at c.in-Err-Trap.ensures.does

pub unreachable-requires-in-Err-Limit : goal.unreachable-requires-in-Err-Limit
unfolding MoveDoes
unreachable-requires-in-Err-Limit g c = rw c.in-Err-Limit.field-0-is at c.in-Err-Limit.ensures.does

pub returns-in-Ok-clause-tries : goal.returns-in-Ok-clause-tries
returns-in-Ok-clause-tries g c = made-logged _ _ _ _ _ _ _ _ _ _ c.in-Ok.ensures.does c.retired.ensures c.note.ensures

pub returns-in-Err-WriteFault-clause-tries : goal.returns-in-Err-WriteFault-clause-tries
returns-in-Err-WriteFault-clause-tries g c = failed-logged _ _ _ _ _ _ _ _ (rw c.in-Err-WriteFault.field-0-is at c.in-Err-WriteFault.ensures.does) refl
