use Rattle.std.proofs.Common.{refl, sym}
use Rattle.cf_run.specs.Moving.{MoveDoes}
use Rattle.cf_audit.proofs.Trying.{tried-shown, tried-unshown, tried-still}
use Rattle.cf_audit.proofs.Turning.{tests-none, tests-tried}
use Rattle.cf_audit.proofs.auditing.advance.Goals as goal

pub returns-in_default-clause-tests : goal.returns-in_default-clause-tests
returns-in_default-clause-tests g c =
    tests-none _ _ _ _ c.wrong-in_default.ensures c.rest-left.ensures (sym c.if-not-has_line.ensures) c.in_default.ensures refl

pub unreachable-requires-in-Err-Exit : goal.unreachable-requires-in-Err-Exit
unfolding MoveDoes
unreachable-requires-in-Err-Exit g c = rw c.in-Err-Exit.field-0-is at c.in-Err-Exit.ensures.does

pub unreachable-requires-in-Err-Trap : goal.unreachable-requires-in-Err-Trap
unfolding MoveDoes
unreachable-requires-in-Err-Trap g c = rw c.in-Err-Trap.field-0-is at c.in-Err-Trap.ensures.does

pub unreachable-requires-in-Err-Limit : goal.unreachable-requires-in-Err-Limit
unfolding MoveDoes
unreachable-requires-in-Err-Limit g c = rw c.in-Err-Limit.field-0-is at c.in-Err-Limit.ensures.does

pub returns-in-Ok-clause-tests : goal.returns-in-Ok-clause-tests
returns-in-Ok-clause-tests g c = tests-tried _ _ _ _ _ c.rest-left.ensures c.in-Some.ensures (tried-shown _ _ _ _ _ c.in-Ok.ensures.does c.compared.ensures)

pub returns-in-Ok-clause-input : goal.returns-in-Ok-clause-input
returns-in-Ok-clause-input g c = tried-still _ _ _ _ c.compared.ensures c.in-Ok.ensures.input.still

pub returns-in-Err-ReportFault-clause-tests : goal.returns-in-Err-ReportFault-clause-tests
returns-in-Err-ReportFault-clause-tests g c =
    tests-tried _ _ _ _ _ c.rest-left.ensures c.in-Some.ensures
    (tried-unshown _ _ _ _ _ (rw c.in-Err-ReportFault.field-0-is at c.in-Err-ReportFault.ensures.does)
    (rw c.in-Err-ReportFault.field-0-is at c.in-Err-ReportFault.ensures.report).rose c.compared-in-Err-ReportFault.ensures)

pub returns-in-Err-ReportFault-clause-input : goal.returns-in-Err-ReportFault-clause-input
returns-in-Err-ReportFault-clause-input g c =
    tried-still _ _ _ _ c.compared-in-Err-ReportFault.ensures (rw c.in-Err-ReportFault.field-0-is at c.in-Err-ReportFault.ensures.input).still
