use Rattle.std.proofs.Common.{◌∙◌, ap, refl, Some}
use Rattle.cf_audit.specs.Turns.{input_tested}
use Rattle.cf_audit.proofs.Finding.{agrees-with-all}
use Rattle.cf_audit.proofs.Sequential.{agrees-sequentially}
use Rattle.cf_audit.proofs.Turning.{audited-text, stopped-tested}
use Rattle.cf_audit.proofs.auditing.audit.Goals as goal

pub audit_groups-stop-requires-clause-fresh : goal.audit_groups-stop-requires-clause-fresh
audit_groups-stop-requires-clause-fresh g c = rw c.with-report.ensures refl

pub returns-clause-audits : goal.returns-clause-audits
returns-clause-audits g c = audited-text _ _ _ _ _ _ _ _ c.with-report.ensures c.audit_groups-stop.ensures.audits c.outcome_of.ensures

pub returns-clause-agrees : goal.returns-clause-agrees
returns-clause-agrees g c = agrees-with-all _ _ _ _ _ _ (returns-clause-audits g c)

pub returns-clause-sequential : goal.returns-clause-sequential
returns-clause-sequential g c = agrees-sequentially _ _ _ _ _ _ c.known.ensures.accepted c.known.ensures.registers (returns-clause-audits g c)

pub returns-clause-input : goal.returns-clause-input
returns-clause-input g c =
    rw (ap (λ a. input_tested (Some a)) c.outcome_of.ensures ∙ stopped-tested _ c.audit_groups-stop.result) c.audit_groups-stop.ensures.input
