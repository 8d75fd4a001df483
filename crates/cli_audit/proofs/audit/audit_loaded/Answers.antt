use Rattle.std.proofs.Common.{◌∙◌, ap}
use Rattle.cf_run.proofs.Opened.{newly-opened}
use Rattle.cli_files.specs.Causes.{files_answered, input_answered, output_answered}
use Rattle.cli_files.proofs.NoStreams.{no-cause}
use Rattle.cli_audit.proofs.Audited.{comes, comes-no-memory, files-left, input-stopped, output-left}
use Rattle.cli_audit.proofs.audit.audit_loaded.Goals as goal

pub audit-requires-clause-opened : goal.audit-requires-clause-opened
audit-requires-clause-opened g c = newly-opened _ _ _ c.in-Ok.ensures

pub returns-in-Ok : goal.returns-in-Ok
returns-in-Ok g c = record {
  comes = comes c.in-Ok.core c.audit.new.core _ _ _ _ _ c.audit.result _ _ c.in-Ok.ensures
      c.audit.ensures.audits c.audit.ensures.agrees c.audit.ensures.sequential c.answer_of.ensures.status c.answer_of.ensures.closing;
  files = ap files_answered c.answer_of.ensures.status ∙ files-left c.audit.result;
  input = rw (ap input_answered c.answer_of.ensures.status ∙ input-stopped c.audit.result) c.audit.ensures.input;
  output = ap output_answered c.answer_of.ensures.status ∙ output-left c.audit.result;
}

pub returns-in-Err : goal.returns-in-Err
returns-in-Err g c = record {
  comes = comes-no-memory _ _ _ _ _ _ c.no_memory.ensures.status c.no_memory.ensures.closing;
  files = ap files_answered c.no_memory.ensures.status;
  input = no-cause _ _ (ap input_answered c.no_memory.ensures.status);
  output = ap output_answered c.no_memory.ensures.status;
}
