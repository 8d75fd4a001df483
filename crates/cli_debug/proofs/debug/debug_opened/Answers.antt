use Rattle.cli_debug.proofs.Debugging.{session-closed}
use Rattle.cli_debug.proofs.Faults.{session-files, session-input, session-output}
use Rattle.cli_debug.proofs.debug.debug_opened.Goals as goal

pub returns : goal.returns
returns g c = record {
  comes = session-closed _ _ _ _ _ _ _ _ _ c.debug-ended.result c.close_session.result c.requires.ring c.debug-ended.ensures.session
      c.debug-ended.ensures.on_run c.debug-ended.ensures.report c.close_session.ensures;
  faults = record {
    files = session-files c.debug-ended.result _ _ c.close_session.result c.close_session.ensures;
    input = session-input c.debug-ended.result _ _ c.close_session.result _ _ c.close_session.ensures c.debug-ended.ensures.commands;
    output = session-output c.debug-ended.result _ _ c.close_session.result _ _ c.close_session.ensures c.debug-ended.ensures.output;
  };
}
