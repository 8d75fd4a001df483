use Rattle.cli_conform.proofs.Conformed.{log-closed, log-files, log-input, log-output}
use Rattle.cli_conform.proofs.command.conform_opened.Goals as goal

pub returns : goal.returns
returns g c = record {
  reports = log-closed _ _ _ _ _ _ _ _ _ c.conform-answer.result c.close_log.result c.new-progress.ensures c.conform-answer.ensures.judges
      c.close_log.ensures;
  faults = record {
    files = log-files _ _ c.conform-answer.result _ c.close_log.ensures.status_is;
    input = log-input _ _ c.conform-answer.result _ _ _ c.close_log.ensures.status_is c.conform-answer.ensures.log;
    output = log-output _ _ c.conform-answer.result _ _ _ _ _ _ _ c.close_log.ensures.status_is c.conform-answer.ensures.judges
        c.conform-answer.ensures.output;
  };
}
