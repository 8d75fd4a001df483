use Rattle.cli_conform.proofs.Conformed.{log-comes}
use Rattle.cli_conform.proofs.command.conform_loaded.Goals as goal

pub returns-in-Ok : goal.returns-in-Ok
returns-in-Ok g c = record {
  reports = log-comes _ _ _ _ _ _ _ _ _ c.conform_opened.result c.in-Ok.ensures c.conform_opened.ensures.reports;
  faults = c.conform_opened.ensures.faults;
}
