use Rattle.cf_timed.proofs.Shown.{goes-shown}
use Rattle.cf_timed.proofs.run.run_shown.Goals as goal

pub returns-clause-run : goal.returns-clause-run
returns-clause-run g c =
    goes-shown _ _ _ _ _ _ _ _ _ _ _ _ c.run_watched.result c.known.ensures.accepted c.known.ensures.registers c.requires.begins.can_run
    c.new.ensures c.run_watched.ensures.run
