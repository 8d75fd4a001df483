use Rattle.run_ledger.proofs.Noted.{runs-noted}
use Rattle.run_ledger.proofs.run.run_noted.Goals as goal

pub returns-clause-run : goal.returns-clause-run
returns-clause-run g c =
    runs-noted _ _ _ _ _ _ _ _ _ _ _ _ _ _ c.known.ensures.accepted c.known.ensures.registers c.requires.begins.can_run c.known-2.ensures c.requires.ledger
    c.in-Ok.ensures.run
