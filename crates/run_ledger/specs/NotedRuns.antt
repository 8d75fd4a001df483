-- A timed run with a ledger.
use Rattle.std.specs.Prelude.{◌≡◌, ℕ}
use Rattle.run_options.specs.declared.guess_rule.GuessRule.{GuessRule}
use Rattle.rv_machine.specs.Streams.{Streams}
use Rattle.cf_core.specs.Processors.{Processor}
use Rattle.cf_run.specs.Moving.{RunPlace}
use Rattle.cf_timed.specs.declared.answer.Timed.{Timed}
use Rattle.cf_timed.specs.Clocks.{SiteTimes}
use Rattle.cf_timed.specs.DelayedRuns.{DelayRule}
use Rattle.cf_timed.specs.TimedRuns.{RunsTimed}
use Rattle.run_ledger.specs.Breakdowns.{breakdown}
use Rattle.run_ledger.specs.RunLedgers.{breakdown_in}
use Rattle.run_ledger.specs.SeenMoves.{seen_in}
use Rattle.run_ledger.specs.declared.run_ledger.RunLedger.{RunLedger}

-- it is a timed run, and the ledger knows what the time of its moves consists of
pub record RunsNoted (r : GuessRule) (rule : DelayRule) (limit : ℕ) (begin : RunPlace) (core : Processor) (streams : Streams)
    (clock : SiteTimes) (ledger : RunLedger) (moves : ℕ) (answer : Timed) : Type 0 where
  pub timed : RunsTimed r rule limit begin core streams clock moves answer
  pub tells : breakdown_in ledger ≡ breakdown begin.core.plan (seen_in begin.core.plan rule begin.core.state timed.right.runs.reaches.trace)
