use Rattle.std.proofs.Common.{◌≡◌, length, map, take}
use Rattle.cf_semantics.specs.moves.Candidates.{counted_from}
use Rattle.cf_timed.specs.Numbers.{number_at}
use Rattle.run_ledger.specs.Using.{uses_stage}
use Rattle.run_ledger.specs.Ledgers.{plus_if}
use Rattle.run_ledger.proofs.charging.charge_stages.Given as goal

-- the stages so far are charged
abbrev pub invariant-loop-i : goal.invariant-loop-i
invariant-loop-i l = record {
  charged : take l.i l.charged ≡ map (λ i. plus_if (uses_stage l.layout i l.mv) (number_at l.busy i) l.ticks) (counted_from 0 l.i);
  size : length l.charged ≡ 33;
}
