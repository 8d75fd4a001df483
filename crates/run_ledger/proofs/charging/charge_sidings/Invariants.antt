use Rattle.std.proofs.Common.{◌≡◌, length, map, take}
use Rattle.cf_semantics.specs.moves.Candidates.{counted_from}
use Rattle.cf_timed.specs.Numbers.{number_at}
use Rattle.run_ledger.specs.Using.{uses_siding}
use Rattle.run_ledger.specs.Ledgers.{plus_if}
use Rattle.run_ledger.proofs.charging.charge_sidings.Given as goal

-- the sidings so far are charged
abbrev pub invariant-loop-k : goal.invariant-loop-k
invariant-loop-k l = record {
  charged : take l.k l.charged ≡ map (λ k. plus_if (uses_siding l.layout k l.mv) (number_at l.busy k) l.ticks) (counted_from 0 l.k);
  size : length l.charged ≡ 8;
}
