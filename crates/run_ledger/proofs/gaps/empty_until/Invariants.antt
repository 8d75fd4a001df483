use Rattle.std.proofs.Common.{◌≡◌, length, map, take}
use Rattle.cf_semantics.specs.moves.Candidates.{counted_from}
use Rattle.run_ledger.specs.GapCounts.{gaps_at, with_gap}
use Rattle.run_ledger.proofs.gaps.empty_until.Given as goal

-- the times of the stages so far
abbrev pub invariant-loop-i : goal.invariant-loop-i
invariant-loop-i l = record {
  empty : take l.i l.empty ≡ map (λ i. (with_gap (gaps_at l.gaps i) l.end).empty) (counted_from 0 l.i);
  size : length l.empty ≡ 33;
}
