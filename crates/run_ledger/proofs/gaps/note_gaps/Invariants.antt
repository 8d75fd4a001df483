use Rattle.std.proofs.Common.{◌≡◌, length, map, take}
use Rattle.cf_semantics.specs.moves.Candidates.{counted_from}
use Rattle.run_ledger.specs.GapCounts.{gaps_after, gaps_at}
use Rattle.run_ledger.proofs.gaps.note_gaps.Given as goal

-- the gaps of the stages so far are noted
abbrev pub invariant-loop-i : goal.invariant-loop-i
invariant-loop-i l = record {
  noted : take l.i l.noted ≡ map (λ i. gaps_after l.layout l.done l.core.state i (gaps_at l.gaps i)) (counted_from 0 l.i);
  size : length l.noted ≡ 33;
}
