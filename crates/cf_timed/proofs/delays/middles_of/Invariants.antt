use Rattle.std.proofs.Common.{◌≡◌, length, map, take}
use Rattle.cf_semantics.specs.moves.Candidates.{counted_from}
use Rattle.cf_timed.specs.Delays.{span_count}
use Rattle.cf_timed.proofs.Middles.{middle_of}
use Rattle.cf_timed.proofs.delays.middles_of.Given as goal

-- those so far are filled in
abbrev pub invariant-loop-slot : goal.invariant-loop-slot
invariant-loop-slot l = record {
  filled : take l.slot l.middles ≡ map (middle_of l.spans) (counted_from 0 l.slot);
  count : length l.middles ≡ span_count;
}
