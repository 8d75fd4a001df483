use Rattle.std.proofs.Common.{◌≡◌, length, map, take}
use Rattle.rand_pcg.specs.Lcg.{increment_of, started}
use Rattle.rand_pcg.specs.Pcg.{multiplier_64}
use Rattle.cf_semantics.specs.moves.Candidates.{counted_from}
use Rattle.cf_timed.specs.Drawing.{stream_count}
use Rattle.cf_timed.proofs.draws.first_states.Given as goal

-- those so far are filled in
abbrev pub invariant-loop-stream : goal.invariant-loop-stream
invariant-loop-stream l = record {
  filled : take l.stream l.states ≡ map (λ stream. (started 64 multiplier_64 l.seed (increment_of 64 stream)).state) (counted_from 0 l.stream);
  count : length l.states ≡ stream_count;
}
