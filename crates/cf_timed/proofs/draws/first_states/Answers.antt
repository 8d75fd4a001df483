use Rattle.std.proofs.Common.{◌≡◌, ◌∙◌, sym, ap, map, take, arith}
use Rattle.std.proofs.lemmas.List.{take_all}
use Rattle.rand_pcg.specs.Lcg.{Lcg, increment_of, started}
use Rattle.rand_pcg.specs.Pcg.{multiplier_64}
use Rattle.cf_semantics.specs.moves.Candidates.{counted_from}
use Rattle.cf_timed.specs.Drawing.{started_from, stream_count}
use Rattle.cf_timed.proofs.Numbered.{filled_next, set_length}
use Rattle.cf_timed.proofs.draws.first_states.Goals as goal

pub loop-stream-preserved : goal.loop-stream-preserved
loop-stream-preserved c =
    let size = c.loop-stream.invariant.count in
    record {
      filled = filled_next (λ stream. (started 64 multiplier_64 c.args.seed (increment_of 64 stream)).state) c.loop-stream.states c.loop-stream.stream
          c.state.result c.loop-stream.invariant.filled (omega (arith, size, c.loop-stream-test.true))
          (c.state.ensures ∙ ap (λ (g : Lcg). g.state) c.new.ensures);
      count = set_length c.loop-stream.states c.loop-stream.stream c.state.result ∙ size;
    }

pub returns : goal.returns
unfolding started_from
returns c =
    let size = c.loop-stream.invariant.count in
    let all : c.loop-stream.stream ≡ stream_count = omega arith in
    let same : take stream_count c.loop-stream.states ≡ map (λ stream. (started 64 multiplier_64 c.args.seed (increment_of 64 stream)).state)
    (counted_from 0 stream_count) = rw all at c.loop-stream.invariant.filled in
    sym (take_all stream_count c.loop-stream.states (omega (arith, size))) ∙ same
