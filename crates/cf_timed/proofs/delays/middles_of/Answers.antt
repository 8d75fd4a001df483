use Rattle.std.proofs.Common.{◌≡◌, ◌∙◌, map, take, arith}
use Rattle.cf_semantics.specs.moves.Candidates.{counted_from}
use Rattle.cf_timed.specs.Delays.{span_count}
use Rattle.cf_timed.proofs.Middles.{middle_of, middles_all}
use Rattle.cf_timed.proofs.Numbered.{filled_next, set_length}
use Rattle.cf_timed.proofs.delays.middles_of.Goals as goal

pub loop-slot-preserved : goal.loop-slot-preserved
loop-slot-preserved c =
    let size = c.loop-slot.invariant.count in
    record {
      filled = filled_next (middle_of c.args.spans.now) c.loop-slot.middles c.loop-slot.slot c.from.result c.loop-slot.invariant.filled
          (omega (arith, size, c.loop-slot-test.true)) (c.from.ensures ∙ c.ticks.ensures.ticks);
      count = set_length c.loop-slot.middles c.loop-slot.slot c.from.result ∙ size;
    }

pub returns : goal.returns
returns c =
    let all : c.loop-slot.slot ≡ span_count = omega arith in
    let same : take span_count c.loop-slot.middles ≡ map (middle_of c.args.spans.now) (counted_from 0 span_count) =
    rw all at c.loop-slot.invariant.filled in
    middles_all c.args.spans.now c.loop-slot.middles span_count c.told-spans c.loop-slot.invariant.count same
