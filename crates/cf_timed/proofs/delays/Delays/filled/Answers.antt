use Rattle.std.proofs.Common.{◌≡◌, ◌∙◌, map, take, arith}
use Rattle.cf_semantics.specs.moves.Candidates.{counted_from}
use Rattle.cf_timed.specs.Delays.{span_count}
use Rattle.cf_timed.specs.DelayLines.{span_told}
use Rattle.cf_timed.proofs.DelayLines.{filled_delays}
use Rattle.cf_timed.proofs.Numbered.{filled_next, set_length}
use Rattle.cf_timed.proofs.delays.Delays.filled.Goals as goal

pub loop-slot-preserved : goal.loop-slot-preserved
loop-slot-preserved c =
    let size = c.loop-slot.invariant.count in
    record {
      filled = filled_next (span_told c.args.told.now) c.loop-slot.spans c.loop-slot.slot c.span_told.result c.loop-slot.invariant.filled
          (omega (arith, size, c.loop-slot-test.true)) c.span_told.ensures.span;
      count = set_length c.loop-slot.spans c.loop-slot.slot c.span_told.result ∙ size;
    }

pub middles_of-middles-requires : goal.middles_of-middles-requires
middles_of-middles-requires c =
    let all : c.loop-slot.slot ≡ span_count = omega arith in
    let same : take span_count c.loop-slot.spans ≡ map (span_told c.args.told.now) (counted_from 0 span_count) = rw all at c.loop-slot.invariant.filled in
    (filled_delays c.args.told.now c.loop-slot.spans c.loop-slot.invariant.count same c.requires).each

pub invariant_of-result : goal.invariant_of-result
invariant_of-result c =
    let all : c.loop-slot.slot ≡ span_count = omega arith in
    let same : take span_count c.loop-slot.spans ≡ map (span_told c.args.told.now) (counted_from 0 span_count) = rw all at c.loop-slot.invariant.filled in
    (filled_delays c.args.told.now c.loop-slot.spans c.loop-slot.invariant.count same c.requires, c.middles_of-middles.ensures)
