-- One request after another is read.
use Rattle.std.proofs.Common.{arith, ap, ◌+◌, [], ◌∷◌, length, ◌∙◌}
use Rattle.std.proofs.lemmas.List.{length-append}
use Rattle.order_keys.specs.Numbers.{unpacked_byte}
use Rattle.order_keys.proofs.ListSteps.{read_first, read_more, read_all}
use Rattle.order_keys.proofs.situation_parts.unpack_lane.Goals as goal

pub loop-init : goal.loop-init
loop-init c = record {
  whole = read_first unpacked_byte c.args.key.now c.unpack-count.result c.unpack-count.new.key c.clear.new.self.items
      c.unpack-count.ensures.value c.unpack-count.ensures.left c.clear.ensures;
  size = ap length c.clear.ensures;
  few = omega arith;
}

pub loop-preserved : goal.loop-preserved
loop-preserved c = record {
  whole = read_more unpacked_byte c.unpack-count.result c.loop.counter c.loop.key c.unpack.new.key c.unpack.result c.loop.lane.items
      c.push.new.self.items _ c.loop-test.true c.unpack.ensures.value c.unpack.ensures.left c.push.ensures.items c.loop.invariant.whole;
  size = ap length c.push.ensures.items ∙ length-append c.loop.lane.items (c.unpack.result ∷ []) ∙ ap (λ n. n + 1) c.loop.invariant.size;
  few = c.loop.invariant.few;
}

pub returns : goal.returns
returns c =
    read_all unpacked_byte c.unpack-count.result c.loop.counter c.loop.key c.loop.lane.items _ c.loop-test.false c.loop.invariant.whole
