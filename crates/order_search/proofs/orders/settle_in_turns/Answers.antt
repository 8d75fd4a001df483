use Rattle.std.proofs.Common.{refl, arith}
use Rattle.order_search.specs.Counting.{unchanged}
use Rattle.order_search.proofs.Sweeping.{turn_on, turn_falls, turns_end}
use Rattle.order_search.proofs.orders.settle_in_turns.Goals as goal

pub turns-init : goal.turns-init
turns-init c = record { swept = unchanged c.args.counts.now refl; as_many = c.requires.as_many }

pub turns-preserved : goal.turns-preserved
turns-preserved c = record {
  swept = turn_on c.args.rows.now c.args.counts.now c.turns.counts c.settle_all.new.counts c.settle_all.result c.turns-test.true c.turns.invariant.swept
      c.settle_all.ensures;
  as_many = omega arith;
}

pub turns-smaller : goal.turns-smaller
turns-smaller c = turn_falls c.args.rows.now c.turns.counts c.settle_all.new.counts c.settle_all.result c.turns-test.true c.settle_all.ensures

pub returns : goal.returns
returns c =
    let ended = turns_end c.args.rows.now c.args.counts.now c.turns.counts c.settle_all.new.counts c.settle_all.result c.turns-test.false
    c.turns.invariant.swept c.settle_all.ensures in
    record { swept = ended.0; stuck = ended.1 }
