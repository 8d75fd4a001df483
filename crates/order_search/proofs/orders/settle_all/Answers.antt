use Rattle.std.proofs.Common.{arith}
use Rattle.order_search.proofs.Sweeping.{first_turn, one_settled}
use Rattle.order_search.proofs.orders.settle_all.Goals as goal

pub loop-number-init : goal.loop-number-init
loop-number-init c = record {
  as_many = c.requires.as_many;
  settles = first_turn c.args.rows.now c.args.counts.now _ (omega arith);
}

pub loop-number-preserved : goal.loop-number-preserved
loop-number-preserved c = record {
  as_many = omega arith;
  settles = one_settled c.args.rows.now c.args.counts.now c.loop-number.counts c.settle-found.new.counts c.loop-number.number c.loop-number.found
      c.settle-found.result (omega arith) c.loop-number.invariant.settles c.settle-found.ensures;
}
