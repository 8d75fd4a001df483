-- One more value.
use Rattle.order_keys.proofs.PlacesRead.{one_value}
use Rattle.order_keys.proofs.places.set_values.Goals as goal

pub loop-i-preserved : goal.loop-i-preserved
loop-i-preserved c = record {
  valued = one_value c.loop-i.regs c.args.places.now c.loop-i.i c.value_of.result _ c.loop-i-test.true c.loop-i.invariant.valued c.value_of.ensures;
}
