-- The registers that are still without a value at the end are noted last.
use Rattle.order_keys.proofs.PlaceSteps.{all_registers}
use Rattle.order_keys.proofs.places.pack_registers.Goals as goal

pub returns : goal.returns
returns c =
    all_registers c.args.regs.now c.loop-value.value-index c.loop-value.empty c.loop-value.key.items c.pack-2.new.key.items _
    c.loop-value-test.false c.in_ok-pack-2.ensures c.loop-value.invariant.whole
