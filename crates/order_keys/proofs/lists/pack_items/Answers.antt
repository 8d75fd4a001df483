-- One item after another is appended.
use Rattle.order_keys.proofs.ListSteps.{more_packed, all_packed}
use Rattle.order_keys.proofs.lists.pack_items.Goals as goal

pub loop-item-preserved : goal.loop-item-preserved
loop-item-preserved g c =
    more_packed g.T.Pack.packed c.args.items.now c.loop-item.item-index c.item-item.result c.loop-item.key.items c.pack.new.key.items _
    c.loop-item-test.true c.item-item.is c.in_ok-pack.ensures c.loop-item.invariant

pub returns : goal.returns
returns g c =
    all_packed g.T.Pack.packed c.args.items.now c.loop-item.item-index c.loop-item.key.items _ c.loop-item-test.false c.loop-item.invariant
