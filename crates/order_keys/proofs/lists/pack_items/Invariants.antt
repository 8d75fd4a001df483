use Rattle.std.proofs.Common.{◌≡◌, ◌++◌, drop}
use Rattle.order_keys.specs.Lists.{packed_items}
use Rattle.order_keys.proofs.lists.pack_items.Given as goal

-- with the remaining items it is all of them
abbrev pub invariant-loop-item : goal.invariant-loop-item
invariant-loop-item g l =
    l.key.items ++ packed_items g.T.Pack.packed (drop l.item-index l.items) ≡ l.fn.key.items ++ packed_items g.T.Pack.packed l.items
