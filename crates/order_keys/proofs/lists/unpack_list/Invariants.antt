use Rattle.std.proofs.Common.{◌≡◌, ◌-◌, ◌++◌}
use Rattle.order_keys.specs.Unpacked.{got}
use Rattle.order_keys.specs.Lists.{unpacked_list, unpacked_items}
use Rattle.order_keys.proofs.lists.unpack_list.Given as goal

-- with the items that are still to be read, it is the whole list
abbrev pub invariant-loop : goal.invariant-loop
invariant-loop g l =
    let others = unpacked_items g.T.Pack.unpacked (l.count - l.counter) l.key in
    got (l.list.items ++ others.value) others.left ≡ unpacked_list g.T.Pack.unpacked l.fn.key
