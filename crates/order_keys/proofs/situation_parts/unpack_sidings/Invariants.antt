use Rattle.std.proofs.Common.{◌≡◌, ◌-◌, ◌++◌}
use Rattle.order_keys.specs.Unpacked.{got}
use Rattle.order_keys.specs.Compounds.{unpacked_option}
use Rattle.order_keys.specs.Lists.{unpacked_list, unpacked_items}
use Rattle.order_keys.specs.Cells.{unpacked_op}
use Rattle.order_keys.specs.Situations.{unpacked_sidings}
use Rattle.order_keys.proofs.situation_parts.unpack_sidings.Given as goal

-- with the sidings that are still to be read they are all
abbrev pub invariant-loop : goal.invariant-loop
invariant-loop l =
    let others = unpacked_items (unpacked_list (unpacked_option unpacked_op)) (l.count - l.counter) l.key in
    got (l.sidings.items ++ others.value) others.left ≡ unpacked_sidings l.fn.key
