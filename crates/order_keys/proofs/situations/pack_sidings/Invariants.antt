use Rattle.std.proofs.Common.{◌≡◌, ◌++◌, drop}
use Rattle.order_keys.specs.Compounds.{packed_option}
use Rattle.order_keys.specs.Lists.{packed_list, packed_items}
use Rattle.order_keys.specs.Cells.{packed_op}
use Rattle.order_keys.specs.Situations.{packed_sidings}
use Rattle.order_keys.proofs.situations.pack_sidings.Given as goal

-- with the remaining sidings they are all
abbrev pub invariant-loop-siding : goal.invariant-loop-siding
invariant-loop-siding l =
    l.key.items ++ packed_items (packed_list (packed_option packed_op)) (drop l.siding-index l.sidings) ≡
    l.fn.key.items ++ packed_sidings l.sidings
