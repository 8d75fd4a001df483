use Rattle.std.proofs.Common.{◌≡◌, ◌-◌, ◌++◌, length, take}
use Rattle.order_keys.specs.Unpacked.{got}
use Rattle.order_keys.specs.Cells.{unpacked_cell}
use Rattle.order_keys.specs.Lists.{unpacked_list, unpacked_items}
use Rattle.order_keys.specs.Stages.{lefts_from, lefts_of}
use Rattle.order_keys.proofs.stages.unpack_stages.Given as goal

-- with the stages that are still to be read they are all, and so are their positions
abbrev pub invariant-loop-i : goal.invariant-loop-i
invariant-loop-i l =
    let others = unpacked_items unpacked_cell (l.count - l.i) l.key in record {
      many : length l.cells ≡ l.count;
      whole : got (take l.i l.cells ++ others.value) others.left ≡ unpacked_list unpacked_cell l.fn.key;
      lefts : l.lefts.items ++ lefts_from (l.count - l.i) l.key ≡ lefts_of l.fn.key;
    }
