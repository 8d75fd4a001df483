-- One siding after another is appended.
use Rattle.order_keys.specs.Compounds.{packed_option}
use Rattle.order_keys.specs.Lists.{packed_list}
use Rattle.order_keys.specs.Cells.{packed_op}
use Rattle.order_keys.proofs.ListSteps.{more_packed, all_packed}
use Rattle.order_keys.proofs.situations.pack_sidings.Goals as goal

pub loop-siding-preserved : goal.loop-siding-preserved
loop-siding-preserved c =
    more_packed (packed_list (packed_option packed_op)) c.args.sidings.now c.loop-siding.siding-index c.siding-item.result
    c.loop-siding.key.items c.pack_list.new.key.items _
    c.loop-siding-test.true c.siding-item.is (rw c.cells.ensures at c.in_ok-pack_list.ensures) c.loop-siding.invariant

pub returns : goal.returns
returns c =
    all_packed (packed_list (packed_option packed_op)) c.args.sidings.now c.loop-siding.siding-index c.loop-siding.key.items _
    c.loop-siding-test.false c.loop-siding.invariant
