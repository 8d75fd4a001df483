-- One siding after another is read.
use Rattle.std.proofs.Common.{ap, ◌∙◌, List, Option}
use Rattle.cf_bind.specs.declared.cell.Op.{Op}
use Rattle.order_keys.specs.Unpacked.{Unpacked}
use Rattle.order_keys.specs.Compounds.{unpacked_option}
use Rattle.order_keys.specs.Lists.{unpacked_list}
use Rattle.order_keys.specs.Cells.{unpacked_op}
use Rattle.order_keys.specs.Situations.{unpacked_sidings}
use Rattle.order_keys.proofs.ListSteps.{read_first, read_more, read_all}
use Rattle.order_keys.proofs.situation_parts.unpack_sidings.Goals as goal

pub loop-init : goal.loop-init
unfolding unpacked_sidings
loop-init c =
    read_first (unpacked_list (unpacked_option unpacked_op)) c.args.key.now c.unpack-count.result c.unpack-count.new.key c.clear.new.self.items
    c.unpack-count.ensures.value c.unpack-count.ensures.left c.clear.ensures.items

pub loop-preserved : goal.loop-preserved
loop-preserved c =
    read_more (unpacked_list (unpacked_option unpacked_op)) c.unpack-count.result c.loop.counter c.loop.key c.unpack_list.new.key c.of.result
    c.loop.sidings.items c.push.new.self.items _
    c.loop-test.true (c.of.ensures ∙ ap (λ (x : Unpacked (List (Option Op))). x.value) c.in_ok-unpack_list.ensures)
    (ap (λ (x : Unpacked (List (Option Op))). x.left) c.in_ok-unpack_list.ensures)
    c.in_ok-push.ensures.items c.loop.invariant

pub returns : goal.returns
returns c =
    read_all (unpacked_list (unpacked_option unpacked_op)) c.unpack-count.result c.loop.counter c.loop.key c.loop.sidings.items _
    c.loop-test.false c.loop.invariant
