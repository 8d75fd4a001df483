-- One stage after another is read, and its position is noted.
use Rattle.std.proofs.Common.{◌≡◌, ◌-◌, ◌<◌, ◌++◌, ◌∷◌, [], List, ap, take, length, sym, subst, ◌∙◌}
use Rattle.std.proofs.lemmas.List.{length-set, take_more_set}
use Rattle.cf_bind.specs.declared.cell.Cell.{Cell}
use Rattle.order_keys.specs.Unpacked.{Unpacked, got}
use Rattle.order_keys.specs.Cells.{unpacked_cell}
use Rattle.order_keys.specs.Lists.{unpacked_items, unpacked_list}
use Rattle.order_keys.proofs.ListSteps.{read_more, read_all}
use Rattle.order_keys.proofs.StagesPlaced.{all_left, all_taken, one_left, written_back}
use Rattle.order_keys.proofs.stages.unpack_stages.Goals as goal

pub loop-i-preserved : goal.loop-i-preserved
loop-i-preserved c =
    let within : c.loop-i.i < length c.loop-i.cells = subst (λ n. c.loop-i.i < n) (sym c.loop-i.invariant.many) c.loop-i-test.true in record {
      many = length-set c.loop-i.cells c.loop-i.i c.unpack_cell.new.cell ∙ c.loop-i.invariant.many;
      whole = read_more unpacked_cell c.unpack-count.result c.loop-i.i c.loop-i.key c.unpack_cell.new.key c.unpack_cell.new.cell
          (take c.loop-i.i c.loop-i.cells) _ _
          c.loop-i-test.true (ap (λ (x : Unpacked Cell). x.value) c.unpack_cell.ensures) (ap (λ (x : Unpacked Cell). x.left) c.unpack_cell.ensures)
          (take_more_set c.loop-i.cells c.loop-i.i c.unpack_cell.new.cell within) c.loop-i.invariant.whole;
      lefts = one_left c.unpack-count.result c.loop-i.i c.loop-i.key c.unpack_cell.new.key c.loop-i.lefts.items c.push-in-loop-i.new.self.items _
          c.loop-i-test.true (ap (λ (x : Unpacked Cell). x.left) c.unpack_cell.ensures)
          (c.in_ok-push-2.ensures.items ∙ ap (λ n. c.loop-i.lefts.items ++ n ∷ []) c.count-in-loop-i.ensures) c.loop-i.invariant.lefts;
    }

pub returns-clause-cells : goal.returns-clause-cells
returns-clause-cells c =
    ap (λ (l : List Cell). got l c.loop-i.key) (written_back c.resize.new.self.len c.loop-i.cells c.resize.new.self.items
    (c.loop-i.invariant.many ∙ sym c.in_ok-resize.ensures.len))
    ∙ read_all unpacked_cell c.unpack-count.result c.loop-i.i c.loop-i.key c.loop-i.cells _ c.loop-i-test.false
    (subst (λ (l : List Cell). got (l ++ (unpacked_items unpacked_cell (c.unpack-count.result - c.loop-i.i) c.loop-i.key).value)
    (unpacked_items unpacked_cell (c.unpack-count.result - c.loop-i.i) c.loop-i.key).left ≡ unpacked_list unpacked_cell c.args.key.now)
    (all_taken c.loop-i.cells c.loop-i.i c.unpack-count.result c.loop-i.invariant.many c.loop-i-test.false) c.loop-i.invariant.whole)

pub returns-clause-lefts : goal.returns-clause-lefts
returns-clause-lefts c =
    all_left c.unpack-count.result c.loop-i.i c.loop-i.key c.loop-i.lefts.items _ c.loop-i-test.false c.loop-i.invariant.lefts
