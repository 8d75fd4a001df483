-- The bytes before the stages, those of the stages, and those after them.
use Rattle.std.proofs.Common.{◌-◌, ap, length, rules, ◌∙◌}
use Rattle.std.specs.Prelude.{slice_index}
use Rattle.std.proofs.lemmas.List.{take_rest}
use Rattle.order_keys.specs.declared.node.Node.{Node}
use Rattle.order_keys.proofs.StagesPlaced.{high_fits, high_noted, low_fits, low_noted, whole_key}
use Rattle.order_keys.proofs.beside.write_key_beside.Goals as goal

pub bounds-lefts-low : goal.bounds-lefts-low
bounds-lefts-low c = low_noted c.args.before.now c.args.node.now c.args.key.now c.args.lefts.now c.args.low c.args.high c.requires.key c.requires.lefts
    c.requires.order c.requires.inside c.requires.beside

pub offset_bounds-lefts-low : goal.offset_bounds-lefts-low
offset_bounds-lefts-low c =
    let inside = low_noted c.args.before.now c.args.node.now c.args.key.now c.args.lefts.now c.args.low c.args.high c.requires.key c.requires.lefts
    c.requires.order c.requires.inside c.requires.beside in
    search (rules, inside)

pub slice_bounds-extend_from_slice-count : goal.slice_bounds-extend_from_slice-count
slice_bounds-extend_from_slice-count c = low_fits c.args.before.now c.args.node.now c.args.key.now c.args.lefts.now c.args.low c.args.high c.requires.key
    c.requires.lefts c.requires.order c.requires.inside c.requires.beside

pub bounds-lefts-high : goal.bounds-lefts-high
bounds-lefts-high c = high_noted c.args.before.now c.args.node.now c.args.key.now c.args.lefts.now c.args.low c.args.high c.requires.key c.requires.lefts
    c.requires.order c.requires.inside c.requires.beside

pub overflow_sub-key : goal.overflow_sub-key
overflow_sub-key c = high_fits c.args.before.now c.args.node.now c.args.key.now c.args.lefts.now c.args.low c.args.high c.requires.key
    c.requires.lefts c.requires.order c.requires.inside c.requires.beside

pub returns-clause-key : goal.returns-clause-key
returns-clause-key c =
    let key = c.args.key.now in
    let rest = take_rest key (length key - slice_index c.args.lefts.now c.args.high) in
    let cells = c.deref.ensures.value ∙ ap (λ (k : Node). k.situation.cells) c.node.view_is in
    rw (
      c.in_ok-extend_from_slice-2.ensures.items,
      c.in_ok-pack_items.ensures,
      c.in_ok-extend_from_slice.ensures.items,
      c.in_ok-changed.ensures.items,
      rest,
      cells,
    )
    (whole_key c.args.before.now c.args.node.now key c.args.lefts.now c.args.low c.args.high c.requires.key c.requires.lefts
    c.requires.order c.requires.inside c.requires.beside)
