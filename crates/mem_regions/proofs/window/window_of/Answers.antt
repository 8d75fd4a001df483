use Rattle.std.proofs.Common.{rules, ◌∙◌, ◌-◌, length, refl, sym}
use Rattle.mem_regions.proofs.Windows.{window-last}
use Rattle.mem_regions.proofs.window.window_of.Goals as goal

pub returns-then-is_apart_from : goal.returns-then-is_apart_from
returns-then-is_apart_from c =
    window-last c.args.list.now (length c.args.list.now - 1) c.index-list-place.result _ (search rules) c.index-list-place.is
    (rw (← c.last.view_is) c.if-last.true) refl (rw (← c.last.view_is) refl) (rw (← c.last.view_is, c.from.ensures, c.last.invariant.0) refl)
    (rw (← c.last.view_is, c.last.invariant.0) c.last.invariant.1)
    (sym c.is_apart_from.ensures ∙ c.if-is_apart_from.true)
