-- The word follows the change of a cell.
use Rattle.std.proofs.Common.{◌∙◌, length, map, ap}
use Rattle.cf_sidings.proofs.Changed.{put-read, words-read}
use Rattle.cf_sidings.proofs.Shape.{lengths-set}
use Rattle.cf_sidings.proofs.sidings.Sidings.set.Goals as goal

pub invariant_of-self : goal.invariant_of-self
invariant_of-self c =
    words-read c.self.inside.list.items _ c.self.inside.taken c.self.inside.inner c.with_cell-self-inside.result c.args.k c.args.c c.args.op
    c.index_mut.result.now c.set.new.self c.self.view_is c.requires.siding c.requires.cell c.index_mut.ensures.value c.set.ensures.cells c.self.invariant
    (λ j. rw (← c.is_some.ensures) (c.with_cell-self-inside.ensures j))

pub returns-clause-sidings : goal.returns-clause-sidings
returns-clause-sidings c =
    put-read c.self.inside.list.items _ c.args.k c.args.c c.args.op c.index_mut.result.now c.set.new.self c.self.view_is c.requires.siding
    c.index_mut.ensures.value c.set.ensures.cells

-- the sidings keep their numbers of cells
pub returns-clause-cells : goal.returns-clause-cells
returns-clause-cells c = lengths-set c.self.inside.list.items c.args.k c.index_mut.result.now c.set.new.self c.index_mut.ensures.value c.set.ensures.count
    ∙ ap (map length) c.self.view_is
