use Rattle.std.proofs.Common.{◌∙◌, ◌+◌, ◌*◌, ap, nat_eq, Bool, true}
use Rattle.std.specs.Prelude.{◌&&◌, ◌||◌}
use Rattle.cf_index.proofs.SiteWords.{next_cell}
use Rattle.cf_index.proofs.sharing.two_cells.Goals as goal

pub returns : goal.returns
returns c = λ j.
    c.with_bit.ensures j
    ∙ ap (λ (b : Bool). (nat_eq j (8 * c.args.k + c.args.c + 1) && true) || b) (c.cell_word.ensures j)
    ∙ next_cell j c.args.k c.args.c c.requires.cell
