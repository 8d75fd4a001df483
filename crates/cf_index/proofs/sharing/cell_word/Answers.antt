use Rattle.std.proofs.Common.{◌∙◌}
use Rattle.cf_index.proofs.SiteWords.{one_cell}
use Rattle.cf_index.proofs.sharing.cell_word.Goals as goal

pub returns : goal.returns
returns c = λ j. c.with_bit.ensures j ∙ one_cell j c.args.k c.args.c c.requires.cell
