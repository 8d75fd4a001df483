use Rattle.std.proofs.Common.{◌∙◌, ◌+◌, None}
use Rattle.cf_sidings.specs.Sidings.{moved_on}
use Rattle.cf_sidings.proofs.Changed.{put-twice, siding-there}
use Rattle.cf_sidings.proofs.sidings.Sidings.slide.Goals as goal

-- the contents are taken out of one cell and put into the next one
pub returns-clause-sidings : goal.returns-clause-sidings
unfolding moved_on
returns-clause-sidings c =
    let now = c.args.self.now in
    c.set-2.ensures.sidings ∙ rw (c.set.ensures.sidings, ← c.cell-op.ensures) (put-twice now c.args.k c.args.c (c.args.c + 1) None c.cell-op.result
    (siding-there now c.args.k c.args.c c.cell-op.result c.cell-op.ensures))
