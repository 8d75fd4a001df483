use Rattle.std.proofs.Common.{arith}
use Rattle.cf_index.proofs.SiteWords.{siding_within}
use Rattle.cf_index.proofs.sharing.cells.Goals as goal

pub returns : goal.returns
returns c =
    let w = siding_within c.args.layout.now c.args.k c.stages-accepted.ensures.accepted c.requires in
    record { cells = c.cells_of.ensures; some = omega (arith, w.0); few = omega (arith, w.1); few_sidings = w.2 }
