use Rattle.std.proofs.Common.{◌≡◌, length, arith}
use Rattle.cf_sidings.proofs.Small.{inner_start, inner_all}
use Rattle.cf_sidings.proofs.words.inner_cells.Goals as goal

pub loop-k-init : goal.loop-k-init
loop-k-init c = λ j. inner_start c.args.layout.now j

pub returns : goal.returns
returns c =
    let all : c.loop-k.k ≡ length c.args.layout.now.sidings = omega arith in
    λ j. inner_all c.args.layout.now c.loop-k.k c.loop-k.word j all (c.loop-k.invariant j)
