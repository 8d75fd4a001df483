use Rattle.std.proofs.Common.{◌≡◌, ◌∙◌, ◌/◌, ◌%◌, sym, length, arith}
use Rattle.cf_index.proofs.SiteWords.{none_yet}
use Rattle.cf_index.proofs.UsedCells.{among_ways_out}
use Rattle.cf_index.proofs.sharing.exits.Goals as goal

pub loop-k-init : goal.loop-k-init
loop-k-init c = λ j. none_yet j _

pub returns : goal.returns
returns c = λ j.
    let all : c.loop-k.k ≡ length c.args.layout.now.sidings = omega (arith, c.siding_count-k-end.ensures) in
    rw all at (c.loop-k.invariant j) ∙ sym (among_ways_out c.args.layout.now c.args.i (j / 8) (j % 8))
