use Rattle.std.proofs.Common.{◌∙◌, arith}
use Rattle.cli_time.proofs.Counts.{counts-all, counts-next, counts-none}
use Rattle.cli_time.proofs.site_lines.push_counts.Goals as goal

pub loop-place-init : goal.loop-place-init
loop-place-init c = record { text = counts-none c.args.page.now c.args.numbers.now; size = omega arith }

pub loop-place-preserved : goal.loop-place-preserved
loop-place-preserved c =
    let below = c.loop-place-test.true in
    let size = c.fits-numbers in
    let more = counts-next c.args.page.now c.args.numbers.now c.loop-place.place (omega (arith, below)) (omega (arith, below, size)) in
    record { text = cc; size = omega (arith, c.push_count.ensures.size, c.loop-place.invariant.size) }

pub returns-clause-text : goal.returns-clause-text
returns-clause-text c =
    c.loop-place.invariant.text ∙ counts-all c.args.page.now c.args.numbers.now c.loop-place.place (omega (arith, c.loop-place-test.false))
