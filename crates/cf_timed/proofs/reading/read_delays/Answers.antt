use Rattle.std.proofs.Common.{◌≡◌, ◌∙◌, ap, refl, length, Ok, arith, rules}
use Rattle.cf_timed.proofs.DelayLines.{none_told, told_at_end}
use Rattle.cf_timed.proofs.reading.read_delays.Goals as goal

pub returns : goal.returns
returns c =
    let none : length c.loop-rest.rest.now ≡ 0 = search rules in
    ap Ok c.filled.ensures ∙ told_at_end c.args.text.now c.loop-rest.rest.now c.loop-rest.above c.loop-rest.named none c.loop-rest.invariant.1

pub loop-rest-init : goal.loop-rest-init
loop-rest-init c = (omega (arith, c.requires), refl, none_told)
