use Rattle.std.proofs.Common.{◌≡◌, ◌∙◌, sym, ap, length, rules}
use Rattle.rv_asm.specs.Assembling.{are_ascii}
use Rattle.rv_text.proofs.LineCuts.{no_lines}
use Rattle.rv_asm.proofs.assembling.check_ascii.Goals as goal

pub returns : goal.returns
returns c =
    let none : length c.loop-rest.rest.now ≡ 0 = search rules in
    sym (sym c.loop-rest.invariant.same ∙ ap (are_ascii c.loop-rest.above) (no_lines c.loop-rest.rest.now none))
