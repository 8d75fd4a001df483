use Rattle.std.proofs.Common.{◌≡◌, ◌∙◌, sym, ap, length, rules}
use Rattle.rv_asm.specs.Assembling.{draft_from}
use Rattle.rv_text.proofs.LineCuts.{no_lines}
use Rattle.rv_asm.proofs.draft.first_look.Goals as goal

pub returns-clause-ok : goal.returns-clause-ok
returns-clause-ok c =
    let none : length c.loop-rest.rest.now ≡ 0 = search rules in
    sym c.loop-rest.invariant.same ∙ ap (draft_from c.loop-rest.above c.loop-rest.draft) (no_lines c.loop-rest.rest.now none)
