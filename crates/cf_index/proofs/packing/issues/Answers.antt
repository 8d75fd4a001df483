use Rattle.std.proofs.Common.{◌∙◌, ◌+◌, ◌*◌, ap, ℕ}
use mir.Val.{bool_byte}
use Rattle.cf_index.specs.Packed.{packed_from}
use Rattle.cf_index.proofs.PackedWords.{issues_joined, issues_kept}
use Rattle.cf_index.proofs.packing.issues.Goals as goal

pub returns-clause-moves : goal.returns-clause-moves
returns-clause-moves c =
    let i = c.guided_by_kind-issuable.result in
    ap (packed_from 0 3) (c.flag_then.ensures ∙ ap (λ (w : ℕ). bool_byte i.next + 2 * w) c.flag_then-wait.ensures)
    ∙ issues_joined i.next i.taken i.wait
    ∙ issues_kept c.args.rule c.args.core.now.plan c.args.core.now.state i.next i.taken i.wait
    c.guided_by_kind-issuable.ensures.next c.guided_by_kind-issuable.ensures.taken c.guided_by_kind-issuable.ensures.wait
