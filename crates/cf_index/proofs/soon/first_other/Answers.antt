use Rattle.std.proofs.Common.{◌≡◌, ◌∙◌, ap, sym, arith}
use Rattle.cf_index.specs.declared.rank.Rank.{Rank}
use Rattle.cf_index.specs.Allowed.{is_allowed}
use Rattle.cf_index.proofs.Firsts.{emit_barred, emit_first}
use Rattle.cf_index.proofs.Ranks.{all_others}
use Rattle.cf_index.proofs.soon.first_other.Goals as goal

pub returns-then-may_emit : goal.returns-then-may_emit
returns-then-may_emit c = emit_first c.args.core.now.plan c.args.core.now.state (sym c.may_emit.ensures ∙ c.if-may_emit.true)

pub returns-else-may_emit : goal.returns-else-may_emit
returns-else-may_emit c =
    let plan = c.args.core.now.plan in
    let s = c.args.core.now.state in
    let one : c.of.result.kind ≡ 1 = ap (λ (r : Rank). r.kind) c.of.ensures in
    emit_barred plan s c.next.result (sym c.may_emit.ensures ∙ c.if-may_emit.false) (c.next.ensures (λ eight. absurd (omega (arith, one, eight)))
    ∙ all_others c.of.result (is_allowed plan s) plan (omega (arith, one)))
