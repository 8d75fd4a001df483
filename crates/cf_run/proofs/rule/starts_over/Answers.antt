use Rattle.std.proofs.Common.{◌≡◌, ◌*◌, ◌∙◌, ℕ, Bool, Some, ap, subst}
use Rattle.std.specs.Prelude.{nat_le}
use Rattle.cf_index.specs.PickedFrom.{IsPickedFrom, from_emit}
use Rattle.cf_semantics.specs.moves.Holding.{is_held}
use Rattle.cf_run.proofs.rule.starts_over.Goals as goal

pub returns : goal.returns
returns c = λ over.
    let pace = c.args.pace.now in
    let plan = c.args.core.now.plan in
    let s = c.args.core.now.state in
    let held : c.held.result ≡ is_held plan pace.count = c.held.ensures.value ∙ ap (λ (n : ℕ). nat_le (2 * n) pace.count) c.requires.stages in
    subst (λ (b : Bool). IsPickedFrom pace.rule b plan s (Some c.args.last) (from_emit plan s)) held
    (c.starts_over.ensures pace.rule c.args.last (rw c.requires.last at c.rank.ensures) over)
