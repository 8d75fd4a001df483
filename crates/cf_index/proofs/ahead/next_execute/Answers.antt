use Rattle.std.proofs.Common.{◌∙◌, ◌+◌, ℕ, ap, sym}
use Rattle.std.specs.Prelude.{◌&&◌}
use Rattle.cf_bind.specs.declared.moves.Move.TheVariants.{Execute}
use Rattle.cf_layout.specs.Words.{has_bit}
use Rattle.cf_index.specs.Allowed.{send_on, passing_of}
use Rattle.cf_index.specs.Ranks.{is_past}
use Rattle.cf_index.proofs.Ranks.{word_gone, word_here}
use Rattle.cf_index.proofs.ahead.next_execute.Goals as goal

pub returns-in-Some : goal.returns-in-Some
returns-in-Some c =
    let plan = c.args.core.now.plan in
    let s = c.args.core.now.state in
    let beyond = λ (j : ℕ). c.after.ensures j ∙ ap (λ (w : ℕ). has_bit w j && is_past c.args.last (Execute (j + 1))) c.executes.ensures in
    word_here c.args.last Execute (passing_of plan s).execute c.after.result c.in-Some.k (send_on plan s) beyond (sym c.in-Some.is ∙ c.lowest.ensures.number)

pub returns-in-None : goal.returns-in-None
returns-in-None c =
    let plan = c.args.core.now.plan in
    let s = c.args.core.now.state in
    let beyond = λ (j : ℕ). c.after.ensures j ∙ ap (λ (w : ℕ). has_bit w j && is_past c.args.last (Execute (j + 1))) c.executes.ensures in
    c.next_send.ensures ∙ word_gone c.args.last Execute (passing_of plan s).execute c.after.result (send_on plan s) beyond (sym c.in-None.is
    ∙ c.lowest.ensures.number)
