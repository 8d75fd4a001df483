use Rattle.std.proofs.Common.{◌∙◌, ◌+◌, ℕ, ap, sym}
use Rattle.std.specs.Prelude.{◌&&◌}
use Rattle.cf_bind.specs.declared.moves.Move.TheVariants.{Send}
use Rattle.cf_layout.specs.Words.{has_bit}
use Rattle.cf_index.specs.Allowed.{launch_on, passing_of}
use Rattle.cf_index.specs.Ranks.{is_past}
use Rattle.cf_index.proofs.Ranks.{word_gone, word_here}
use Rattle.cf_index.proofs.ahead.next_send.Goals as goal

pub returns-in-Some : goal.returns-in-Some
returns-in-Some c =
    let plan = c.args.core.now.plan in
    let s = c.args.core.now.state in
    let beyond = λ (j : ℕ). c.after.ensures j ∙ ap (λ (w : ℕ). has_bit w j && is_past c.args.last (Send (j + 1))) c.sends.ensures in
    word_here c.args.last Send (passing_of plan s).send c.after.result c.in-Some.k (launch_on plan s) beyond (sym c.in-Some.is ∙ c.lowest.ensures.number)

pub returns-in-None : goal.returns-in-None
returns-in-None c =
    let plan = c.args.core.now.plan in
    let s = c.args.core.now.state in
    let beyond = λ (j : ℕ). c.after.ensures j ∙ ap (λ (w : ℕ). has_bit w j && is_past c.args.last (Send (j + 1))) c.sends.ensures in
    c.next_launch.ensures ∙ word_gone c.args.last Send (passing_of plan s).send c.after.result (launch_on plan s) beyond (sym c.in-None.is
    ∙ c.lowest.ensures.number)
