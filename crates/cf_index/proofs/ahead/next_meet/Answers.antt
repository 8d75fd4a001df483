use Rattle.std.proofs.Common.{◌∙◌, ◌+◌, ℕ, ap, sym}
use Rattle.std.specs.Prelude.{◌&&◌}
use Rattle.cf_bind.specs.declared.moves.Move.TheVariants.{Meet}
use Rattle.cf_layout.specs.Words.{has_bit}
use Rattle.cf_index.specs.Allowed.{execute_on, passing_of}
use Rattle.cf_index.specs.Ranks.{is_past}
use Rattle.cf_index.proofs.Ranks.{word_gone, word_here}
use Rattle.cf_index.proofs.ahead.next_meet.Goals as goal

pub returns-in-Some : goal.returns-in-Some
returns-in-Some c =
    let plan = c.args.core.now.plan in
    let s = c.args.core.now.state in
    let beyond = λ (j : ℕ). c.after.ensures j ∙ ap (λ (w : ℕ). has_bit w j && is_past c.args.last (Meet (j + 1))) c.meets.ensures in
    word_here c.args.last Meet (passing_of plan s).meet c.after.result c.in-Some.k (execute_on plan s) beyond (sym c.in-Some.is ∙ c.lowest.ensures.number)

pub returns-in-None : goal.returns-in-None
returns-in-None c =
    let plan = c.args.core.now.plan in
    let s = c.args.core.now.state in
    let beyond = λ (j : ℕ). c.after.ensures j ∙ ap (λ (w : ℕ). has_bit w j && is_past c.args.last (Meet (j + 1))) c.meets.ensures in
    c.next_execute.ensures ∙ word_gone c.args.last Meet (passing_of plan s).meet c.after.result (execute_on plan s) beyond (sym c.in-None.is
    ∙ c.lowest.ensures.number)
