use Rattle.std.proofs.Common.{◌≡◌, ◌+◌, ◌++◌, List, ℕ, ap, ◌∙◌, arith}
use Rattle.std.proofs.lemmas.Grind.{common_steps}
use Rattle.std.specs.Fmt.{digits}
use Rattle.cf_gen.specs.Statements.{label_text}
use Rattle.cf_gen.specs.Program.{label_line, last_lines, closing_text}
use Rattle.cf_gen.proofs.program.closing.Goals as goal

pub returns : goal.returns
unfolding closing_text last_lines digits
returns c =
    let front : c.push.new.self ≡ label_line (label_text (c.args.number + 1)) = grind (arith, common_steps) in
    c.push-2.ensures ∙ ap (λ (page : List ℕ). page ++ last_lines) front
