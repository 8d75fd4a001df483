use Rattle.std.proofs.Common.{◌≡◌, ◌∷◌, ◌-◌, length, take, drop, arith}
use Rattle.std.proofs.lemmas.Grind.{common_steps}
use Rattle.run_scripts.proofs.FirstLines.{says-first}
use Rattle.run_scripts.proofs.script.cut_written.Goals as goal

pub returns-in-10-clause-says : goal.returns-in-10-clause-says
returns-in-10-clause-says c =
    let rest = c.in_ok-mv.rest.now in
    let cut : rest ≡ 10 ∷ take (length rest - 1) (drop 1 rest) = grind (arith, common_steps) in
    says-first c.in_ok-mv.mv c.args.text.now rest (take (length rest - 1) (drop 1 rest)) c.in_ok-mv.ensures.text cut c.in_ok-mv.ensures.below
