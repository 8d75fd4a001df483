use Rattle.std.proofs.Common.{arith}
use Rattle.std.proofs.lemmas.Bool.Decides.{nat_tests}
use Rattle.cf_bind.specs.declared.moves.Move.TheVariants.{Fall}
use Rattle.cf_index.specs.Allowed.{passing_of}
use Rattle.cf_index.proofs.Ranks.{none_after}
use Rattle.cf_index.proofs.ahead.falls_after.Goals as goal

pub returns-then-last-gt-FALL : goal.returns-then-last-gt-FALL
returns-then-last-gt-FALL c =
    let late = c.if-last-gt-FALL.true in
    λ k. none_after c.args.last Fall (passing_of c.args.core.now.plan c.args.core.now.state).fall k (grind (arith, nat_tests, late))
