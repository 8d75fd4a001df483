use Rattle.std.proofs.Common.{arith}
use Rattle.std.proofs.lemmas.Bool.Decides.{nat_tests}
use Rattle.cf_bind.specs.declared.moves.Move.TheVariants.{Climb}
use Rattle.cf_index.specs.Allowed.{passing_of}
use Rattle.cf_index.proofs.Ranks.{none_after}
use Rattle.cf_index.proofs.ahead.climbs_after.Goals as goal

pub returns-then-last-gt-CLIMB : goal.returns-then-last-gt-CLIMB
returns-then-last-gt-CLIMB c =
    let late = c.if-last-gt-CLIMB.true in
    λ k. none_after c.args.last Climb (passing_of c.args.core.now.plan c.args.core.now.state).climb k (grind (arith, nat_tests, late))
