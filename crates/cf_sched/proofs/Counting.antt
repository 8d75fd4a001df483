-- A count that stops at twice the number of stages gives the same answers as the whole count.
use Rattle.std.proofs.Common.{◌≡◌, ℕ, arith}
use Rattle.std.proofs.lemmas.Bool.Decides.{nat_tests}
use Rattle.run_options.specs.declared.guess_rule.GuessRule.{GuessRule}
use Rattle.cf_layout.specs.Layout.{Plan}
use Rattle.cf_semantics.specs.moves.Holding.{is_held}
use Rattle.cf_sched.specs.Paces.{PaceCount, HasCounted, holds_issue}

-- whether Issue is held back
pub held_by : (c : PaceCount) (r : GuessRule) (plan : Plan) (count : ℕ) → HasCounted r plan.stages count c → holds_issue c ≡ is_held plan count
held_by c r plan count has = rw (has.1, has.2) (grind (arith, nat_tests))
