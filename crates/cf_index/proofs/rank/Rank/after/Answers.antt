use Rattle.std.proofs.Common.{◌≡◌, ◌+◌, false, nat_lt, arith}
use Rattle.std.proofs.lemmas.Bool.Decides.{nat_tests}
use Rattle.cf_index.specs.Order.{below_or}
use Rattle.cf_index.proofs.Ranks.{nothing_left}
use Rattle.cf_index.proofs.rank.Rank.after.Goals as goal

pub returns-else-self-kind-2 : goal.returns-else-self-kind-2
returns-else-self-kind-2 c = λ k.
    let off : below_or c.args.self.kind c.args.kind (nat_lt c.args.self.place (k + 1)) ≡ false = grind (arith, nat_tests) in
    nothing_left c.args.word k _ off
