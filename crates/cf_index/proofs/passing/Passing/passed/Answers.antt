use Rattle.std.proofs.Common.{◌<◌, ◌∙◌, sym, arith}
use Rattle.cf_index.specs.Order.{kind_place}
use Rattle.cf_index.proofs.PassedStages.{passing_none, passing_all}
use Rattle.cf_index.proofs.passing.Passing.passed.Goals as goal

pub returns-in-Issue-clause-count : goal.returns-in-Issue-clause-count
returns-in-Issue-clause-count c = let e : kind_place c.args.last < 2 = grind arith in sym (passing_none c.args.self.now c.args.last e)

pub returns-in-Slide-clause-count : goal.returns-in-Slide-clause-count
returns-in-Slide-clause-count c = let e : 7 < kind_place c.args.last = grind arith in c.len.ensures.count ∙ sym (passing_all c.args.self.now c.args.last e)
