-- The stages are compared one after another.
use Rattle.std.proofs.Common.{◌∙◌, refl, sym, arith}
use Rattle.cf_stages.proofs.Sameness.{all-same, none-same}
use Rattle.cf_stages.proofs.stages.Stages.same.Goals as goal

pub loop-below-init : goal.loop-below-init
loop-below-init c = none-same c.args.self.now c.args.other.now

pub returns : goal.returns
returns c = (
  λ t. all-same c.args.self.now c.args.other.now (sym c.count.ensures.count ∙ c.if-count.false ∙ c.count-2.ensures.count)
      (λ k h. c.loop-below.invariant k (let out = c.loop-below-test.false in let n = c.count-below-end.ensures.count in omega arith)),
  λ e. refl,
)
