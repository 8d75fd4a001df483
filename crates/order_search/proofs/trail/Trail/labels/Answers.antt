use Rattle.std.proofs.Common.{rules, ◌≡◌, ◌-◌, subst, arith, sym, refl, length, slice_get, Some}
use Rattle.std.proofs.lemmas.Option.{slice_get_read}
use Rattle.order_search.proofs.Traces.{one_back, is_trace, LeadsFrom}
use Rattle.order_search.specs.Exploring.{EndsWithLabel}
use Rattle.order_search.proofs.trail.Trail.labels.Goals as goal

pub loop-at-preserved : goal.loop-at-preserved
loop-at-preserved g c =
    let there : slice_get c.args.self.now.entered.items (c.loop-at.at - 1) ≡ Some c.index-by.result.now =
    slice_get_read c.args.self.now.entered.items (length c.args.self.now.entered.items) (c.loop-at.at - 1) c.index-by.result.now refl
    (omega (arith, c.loop-at.invariant.inside)) (search rules) in record {
      inside = omega (arith, c.requires.earlier (c.loop-at.at - 1) c.index-by.result.now there, c.loop-at.invariant.inside);
      rest = subst (λ labels. LeadsFrom c.args.self.now.entered.items c.args.number c.args.label labels c.index-by.result.now.from)
          (sym c.in_ok-push-2.ensures.items)
          (one_back c.args.self.now.entered.items c.args.number c.args.label c.loop-at.labels.items c.loop-at.at c.index-by.result.now
          (omega arith) there c.loop-at.invariant.rest);
    }

pub returns : goal.returns
returns g c = subst (EndsWithLabel c.args.self.now.entered.items c.args.number c.args.label) (sym c.reverse.ensures.items)
    (is_trace c.args.self.now.entered.items c.args.number c.args.label c.loop-at.labels.items c.loop-at.at (omega arith) c.loop-at.invariant.rest)
