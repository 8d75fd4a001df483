-- The first node waits; all that wait are nodes.
use Rattle.std.proofs.Common.{◌<◌, ◌++◌, ◌∷◌, [], length, ap, subst, sym, ◌∙◌}
use Rattle.std.specs.List.{All}
use Rattle.std.proofs.lemmas.List.Elements.{All-cons, All-nil}
use Rattle.order_search.proofs.Sweeping.{not_swept, swept_on}
use Rattle.order_search.proofs.orders.settle_along_paths.Goals as goal

pub returns-in_err-push-clause-swept : goal.returns-in_err-push-clause-swept
returns-in_err-push-clause-swept c = not_swept c.args.rows.now c.args.counts.now

pub loop-init : goal.loop-init
loop-init c = record {
  as_many = c.requires.as_many;
  waiting = subst (All (λ number. number < length c.args.rows.now)) (sym (c.in_ok-push.ensures.items ∙ ap (λ l. l ++ 0 ∷ []) c.new-waiting.ensures.items))
      (All-cons (λ number. number < length c.args.rows.now) 0 [] c.requires.some (All-nil (λ number. number < length c.args.rows.now)));
  swept = not_swept c.args.rows.now c.args.counts.now;
}

pub returns-in_err-settle_last-clause-swept : goal.returns-in_err-settle_last-clause-swept
returns-in_err-settle_last-clause-swept c =
    swept_on c.args.rows.now c.args.counts.now c.loop.counts c.settle_last.new.counts c.loop.invariant.swept c.settle_last.ensures.swept

pub loop-preserved : goal.loop-preserved
loop-preserved c = record {
  as_many = c.settle_last.ensures.as_many;
  waiting = c.settle_last.ensures.waiting;
  swept = swept_on c.args.rows.now c.args.counts.now c.loop.counts c.settle_last.new.counts c.loop.invariant.swept c.settle_last.ensures.swept;
}
