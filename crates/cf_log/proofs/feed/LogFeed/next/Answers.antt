use Rattle.std.proofs.Common.{arith, ap, length, subst, sym, refl, ◌∙◌, ◌≤◌, ℕ, List}
use Rattle.cf_log.proofs.Holding.{end-cause, ended-takes, feeds-end, feeds-fault, feeds-line, feeds-long, same-held, takes-same}
use Rattle.cf_log.proofs.feed.LogFeed.next.Goals as goal

pub returns-then-rest-ge-TOO_MANY-clause-feeds : goal.returns-then-rest-ge-TOO_MANY-clause-feeds
returns-then-rest-ge-TOO_MANY-clause-feeds g c =
    feeds-long _ _ _ _ _ c.loop-self.invariant.takes (c.cut.ensures.no c.loop-self-test.true)
    (omega (arith, c.if-rest-ge-TOO_MANY.true, ap length c.rest.ensures.rest, ap length (c.cut.ensures.still c.loop-self-test.true)))
    (c.use_rest.ensures.line ∙ c.cut.ensures.still c.loop-self-test.true) c.use_rest.ensures.rest

pub returns-in-Ok-eq0-clause-feeds : goal.returns-in-Ok-eq0-clause-feeds
returns-in-Ok-eq0-clause-feeds g c =
    let takes = takes-same _ _ _ _ _ c.loop-self.invariant.takes (c.cut.ensures.still c.loop-self-test.true) in
    feeds-end _ _ _ _ _ _ c.finish.result (ended-takes _ _ _ _ _ _ _ takes c.in-Ok-eq0.ensures.taken c.in-Ok-eq0.field-0-test
    (c.in-Ok-eq0.ensures.end c.in-Ok-eq0.field-0-test))
    (c.cut.ensures.no c.loop-self-test.true) (same-held _ _ _ _ _ c.in-Ok-eq0.ensures.taken c.in-Ok-eq0.field-0-test
    ∙ c.cut.ensures.still c.loop-self-test.true) c.finish.ensures

pub returns-in-Ok-eq0-clause-cause : goal.returns-in-Ok-eq0-clause-cause
returns-in-Ok-eq0-clause-cause g c = end-cause _ _ _ _ c.finish.result c.finish.ensures (c.in-Ok-eq0.ensures.cause.still ∙ c.loop-self.invariant.still)

pub returns-in-Err-clause-feeds : goal.returns-in-Err-clause-feeds
returns-in-Err-clause-feeds g c =
    feeds-fault _ _ _ _ _ _ c.loop-self.invariant.takes (c.cut.ensures.no c.loop-self-test.true)
    (c.in-Err.ensures.failed.0 ∙ c.cut.ensures.still c.loop-self-test.true, c.in-Err.ensures.failed.1)

pub returns-clause-feeds : goal.returns-clause-feeds
returns-clause-feeds g c = feeds-line _ _ _ _ _ c.loop-self.invariant.takes (c.cut.ensures.yes c.loop-self-test.false) c.cut.ensures.few
