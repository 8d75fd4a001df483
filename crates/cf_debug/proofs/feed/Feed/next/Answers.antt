use Rattle.std.proofs.Common.{refl, sym, ◌∙◌}
use Rattle.cf_debug.specs.Cutting.{feeding}
use Rattle.cf_debug.proofs.Cutting.{feeds-end, feeds-fault, feeds-taken, feeds-used}
use Rattle.cf_debug.proofs.feed.Feed.next.Goals as goal

pub returns-then-not-is_used-clause-feeds : goal.returns-then-not-is_used-clause-feeds
returns-then-not-is_used-clause-feeds g c =
    feeds-used _ _ _ _ c.use_byte.ensures.byte refl c.use_byte.ensures.few refl c.requires.going

pub returns-in-Ok-eq0-clause-feeds : goal.returns-in-Ok-eq0-clause-feeds
returns-in-Ok-eq0-clause-feeds g c =
    feeds-end _ _ _ _ (c.is_used.ensures.yes c.if-not-is_used.false) (c.in-Ok-eq0.ensures.end c.in-Ok-eq0.field-0-test) c.in-Ok-eq0.ensures.taken
    (sym c.in-Ok-eq0.ensures.count ∙ c.in-Ok-eq0.field-0-test) c.in-Ok-eq0.ensures.left
    _ c.in-Ok-eq0.field-0-test c.in-Ok-eq0.ensures.ended

pub returns-in-Ok-clause-feeds : goal.returns-in-Ok-clause-feeds
returns-in-Ok-clause-feeds g c =
    feeds-taken _ _ _ (feeding c.fill.new.self c.fill.new.commands) _ _ (c.is_used.ensures.yes c.if-not-is_used.false) c.in-Ok.ensures.taken
    c.in-Ok.ensures.left c.in-Ok.ensures.few c.use_byte-in-Ok.ensures.byte refl _ c.in-Ok.field-0-test.1 c.in-Ok.ensures.ended refl

pub returns-in-Err-clause-feeds : goal.returns-in-Err-clause-feeds
returns-in-Err-clause-feeds g c = feeds-fault _ _ _ _ (c.is_used.ensures.yes c.if-not-is_used.false) c.in-Err.ensures.failed.0 c.in-Err.ensures.failed.1
