use Rattle.std.proofs.Common.{refl}
use Rattle.cf_debug.proofs.Cutting.{one-failed, one-more, one-none}
use Rattle.cf_debug.proofs.feed.Feed.one_more.Goals as goal

pub returns-in-Ok-eq0-clause-feeds : goal.returns-in-Ok-eq0-clause-feeds
returns-in-Ok-eq0-clause-feeds g c =
    one-none _ _ _ _ _ _ _ refl c.in-Ok-eq0.ensures.bytes c.in-Ok-eq0.field-0-test c.requires.none refl c.in-Ok-eq0.ensures.left c.in-Ok-eq0.ensures.ended

pub returns-in-Ok-clause-feeds : goal.returns-in-Ok-clause-feeds
returns-in-Ok-clause-feeds g c =
    one-more _ _ _ _ _ _ _ refl c.take.auto.into c.in-Ok.ensures.bytes c.in-Ok.field-0-test.1 c.requires.none c.requires.spent c.requires.going refl
    c.in-Ok.ensures.left c.in-Ok.ensures.ended

pub returns-in-Err-clause-feeds : goal.returns-in-Err-clause-feeds
returns-in-Err-clause-feeds g c =
    one-failed _ _ _ _ _ _ _ c.in-Err.ensures.bytes c.requires.none refl c.in-Err.ensures.failed_left c.in-Err.ensures.failed_ended
