use Rattle.std.proofs.Common.{arith}
use Rattle.cf_index.specs.Sites.{used}
use Rattle.cf_timed.proofs.SiteTimes.{reach_within}
use Rattle.cf_timed.proofs.clock.Clock.finish.Goals as goal

pub overflow_add-result : goal.overflow_add-result
overflow_add-result c =
    let r = reach_within c.args.self.now (used c.args.self.now.plan c.args.mv) c.greatest-latest.ensures.none_later in
    omega (arith, r, c.reach.ensures, c.delay.ensures.few, c.requires.early)
