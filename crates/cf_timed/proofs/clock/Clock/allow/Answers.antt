use Rattle.std.proofs.Common.{◌≡◌, max, arith}
use Rattle.cf_timed.proofs.SiteTimes.{allowed_within}
use Rattle.cf_timed.proofs.clock.Clock.allow.Goals as goal

pub invariant_of-self : goal.invariant_of-self
invariant_of-self c =
    let later : max c.self.inside.latest c.args.time ≡ c.args.time = omega (arith, c.if-self-time.true) in
    rw later at (allowed_within _ c.args.time c.self.invariant)
