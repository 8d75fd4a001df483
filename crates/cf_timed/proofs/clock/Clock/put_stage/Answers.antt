use Rattle.std.proofs.Common.{ap, arith}
use Rattle.cf_timed.specs.Clocks.{SiteTimes}
use Rattle.cf_timed.proofs.SiteTimes.{put_stage_within}
use Rattle.cf_timed.proofs.clock.Clock.put_stage.Goals as goal

pub invariant_of-self : goal.invariant_of-self
invariant_of-self c =
    let l = ap (λ (t : SiteTimes). t.latest) c.self.view_is in
    put_stage_within _ c.args.i c.args.time c.self.invariant (omega (arith, l, c.requires))
