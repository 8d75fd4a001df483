use Rattle.std.proofs.Common.{ap, arith}
use Rattle.cf_timed.specs.Clocks.{SiteTimes}
use Rattle.cf_timed.proofs.SiteTimes.{put_cell_within, row-read}
use Rattle.cf_timed.proofs.clock.Clock.put_cell.Goals as goal

pub invariant_of-self : goal.invariant_of-self
invariant_of-self c =
    let l = ap (λ (t : SiteTimes). t.latest) c.self.view_is in
    let e = c.put_in.ensures in
    let r = row-read c.self.inside.cells c.args.k in
    rw e (rw (← r) (put_cell_within _ c.args.k c.args.c c.args.time c.self.invariant (omega (arith, l, c.requires))))
