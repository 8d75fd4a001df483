use Rattle.std.proofs.Common.{◌≡◌, ◌∙◌, ap, ℕ, cond, arith}
use Rattle.std.specs.Prelude.{◌==◌}
use Rattle.cf_layout.specs.Layout.{Plan, launch_stage}
use Rattle.cf_index.specs.Sites.{way_in}
use Rattle.cf_timed.specs.Clocks.{time_at}
use Rattle.cf_timed.proofs.SiteTimes.{greatest_more}
use Rattle.cf_timed.proofs.clock.Clock.entries.Goals as goal

pub loop-k-preserved : goal.loop-k-preserved
loop-k-preserved c =
    let stage = c.launch_stage.ensures ∙ ap (λ (plan : Plan). launch_stage plan c.loop-k.k) c.layout-layout.ensures in
    let taken : c.cell_if.result ≡ cond (launch_stage c.args.self.now.plan c.loop-k.k == c.args.i) (time_at c.args.self.now (way_in c.loop-k.k)) 0 =
    c.cell_if.ensures ∙ ap (λ (n : ℕ). cond (n == c.args.i) (time_at c.args.self.now (way_in c.loop-k.k)) 0) stage in
    let more = greatest_more c.args.self.now way_in (λ k. launch_stage c.args.self.now.plan k == c.args.i) c.loop-k.k in
    omega (arith, c.loop-k.invariant, taken, more, c.max-most.ensures)
