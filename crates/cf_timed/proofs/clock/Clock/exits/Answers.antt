use Rattle.std.proofs.Common.{◌≡◌, ◌∙◌, ap, ℕ, cond, arith}
use Rattle.std.specs.Prelude.{◌==◌, ◌-◌}
use Rattle.cf_layout.specs.Layout.{Plan, recover_stage}
use Rattle.cf_layout.specs.Layout.{cells_of}
use Rattle.cf_semantics.specs.moves.Sites.{SidingCell}
use Rattle.cf_index.specs.Sites.{way_out}
use Rattle.cf_timed.specs.Clocks.{time_at}
use Rattle.cf_timed.proofs.SiteTimes.{greatest_more}
use Rattle.cf_timed.proofs.clock.Clock.exits.Goals as goal

pub loop-k-preserved : goal.loop-k-preserved
loop-k-preserved c =
    let stage = c.recover_stage.ensures ∙ ap (λ (plan : Plan). recover_stage plan c.loop-k.k) c.layout-layout.ensures in
    let last : c.saturating_sub-last.result ≡ cells_of c.args.self.now.plan c.loop-k.k - 1 = c.saturating_sub-last.ensures
    ∙ ap (λ (n : ℕ). n - 1) (c.cells_of.ensures ∙ ap (λ (plan : Plan). cells_of plan c.loop-k.k) c.layout-layout.ensures) in
    let taken : c.cell_if.result ≡ cond (recover_stage c.args.self.now.plan c.loop-k.k == c.args.i)
    (time_at c.args.self.now (way_out c.args.self.now.plan c.loop-k.k)) 0 =
    c.cell_if.ensures ∙ ap (λ (n : ℕ). cond (n == c.args.i) (time_at c.args.self.now (SidingCell c.loop-k.k c.saturating_sub-last.result)) 0) stage
    ∙ ap (λ (n : ℕ). cond (recover_stage c.args.self.now.plan c.loop-k.k == c.args.i) (time_at c.args.self.now (SidingCell c.loop-k.k n)) 0) last in
    let more = greatest_more c.args.self.now (way_out c.args.self.now.plan) (λ k. recover_stage c.args.self.now.plan k == c.args.i) c.loop-k.k in
    omega (arith, c.loop-k.invariant, taken, more, c.max-most.ensures)
