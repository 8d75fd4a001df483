use Rattle.std.proofs.Common.{◌∙◌, ◌+◌, ◌*◌, ap, ℕ, arith}
use Rattle.std.specs.Prelude.{◌==◌, ◌-◌}
use Rattle.cf_layout.specs.Layout.{recover_stage}
use Rattle.cf_index.specs.Sites.{way_out}
use Rattle.run_ledger.proofs.Placed.{places_next}
use Rattle.run_ledger.proofs.places.push_exits.Goals as goal

pub loop-k-preserved : goal.loop-k-preserved
loop-k-preserved c = record {
  places = places_next (way_out c.args.layout.now) (λ k. recover_stage c.args.layout.now k == c.args.i) c.loop-k.k _ _ _ _ _
      c.loop-k.invariant.places c.push_if.ensures.places (ap (λ (n : ℕ). n == c.args.i) c.recover_stage.ensures) (c.cell.ensures
      ∙ ap (λ (n : ℕ). 38 + 8 * c.loop-k.k + n) (c.saturating_sub-last.ensures ∙ ap (λ (n : ℕ). n - 1) c.cells_of.ensures));
  few = omega (arith, c.push_if.ensures.few, c.loop-k.invariant.few);
}
