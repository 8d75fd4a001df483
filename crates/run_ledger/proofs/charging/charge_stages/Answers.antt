use Rattle.std.proofs.Common.{◌∙◌, sym, ap, ℕ, Bool, get_or, arith}
use Rattle.std.proofs.lemmas.Option.{unwrap_or-slice_get}
use Rattle.cf_timed.specs.Numbers.{number_at}
use Rattle.run_ledger.specs.Using.{uses_stage}
use Rattle.run_ledger.specs.Ledgers.{plus_if}
use Rattle.cf_timed.proofs.Numbered.{filled_next, set_length}
use Rattle.run_ledger.proofs.charging.charge_stages.Goals as goal

pub loop-i-preserved : goal.loop-i-preserved
loop-i-preserved c =
    let size = c.loop-i.invariant.size in
    record {
      charged = filled_next (λ i. plus_if (uses_stage c.args.layout.now i c.args.mv) (number_at c.args.busy.now i) c.args.ticks)
          c.loop-i.charged c.loop-i.i c.plus_if.result c.loop-i.invariant.charged (omega (arith, size, c.loop-i-test.true))
          (c.plus_if.ensures
          ∙ ap (λ (b : Bool). plus_if b (get_or c.args.busy.now c.loop-i.i 0) c.args.ticks) c.uses_stage.ensures
          ∙ ap (λ (n : ℕ). plus_if (uses_stage c.args.layout.now c.loop-i.i c.args.mv) n c.args.ticks)
          (sym (unwrap_or-slice_get c.args.busy.now c.loop-i.i 0)));
      size = set_length c.loop-i.charged c.loop-i.i c.plus_if.result ∙ size;
    }
