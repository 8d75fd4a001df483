use Rattle.std.proofs.Common.{◌∙◌, sym, ap, ℕ, Bool, get_or, arith}
use Rattle.std.proofs.lemmas.Option.{unwrap_or-slice_get}
use Rattle.cf_timed.specs.Numbers.{number_at}
use Rattle.run_ledger.specs.Using.{uses_siding}
use Rattle.run_ledger.specs.Ledgers.{plus_if}
use Rattle.cf_timed.proofs.Numbered.{filled_next, set_length}
use Rattle.run_ledger.proofs.charging.charge_sidings.Goals as goal

pub loop-k-preserved : goal.loop-k-preserved
loop-k-preserved c =
    let size = c.loop-k.invariant.size in
    record {
      charged = filled_next (λ k. plus_if (uses_siding c.args.layout.now k c.args.mv) (number_at c.args.busy.now k) c.args.ticks)
          c.loop-k.charged c.loop-k.k c.plus_if.result c.loop-k.invariant.charged (omega (arith, size, c.loop-k-test.true))
          (c.plus_if.ensures
          ∙ ap (λ (b : Bool). plus_if b (get_or c.args.busy.now c.loop-k.k 0) c.args.ticks) c.uses_siding.ensures
          ∙ ap (λ (n : ℕ). plus_if (uses_siding c.args.layout.now c.loop-k.k c.args.mv) n c.args.ticks)
          (sym (unwrap_or-slice_get c.args.busy.now c.loop-k.k 0)));
      size = set_length c.loop-k.charged c.loop-k.k c.plus_if.result ∙ size;
    }
