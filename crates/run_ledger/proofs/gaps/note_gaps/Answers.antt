use Rattle.std.proofs.Common.{◌∙◌, sym, ap, arith}
use Rattle.std.proofs.lemmas.Option.{unwrap_or-slice_get}
use Rattle.cf_timed.proofs.Numbered.{filled_next, set_length}
use Rattle.run_ledger.specs.GapCounts.{gaps_after, gaps_at, no_gaps}
use Rattle.run_ledger.proofs.gaps.note_gaps.Goals as goal

pub loop-i-preserved : goal.loop-i-preserved
loop-i-preserved c =
    let size = c.loop-i.invariant.size in
    record {
      noted = filled_next (λ i. gaps_after c.args.layout.now c.args.done.now c.args.core.now.state i (gaps_at c.args.gaps.now i))
          c.loop-i.noted c.loop-i.i c.gaps_after.result c.loop-i.invariant.noted (omega (arith, size, c.loop-i-test.true))
          (c.gaps_after.ensures
          ∙ ap (gaps_after c.args.layout.now c.args.done.now c.args.core.now.state c.loop-i.i) (sym (unwrap_or-slice_get c.args.gaps.now c.loop-i.i no_gaps)));
      size = set_length c.loop-i.noted c.loop-i.i c.gaps_after.result ∙ size;
    }
