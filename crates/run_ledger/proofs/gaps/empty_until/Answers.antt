use Rattle.std.proofs.Common.{◌∙◌, sym, ap, arith}
use Rattle.std.proofs.lemmas.Option.{unwrap_or-slice_get}
use Rattle.cf_timed.proofs.Numbered.{filled_next, set_length}
use Rattle.run_ledger.specs.GapCounts.{gaps_at, no_gaps, with_gap}
use Rattle.run_ledger.specs.declared.gaps.StageGaps.{StageGaps}
use Rattle.run_ledger.proofs.gaps.empty_until.Goals as goal

pub loop-i-preserved : goal.loop-i-preserved
loop-i-preserved c =
    let size = c.loop-i.invariant.size in
    record {
      empty = filled_next (λ i. (with_gap (gaps_at c.args.gaps.now i) c.args.end).empty)
          c.loop-i.empty c.loop-i.i c.with_gap.result.empty c.loop-i.invariant.empty (omega (arith, size, c.loop-i-test.true))
          (ap (λ (g : StageGaps). g.empty) c.with_gap.ensures
          ∙ ap (λ (g : StageGaps). (with_gap g c.args.end).empty) (sym (unwrap_or-slice_get c.args.gaps.now c.loop-i.i no_gaps)));
      size = set_length c.loop-i.empty c.loop-i.i c.with_gap.result.empty ∙ size;
    }
