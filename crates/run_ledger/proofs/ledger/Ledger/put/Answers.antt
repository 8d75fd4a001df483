use Rattle.std.proofs.Common.{◌∙◌, ◌+◌, ap, drop}
use Rattle.run_ledger.specs.Ledgers.{put_marks}
use Rattle.run_ledger.specs.declared.ledger.Ledger.{Ledger}
use Rattle.run_ledger.proofs.Marked.{others_next, put_next}
use Rattle.run_ledger.proofs.ledger.Ledger.put.Goals as goal

pub loop-place-preserved : goal.loop-place-preserved
loop-place-preserved c = record {
  marks = ap (λ (l : Ledger). put_marks c.args.mark l.marks (drop (c.loop-place.place-index + 1) c.args.places.now)) c.put_at.ensures
      ∙ put_next c.args.mark c.loop-place.self.marks c.args.places.now c.loop-place.place-index c.loop-place-test.true
      ∙ c.loop-place.invariant.marks;
  others = others_next c.args.self.now c.loop-place.self c.put_at.new.self _ c.loop-place.invariant.others c.put_at.ensures;
}
