-- The line of the next class follows those so far.
use Rattle.std.proofs.Common.{length, refl, arith}
use Rattle.cf_semantics.specs.moves.Candidates.{counted_from}
use Rattle.run_ledger.specs.Latencies.{classes}
use Rattle.cf_report.proofs.Puttings.{has-front, has-more, has-same, put-all}
use Rattle.cli_time.specs.SiteLines.{class_line, classes_text}
use Rattle.cli_time.proofs.Listed.{length-counted, numbered-at, texts-all, texts-after, texts-next}
use Rattle.cli_time.proofs.class_lines.put_classes.Goals as goal

pub returns-in_err-put_class : goal.returns-in_err-put_class
unfolding classes_text
returns-in_err-put_class g c =
    let made = c.args.made.now in
    has-front _ c.in_err-put_class.was c.from_residual.ensures.0
    (texts-after (class_line made) (counted_from 0 (length classes)) c.loop-place.place c.loop-place.place
    (numbered-at (length classes) c.loop-place.place (omega (arith, c.loop-place-test.true))))
    c.loop-place.invariant c.put_class.ensures

pub loop-place-preserved : goal.loop-place-preserved
loop-place-preserved g c =
    let made = c.args.made.now in
    has-same _ (texts-next (class_line made) (counted_from 0 (length classes)) c.loop-place.place c.loop-place.place
    (numbered-at (length classes) c.loop-place.place (omega (arith, c.loop-place-test.true))))
    (has-more c.in_ok-put_class.was c.loop-place.invariant c.put_class.ensures)

pub returns : goal.returns
unfolding classes_text
returns g c =
    let made = c.args.made.now in
    let size = length-counted 0 (length classes) in
    put-all _ _ refl (texts-all (class_line made) (counted_from 0 (length classes)) c.loop-place.place (omega (arith, size, c.loop-place-test.false)))
    c.loop-place.invariant
