-- The line of the next siding follows those so far.
use Rattle.std.proofs.Common.{length, refl, arith}
use Rattle.cf_report.proofs.Puttings.{has-front, has-more, has-same, put-all}
use Rattle.cli_time.specs.SiteLines.{siding_use_line, siding_numbers}
use Rattle.cli_time.proofs.Listed.{length-counted, numbered-at, texts-all, texts-after, texts-next}
use Rattle.cli_time.proofs.site_lines.put_sidings.Goals as goal

pub returns-in_err-put_siding : goal.returns-in_err-put_siding
returns-in_err-put_siding g c =
    let made = c.args.made.now in
    let is = c.siding_count-siding-end.ensures in
    has-front _ c.in_err-put_siding.was c.from_residual.ensures.0
    (texts-after (siding_use_line made) (siding_numbers made) c.loop-siding.siding c.loop-siding.siding
    (numbered-at (length made.layout.sidings) c.loop-siding.siding (omega (arith, is, c.loop-siding-test.true))))
    c.loop-siding.invariant c.put_siding.ensures

pub loop-siding-preserved : goal.loop-siding-preserved
loop-siding-preserved g c =
    let made = c.args.made.now in
    let is = c.siding_count-siding-end.ensures in
    has-same _ (texts-next (siding_use_line made) (siding_numbers made) c.loop-siding.siding c.loop-siding.siding
    (numbered-at (length made.layout.sidings) c.loop-siding.siding (omega (arith, is, c.loop-siding-test.true))))
    (has-more c.in_ok-put_siding.was c.loop-siding.invariant c.put_siding.ensures)

pub returns : goal.returns
returns g c =
    let made = c.args.made.now in
    let is = c.siding_count-siding-end.ensures in
    let size = length-counted 0 (length made.layout.sidings) in
    put-all _ _ refl (texts-all (siding_use_line made) (siding_numbers made) c.loop-siding.siding (omega (arith, is, size, c.loop-siding-test.false)))
    c.loop-siding.invariant
