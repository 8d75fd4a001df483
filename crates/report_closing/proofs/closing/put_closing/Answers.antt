-- The rest follows the head.
use Rattle.cf_report.proofs.Puttings.{put-nothing, has-more, has-last, has-failed, failed-more}
use Rattle.report_closing.specs.Closing.{closing}
use Rattle.report_closing.proofs.closing.put_closing.Goals as goal

pub returns-in_err-put_head : goal.returns-in_err-put_head
unfolding closing
returns-in_err-put_head g c =
    let bad = c.from_residual.ensures.0 in
    failed-more _ _ bad (has-failed _ c.in_err-put_head.was bad c.put_head.ensures)

pub returns : goal.returns
unfolding closing
returns g c = has-last (has-more c.in_ok-put_head.was (put-nothing _ _) c.put_head.ensures) c.put_rest.ensures
