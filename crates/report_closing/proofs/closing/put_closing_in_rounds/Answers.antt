-- The number of rounds follows the head, and the rest follows that.
use Rattle.cf_report.proofs.Puttings.{put-nothing, has-more, has-last, has-failed, failed-more}
use Rattle.report_closing.specs.Closing.{closing_in_rounds}
use Rattle.report_closing.proofs.closing.put_closing_in_rounds.Goals as goal

pub returns-in_err-put_head : goal.returns-in_err-put_head
unfolding closing_in_rounds
returns-in_err-put_head g c =
    let bad = c.from_residual.ensures.0 in
    failed-more _ _ bad (failed-more _ _ bad (has-failed _ c.in_err-put_head.was bad c.put_head.ensures))

pub returns-in_err-put_rounds : goal.returns-in_err-put_rounds
unfolding closing_in_rounds
returns-in_err-put_rounds g c =
    let bad = c.from_residual-in_err-put_rounds.ensures.0 in
    let head = has-more c.in_ok-put_head.was (put-nothing _ _) c.put_head.ensures in
    failed-more _ _ bad (has-last head (has-failed _ c.in_err-put_rounds.was bad c.put_rounds.ensures))

pub returns : goal.returns
unfolding closing_in_rounds
returns g c =
    let head = has-more c.in_ok-put_head.was (put-nothing _ _) c.put_head.ensures in
    has-last (has-more c.in_ok-put_rounds.was head c.put_rounds.ensures) c.put_rest.ensures
