-- The first line, what retired, the count and the rest follow one another.
use Rattle.cf_report.proofs.Puttings.{put-nothing, has-more, has-last, has-failed, failed-more}
use Rattle.cli_orders.specs.OrderTexts.{wrong_text}
use Rattle.cli_orders.proofs.wrong.put_parts.Goals as goal

pub returns-in_err-put_head : goal.returns-in_err-put_head
unfolding wrong_text
returns-in_err-put_head g c =
    let bad = c.from_residual.ensures.0 in
    failed-more _ _ bad (failed-more _ _ bad (failed-more _ _ bad (has-failed _ c.in_err-put_head.was bad c.put_head.ensures)))

pub returns-in_err-put_both : goal.returns-in_err-put_both
unfolding wrong_text
returns-in_err-put_both g c =
    let bad = c.from_residual-in_err-put_both.ensures.0 in
    let head = has-more c.in_ok-put_head.was (put-nothing _ _) c.put_head.ensures in
    failed-more _ _ bad (failed-more _ _ bad (has-last head (has-failed _ c.in_err-put_both.was bad c.put_both.ensures)))

pub returns-in_err-put_count : goal.returns-in_err-put_count
unfolding wrong_text
returns-in_err-put_count g c =
    let bad = c.from_residual-in_err-put_count.ensures.0 in
    let head = has-more c.in_ok-put_head.was (put-nothing _ _) c.put_head.ensures in
    let both = has-more c.in_ok-put_both.was head c.put_both.ensures in
    failed-more _ _ bad (has-last both (has-failed _ c.in_err-put_count.was bad c.put_count.ensures))

pub returns : goal.returns
unfolding wrong_text
returns g c =
    let head = has-more c.in_ok-put_head.was (put-nothing _ _) c.put_head.ensures in
    let both = has-more c.in_ok-put_both.was head c.put_both.ensures in
    has-last (has-more c.in_ok-put_count.was both c.put_count.ensures) c.put_state_rest.ensures
