-- The first line, what follows it, the counts and the rest follow one another.
use Rattle.cf_report.proofs.Puttings.{put-nothing, has-more, has-last, has-failed, failed-more}
use Rattle.cli_conform.specs.LogLines.{log_closing}
use Rattle.cli_conform.proofs.closing.put_closing.Goals as goal

pub returns-in_err-put_head : goal.returns-in_err-put_head
unfolding log_closing
returns-in_err-put_head g c =
    let bad = c.from_residual.ensures.0 in
    failed-more _ _ bad (failed-more _ _ bad (failed-more _ _ bad (has-failed _ c.in_err-put_head.was bad c.put_head.ensures)))

pub returns-in_err-put_help : goal.returns-in_err-put_help
unfolding log_closing
returns-in_err-put_help g c =
    let bad = c.from_residual-in_err-put_help.ensures.0 in
    let head = has-more c.in_ok-put_head.was (put-nothing _ _) c.put_head.ensures in
    failed-more _ _ bad (failed-more _ _ bad (has-last head (has-failed _ c.in_err-put_help.was bad c.put_help.ensures)))

pub returns-in_err-put_counts : goal.returns-in_err-put_counts
unfolding log_closing
returns-in_err-put_counts g c =
    let bad = c.from_residual-in_err-put_counts.ensures.0 in
    let head = has-more c.in_ok-put_head.was (put-nothing _ _) c.put_head.ensures in
    let help = has-more c.in_ok-put_help.was head c.put_help.ensures in
    failed-more _ _ bad (has-last help (has-failed _ c.in_err-put_counts.was bad (rw c.retired.ensures at c.put_counts.ensures)))

pub returns : goal.returns
unfolding log_closing
returns g c =
    let head = has-more c.in_ok-put_head.was (put-nothing _ _) c.put_head.ensures in
    let help = has-more c.in_ok-put_help.was head c.put_help.ensures in
    has-last (has-more c.in_ok-put_counts.was help (rw c.retired.ensures at c.put_counts.ensures)) c.put_rest.ensures
