use Rattle.cf_report.proofs.Puttings.{put-nothing, has-more, has-last, has-failed, failed-more}
use Rattle.cli_orders.proofs.wrong.put_pair.Goals as goal

pub returns-in_err-put_named : goal.returns-in_err-put_named
returns-in_err-put_named g c =
    let bad = c.from_residual.ensures.0 in
    failed-more _ _ bad (has-failed _ c.in_err-put_named.was bad c.put_named.ensures)

pub returns : goal.returns
returns g c =
    has-last (has-more c.in_ok-put_named.was (put-nothing _ _) c.put_named.ensures) c.put_named-2.ensures
