-- What was written so far comes before the next part of the picture.
use Rattle.order_report.specs.Drawing.{parts_text}
use Rattle.cf_report.proofs.Puttings.{put-nothing, has-more, has-last, has-failed, failed-more}
use Rattle.order_report.proofs.picture.put_parts.Goals as goal

pub returns-in_err-put_lane : goal.returns-in_err-put_lane
unfolding parts_text
returns-in_err-put_lane g c =
    let bad = c.from_residual-in_err-put_lane.ensures.0 in
    let fetch = has-more c.in_ok-put_fetch.was (put-nothing _ _) c.put_fetch.ensures in
    failed-more _ _ bad (failed-more _ _ bad (failed-more _ _ bad (has-last fetch (has-failed _ c.in_err-put_lane.was bad c.put_lane.ensures))))

pub returns-in_err-put_kept : goal.returns-in_err-put_kept
unfolding parts_text
returns-in_err-put_kept g c =
    let bad = c.from_residual-in_err-put_kept.ensures.0 in
    let fetch = has-more c.in_ok-put_fetch.was (put-nothing _ _) c.put_fetch.ensures in
    let lane = has-more c.in_ok-put_lane.was fetch c.put_lane.ensures in
    failed-more _ _ bad (failed-more _ _ bad (has-last lane (has-failed _ c.in_err-put_kept.was bad c.put_kept.ensures)))

pub returns-in_err-put_stages : goal.returns-in_err-put_stages
unfolding parts_text
returns-in_err-put_stages g c =
    let bad = c.from_residual-in_err-put_stages.ensures.0 in
    let fetch = has-more c.in_ok-put_fetch.was (put-nothing _ _) c.put_fetch.ensures in
    let lane = has-more c.in_ok-put_lane.was fetch c.put_lane.ensures in
    let kept = has-more c.in_ok-put_kept.was lane c.put_kept.ensures in
    failed-more _ _ bad (has-last kept (has-failed _ c.in_err-put_stages.was bad c.put_stages.ensures))

pub returns : goal.returns
unfolding parts_text
returns g c =
    let fetch = has-more c.in_ok-put_fetch.was (put-nothing _ _) c.put_fetch.ensures in
    let lane = has-more c.in_ok-put_lane.was fetch c.put_lane.ensures in
    let kept = has-more c.in_ok-put_kept.was lane c.put_kept.ensures in
    let stages = has-more c.in_ok-put_stages.was kept c.put_stages.ensures in
    has-last stages c.put_sidings.ensures
