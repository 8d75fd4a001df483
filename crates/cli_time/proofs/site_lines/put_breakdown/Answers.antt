-- The lines of the stages, of the sidings, of the moves, of the classes and of the chain follow one another.
use Rattle.cli_time.specs.SiteLines.{breakdown_text}
use Rattle.cf_report.proofs.Puttings.{put-nothing, has-more, has-last, has-failed, failed-more}
use Rattle.cli_time.proofs.site_lines.put_breakdown.Goals as goal

pub returns-in_err-put_stages : goal.returns-in_err-put_stages
unfolding breakdown_text
returns-in_err-put_stages g c =
    let bad = c.from_residual.ensures.0 in
    failed-more _ _ bad (failed-more _ _ bad (failed-more _ _ bad (failed-more _ _ bad
    (has-failed _ c.in_err-put_stages.was bad c.put_stages.ensures))))

pub returns-in_err-put_sidings : goal.returns-in_err-put_sidings
unfolding breakdown_text
returns-in_err-put_sidings g c =
    let bad = c.from_residual-in_err-put_sidings.ensures.0 in
    let stages = has-more c.in_ok-put_stages.was (put-nothing _ _) c.put_stages.ensures in
    failed-more _ _ bad (failed-more _ _ bad (failed-more _ _ bad (has-last stages (has-failed _ c.in_err-put_sidings.was bad c.put_sidings.ensures))))

pub returns-in_err-put_kinds : goal.returns-in_err-put_kinds
unfolding breakdown_text
returns-in_err-put_kinds g c =
    let bad = c.from_residual-in_err-put_kinds.ensures.0 in
    let stages = has-more c.in_ok-put_stages.was (put-nothing _ _) c.put_stages.ensures in
    let sidings = has-more c.in_ok-put_sidings.was stages c.put_sidings.ensures in
    failed-more _ _ bad (failed-more _ _ bad (has-last sidings (has-failed _ c.in_err-put_kinds.was bad c.put_kinds.ensures)))

pub returns-in_err-put_classes : goal.returns-in_err-put_classes
unfolding breakdown_text
returns-in_err-put_classes g c =
    let bad = c.from_residual-in_err-put_classes.ensures.0 in
    let stages = has-more c.in_ok-put_stages.was (put-nothing _ _) c.put_stages.ensures in
    let sidings = has-more c.in_ok-put_sidings.was stages c.put_sidings.ensures in
    let moves = has-more c.in_ok-put_kinds.was sidings c.put_kinds.ensures in
    failed-more _ _ bad (has-last moves (has-failed _ c.in_err-put_classes.was bad c.put_classes.ensures))

pub returns : goal.returns
unfolding breakdown_text
returns g c =
    let stages = has-more c.in_ok-put_stages.was (put-nothing _ _) c.put_stages.ensures in
    let sidings = has-more c.in_ok-put_sidings.was stages c.put_sidings.ensures in
    let moves = has-more c.in_ok-put_kinds.was sidings c.put_kinds.ensures in
    let classes = has-more c.in_ok-put_classes.was moves c.put_classes.ensures in
    has-last classes c.put_kinds-2.ensures
