-- The move's line, the retirement's and the picture follow one another.
use Rattle.cf_report.proofs.Puttings.{put-nothing, has-more, has-last, has-failed, failed-more}
use Rattle.cf_run.specs.Made.{shown}
use Rattle.cf_run.proofs.showing.put_lines.Goals as goal

pub returns-in_err-put_retirement_and_progress-in-Moves : goal.returns-in_err-put_retirement_and_progress-in-Moves
unfolding shown
returns-in_err-put_retirement_and_progress-in-Moves g c =
    let bad = c.from_residual-in_err-put_retirement_and_progress-in-Moves.ensures.0 in
    let moved = has-more c.in_ok-put_move-in-Moves.was (put-nothing _ _) c.put_move.ensures in
    rw c.in-Moves.is (failed-more _ _ bad (has-last moved (has-failed _ c.in_err-put_retirement_and_progress-in-Moves.was bad
    (rw c.retired-retired.ensures at c.put_retirement_and_progress-in-Moves.ensures))))

pub returns-in_ok-put_retirement_and_progress-in-Moves : goal.returns-in_ok-put_retirement_and_progress-in-Moves
unfolding shown
returns-in_ok-put_retirement_and_progress-in-Moves g c =
    let moved = has-more c.in_ok-put_move-in-Moves.was (put-nothing _ _) c.put_move.ensures in
    let line = has-more c.in_ok-put_retirement_and_progress-in-Moves.was moved
    (rw c.retired-retired.ensures at c.put_retirement_and_progress-in-Moves.ensures) in
    rw c.in-Moves.is (has-last line c.put_picture.ensures)
