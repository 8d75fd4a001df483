use Rattle.std.proofs.Common.{◌++◌, ◌∙◌, ap}
use Rattle.cf_bind.specs.MoveTexts.{move_line}
use Rattle.texts.specs.Lines.{line}
use Rattle.cf_report.proofs.Puttings.{puts-again}
use Rattle.cf_timed.specs.MoveLines.{timed_line}
use Rattle.cf_timed.proofs.move_lines.put_timed.Goals as goal

pub returns : goal.returns
unfolding timed_line
returns g c =
    puts-again (timed_line c.args.number c.args.done.now) c.in_ok-put_all.was
    (ap (λ text. text ++ line (move_line c.args.done.now.mv)) (c.bytes.ensures ∙ c.place_page-page.ensures))
    (record { all = c.put_all.ensures.all; front = c.put_all.ensures.front; cause = c.put_all.ensures.cause }) c.put_move.ensures
