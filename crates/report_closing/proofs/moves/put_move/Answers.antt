use Rattle.std.proofs.Common.{◌++◌, ◌∙◌, ap}
use Rattle.cf_bind.specs.MoveTexts.{move_line}
use Rattle.cf_report.proofs.Puttings.{puts-again}
use Rattle.report_closing.proofs.moves.put_move.Goals as goal

pub returns : goal.returns
returns g c =
    puts-again (move_line c.args.mv ++ c.args.after.now) c.in_ok-put_all.was
    (ap (λ text. text ++ c.args.after.now) (c.bytes.ensures ∙ c.move_text.ensures))
    (record { all = c.put_all.ensures.all; front = c.put_all.ensures.front; cause = c.put_all.ensures.cause })
    (record { all = c.put_all-2.ensures.all; front = c.put_all-2.ensures.front; cause = c.put_all-2.ensures.cause })
