use Rattle.std.proofs.Common.{◌++◌, ◌∙◌, ap}
use Rattle.cf_bind.specs.MoveTexts.{move_line}
use Rattle.texts.specs.Lines.{line}
use Rattle.cf_report.specs.Lines.{numbered_move}
use Rattle.cf_report.proofs.Puttings.{puts-again, puts-stopped}
use Rattle.cf_report.proofs.lines.put_move.Goals as goal

pub returns-in_err-put_text : goal.returns-in_err-put_text
unfolding numbered_move
returns-in_err-put_text g c =
    puts-stopped (line (move_line c.args.mv)) (numbered_move c.args.n c.args.mv) c.in_err-put_text.was
    (ap (λ text. text ++ (line (move_line c.args.mv))) (c.bytes.ensures ∙ c.move_number-page.ensures)) c.from_residual.ensures.0 c.put_text.ensures

pub returns : goal.returns
unfolding numbered_move
returns g c =
    puts-again (numbered_move c.args.n c.args.mv) c.in_ok-put_text.was (ap (λ text. text ++ (line (move_line c.args.mv))) (c.bytes.ensures
    ∙ c.move_number-page.ensures)) c.put_text.ensures c.put_move_text.ensures
