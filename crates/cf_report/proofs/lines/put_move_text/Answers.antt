use Rattle.std.proofs.Common.{◌++◌, ◌∙◌, ap}
use Rattle.cf_bind.specs.MoveTexts.{move_line}
use Rattle.texts.specs.Lines.{line, newline}
use Rattle.cf_report.proofs.Puttings.{puts-again, puts-stopped}
use Rattle.cf_report.proofs.lines.put_move_text.Goals as goal

pub returns-in_err-put_text : goal.returns-in_err-put_text
returns-in_err-put_text g c =
    puts-stopped (newline) (line (move_line c.args.mv)) c.in_err-put_text.was (ap (λ text. text ++ newline) (c.bytes.ensures ∙ c.move_text.ensures))
    c.from_residual.ensures.0 c.put_text.ensures

pub returns : goal.returns
returns g c =
    puts-again (line (move_line c.args.mv)) c.in_ok-put_text.was (ap (λ text. text ++ newline) (c.bytes.ensures ∙ c.move_text.ensures)) c.put_text.ensures
    c.put_text-2.ensures
