use Rattle.std.proofs.Common.{◌++◌, ◌∙◌, ap}
use Rattle.cf_bind.specs.MoveTexts.{move_line}
use Rattle.texts.specs.Lines.{line, newline}
use Rattle.cf_report.proofs.Puttings.{puts-again}
use Rattle.cf_timed.proofs.move_lines.put_move.Goals as goal

pub returns : goal.returns
returns g c =
    puts-again (line (move_line c.args.mv)) c.in_ok-put_all.was (ap (λ text. text ++ newline) (c.bytes.ensures ∙ c.move_text.ensures))
    (record { all = c.put_all.ensures.all; front = c.put_all.ensures.front; cause = c.put_all.ensures.cause })
    (record { all = c.put_all-2.ensures.all; front = c.put_all-2.ensures.front; cause = c.put_all-2.ensures.cause })
