use Rattle.std.proofs.Common.{ℕ, List, ◌++◌, ◌∙◌, ap, refl}
use Rattle.cf_bind.specs.MoveTexts.{move_line}
use Rattle.texts.specs.Lines.{line, newline}
use Rattle.cf_report.proofs.Puttings.{puts-again, puts-stopped}
use Rattle.cf_debug.specs.Replies.{back_text}
use Rattle.cf_debug.proofs.replies.put_back.Goals as goal

pub returns-in_err-put : goal.returns-in_err-put
unfolding back_text
returns-in_err-put g c = puts-stopped (line (move_line c.args.mv)) (back_text c.args.mv) c.in_err-put.was refl c.from_residual.ensures.0 c.put.ensures

pub returns-in_err-put-2 : goal.returns-in_err-put-2
unfolding back_text
returns-in_err-put-2 g c =
    puts-again (back_text c.args.mv) c.in_ok-put.was refl c.put.ensures
    (puts-stopped newline (line (move_line c.args.mv)) c.in_err-put-2.was (ap (λ (text : List ℕ). text ++ newline) (c.bytes.ensures ∙ c.move_text.ensures))
    c.from_residual-in_err-put-2.ensures.0 c.put-2.ensures)

pub returns : goal.returns
unfolding back_text
returns g c =
    puts-again (back_text c.args.mv) c.in_ok-put.was refl c.put.ensures
    (puts-again (line (move_line c.args.mv)) c.in_ok-put-2.was (ap (λ (text : List ℕ). text ++ newline) (c.bytes.ensures ∙ c.move_text.ensures)) c.put-2.ensures
    c.put-3.ensures)
