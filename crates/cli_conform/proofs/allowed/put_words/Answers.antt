use Rattle.std.proofs.Common.{◌++◌, ◌∙◌, codes, ap}
use Rattle.cf_bind.specs.MoveTexts.{move_line}
use Rattle.cf_report.proofs.Puttings.{failed-more, has-failed, puts-again}
use Rattle.cli_conform.proofs.allowed.put_words.Goals as goal

pub returns-in_err-put_all : goal.returns-in_err-put_all
returns-in_err-put_all g c =
    let bad = c.from_residual.ensures.0 in
    failed-more {x = codes "allowed "} (move_line c.args.mv) _ bad
    (has-failed _ c.in_err-put_all.was bad (record { all = c.put_all.ensures.all; front = c.put_all.ensures.front; cause = c.put_all.ensures.cause }))

pub returns : goal.returns
returns g c =
    puts-again (codes "allowed " ++ move_line c.args.mv) c.in_ok-put_all.was
    (ap (λ text. codes "allowed " ++ text) (c.bytes.ensures ∙ c.move_text.ensures))
    (record { all = c.put_all.ensures.all; front = c.put_all.ensures.front; cause = c.put_all.ensures.cause })
    (record { all = c.put_all-2.ensures.all; front = c.put_all-2.ensures.front; cause = c.put_all-2.ensures.cause })
