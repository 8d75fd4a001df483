use Rattle.std.proofs.Common.{refl}
use Rattle.cf_report.proofs.Puttings.{failed-more, has-failed, puts-again}
use Rattle.cli_conform.specs.LogLines.{allowed_line}
use Rattle.cli_conform.proofs.allowed.put_allowed.Goals as goal

pub returns-in_err-put_words : goal.returns-in_err-put_words
unfolding allowed_line
returns-in_err-put_words g c =
    let bad = c.from_residual.ensures.0 in
    failed-more _ _ bad (has-failed _ c.in_err-put_words.was bad c.put_words.ensures)

pub returns : goal.returns
unfolding allowed_line
returns g c =
    puts-again (allowed_line c.args.mv) c.in_ok-put_words.was refl c.put_words.ensures
    (record { all = c.put_all.ensures.all; front = c.put_all.ensures.front; cause = c.put_all.ensures.cause })
