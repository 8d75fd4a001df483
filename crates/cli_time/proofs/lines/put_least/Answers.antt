use Rattle.std.proofs.Common.{◌++◌, ap, codes, refl}
use Rattle.cf_report.proofs.Puttings.{puts-again, puts-stopped}
use Rattle.texts.specs.Lines.{line}
use Rattle.cli_arguments.specs.Views.{layout_of}
use Rattle.cli_time.specs.Asked.{layout_name}
use Rattle.cli_time.specs.Lines.{least_line}
use Rattle.cli_time.proofs.lines.put_least.Goals as goal

pub returns-in_err-put_all : goal.returns-in_err-put_all
returns-in_err-put_all g c =
    puts-stopped (line (layout_name (layout_of c.args.argument))) (least_line (layout_of c.args.argument)) c.in_err-put_all.was refl
    c.from_residual.ensures.0
    (record { all = c.put_all.ensures.all; front = c.put_all.ensures.front; cause = c.put_all.ensures.cause })

pub returns : goal.returns
returns g c =
    puts-again (least_line (layout_of c.args.argument)) c.in_ok-put_all.was
    (ap (λ text. codes "least " ++ line text) c.name_of.ensures)
    (record { all = c.put_all.ensures.all; front = c.put_all.ensures.front; cause = c.put_all.ensures.cause })
    c.put_both.ensures
