use Rattle.std.proofs.Common.{◌≡◌, ◌++◌}
use Rattle.cf_report.proofs.Puttings.{puts-again, puts-stopped}
use Rattle.cli_arguments.specs.Views.{layout_of}
use Rattle.cli_time.specs.Lines.{closing_lines, time_line}
use Rattle.cli_time.specs.SiteLines.{sites_text}
use Rattle.cli_time.proofs.lines.put_layout.Goals as goal

pub returns-in_err-put_both : goal.returns-in_err-put_both
returns-in_err-put_both g c =
    let line : c.name_of.result.now ++ c.bytes.result.now ≡ time_line c.args.limit (layout_of c.args.argument) c.args.measured = cc in
    puts-stopped (sites_text c.args.measured.sites) (closing_lines c.args.limit (layout_of c.args.argument) c.args.measured) c.in_err-put_both.was
    (cc line) c.from_residual.ensures.0 c.put_both.ensures

pub returns : goal.returns
returns g c =
    let line : c.name_of.result.now ++ c.bytes.result.now ≡ time_line c.args.limit (layout_of c.args.argument) c.args.measured = cc in
    puts-again (closing_lines c.args.limit (layout_of c.args.argument) c.args.measured) c.in_ok-put_both.was (cc line) c.put_both.ensures
    c.put_sites.ensures
