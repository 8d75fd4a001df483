use Rattle.std.proofs.Common.{map}
use Rattle.std.specs.Prelude.{string_bytes}
use Rattle.cli_arguments.specs.Views.{times_view}
use Rattle.cli_arguments.specs.Arguments.{layout_in}
use Rattle.cli_files.specs.Causes.{output_answered}
use Rattle.cli_files.specs.Outside.{report_of}
use Rattle.cli_reports.proofs.PutReports.{decided-comes}
use Rattle.cli_time.specs.Asked.{time_asked}
use Rattle.cli_time.specs.Times.{AnswersTime, BreaksTime}
use Rattle.cli_time.proofs.Decided.{decided-reading, decided-works}
use Rattle.cli_time.proofs.comparing.compare_layouts.Goals as goal

pub returns : goal.returns
returns g c =
    let asked = time_asked c.args.delays.now c.args.program.now (map layout_in (map string_bytes c.args.layouts.now)) (times_view c.args.options) in
    let decided = c.compare_files-decided in
    let before = g.F.Files.told c.args.files.now in
    let after = g.F.Files.told decided.new.files in
    let written = g.R.Sink.written in
    let faults = g.R.Sink.faults in
    let blank = report_of (written c.args.report.now) (faults c.args.report.now) in
    let half = report_of (written decided.new.report) (faults decided.new.report) in
    let full = report_of (written c.put_decided.new.report) (faults c.put_decided.new.report) in
    record {
      comes = decided-comes (λ answer report. AnswersTime asked before after answer report)
          (λ told. BreaksTime asked before after blank.written told) blank half full decided.result c.put_decided.result
          decided.ensures.answers decided.ensures.report c.put_decided.ensures;
      files = rw (decided-reading half full decided.result c.put_decided.result c.put_decided.ensures) decided.ensures.files;
      output = decided-works output_answered half full decided.result c.put_decided.result decided.ensures.output c.put_decided.ensures;
    }
