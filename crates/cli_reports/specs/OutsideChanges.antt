-- What the objects passed to a command expose before and after it.
use Rattle.std.specs.Prelude.{ℕ}
use Rattle.std.specs.Borrow.{MutBor}
use Rattle.cf_io.specs.declared.files.Files.{Ghosts as FilesMembers}
use Rattle.cf_io.specs.declared.sink.Sink.{Ghosts as SinkMembers}
use Rattle.cf_io.specs.declared.source.Source.{Ghosts as SourceMembers}
use Rattle.rv_machine.specs.Streams.{Streams as StreamsTold, streams_of}
use Rattle.cli_files.specs.Outside.{Outside, Report, outside_seen, report_in}
use Rattle.cli_reports.specs.declared.streams.RunStreams.{RunStreams}

-- the three objects of a run as a call leaves them
abbrev pub StreamsLeft : (S K R U : Type 0) → Type 0
StreamsLeft S K R U = MutBor S × (MutBor K × (MutBor R × U))

abbrev pub input_left : {S K R U : Type 0} → StreamsLeft S K R U → S
input_left left = left.0.now

abbrev pub output_left : {S K R U : Type 0} → StreamsLeft S K R U → K
output_left left = left.1.0.now

abbrev pub report_left : {S K R U : Type 0} → StreamsLeft S K R U → R
report_left left = left.1.1.0.now

-- what is seen of a run at one moment: its streams, how often its input and its output have failed, and the report
pub record RunSeen : Type 0 where
  pub streams : StreamsTold
  pub input_faults : ℕ
  pub output_faults : ℕ
  pub report : Report

abbrev pub run_seen : {S K R : Type 0} → SourceMembers S → SinkMembers K → SinkMembers R → S → K → R → RunSeen
run_seen of_input of_output of_report input output report = record {
  streams = streams_of (of_input.left input) (of_output.written output);
  input_faults = of_input.faults input;
  output_faults = of_output.faults output;
  report = report_in of_report report;
}

-- the same before and after the run
pub record RunChange : Type 0 where
  pub before : RunSeen
  pub after : RunSeen

abbrev pub run_change : {S K R U : Type 0} → SourceMembers S → SinkMembers K → SinkMembers R → RunStreams S K R →
    StreamsLeft S K R U → RunChange
run_change of_input of_output of_report lent left = record {
  before = run_seen of_input of_output of_report lent.input.now lent.output.now lent.report.now;
  after = run_seen of_input of_output of_report (input_left left) (output_left left) (report_left left);
}

-- the outside and the report, before and after
pub record OutsideChange : Type 0 where
  pub before : Outside
  pub after : Outside
  pub blank : Report
  pub full : Report

abbrev pub change_of : (before after : Outside) → (blank full : Report) → OutsideChange
change_of before after blank full = record { before = before; after = after; blank = blank; full = full }

-- for a command that is given its streams and its report as one value
abbrev pub outside_change : {F S K R U : Type 0} → FilesMembers F → SourceMembers S → SinkMembers K → SinkMembers R → F → F →
    RunStreams S K R → StreamsLeft S K R U → OutsideChange
outside_change of_files of_input of_output of_report files files_left lent left =
    change_of (outside_seen of_files of_input of_output files lent.input.now lent.output.now)
    (outside_seen of_files of_input of_output files_left (input_left left) (output_left left))
    (report_in of_report lent.report.now) (report_in of_report (report_left left))

-- for a call that is given them one by one
abbrev pub call_change : {F S K R : Type 0} → FilesMembers F → SourceMembers S → SinkMembers K → SinkMembers R →
    F × (S × (K × R)) → F × (S × (K × R)) → OutsideChange
call_change of_files of_input of_output of_report old new =
    change_of (outside_seen of_files of_input of_output old.0 old.1.0 old.1.1.0)
    (outside_seen of_files of_input of_output new.0 new.1.0 new.1.1.0)
    (report_in of_report old.1.1.1) (report_in of_report new.1.1.1)
