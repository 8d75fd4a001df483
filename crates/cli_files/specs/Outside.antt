-- The outside of the top call at one moment: what each part of it exposes, and how often it has failed.
use Rattle.std.specs.Prelude.{ℕ, List, Option}
use Rattle.cf_io.specs.Reads.{FilesSeen}
use Rattle.cf_io.specs.declared.files.Files.{Ghosts as FilesMembers}
use Rattle.cf_io.specs.declared.sink.Sink.{Ghosts as SinkMembers}
use Rattle.cf_io.specs.declared.source.Source.{Ghosts as SourceMembers}
use Rattle.rv_machine.specs.Streams.{Streams, streams_of}

-- the files and the program's streams
pub record Outside : Type 0 where
  pub files : Option FilesSeen
  pub file_faults : ℕ
  pub streams : Streams
  pub input_faults : ℕ
  pub output_faults : ℕ

-- the report: what was written to it, if it exposes that
pub record Report : Type 0 where
  pub written : Option (List ℕ)
  pub faults : ℕ

abbrev pub outside_of : Option FilesSeen → ℕ → Option (List ℕ) → ℕ → Option (List ℕ) → ℕ → Outside
outside_of files file_faults input input_faults output output_faults = record {
  files = files;
  file_faults = file_faults;
  streams = streams_of input output;
  input_faults = input_faults;
  output_faults = output_faults;
}

-- what files, a source and a sink expose
abbrev pub outside_seen : {F S K : Type 0} → FilesMembers F → SourceMembers S → SinkMembers K → F → S → K → Outside
outside_seen of_files of_input of_output files input output =
    outside_of (of_files.told files) (of_files.faults files) (of_input.left input) (of_input.faults input)
    (of_output.written output) (of_output.faults output)

abbrev pub report_of : Option (List ℕ) → ℕ → Report
report_of written faults = record { written = written; faults = faults }

-- what the report's sink exposes
abbrev pub report_in : {R : Type 0} → SinkMembers R → R → Report
report_in of_report report = report_of (of_report.written report) (of_report.faults report)
