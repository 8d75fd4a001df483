-- The answer of a command that reads one file and writes a text to the output, and its effect on the outside.
use Rattle.std.specs.Prelude.{◌≡◌, ℕ, List, [], codes, Option, Ok}
use Rattle.cf_io.specs.Causes.{HasCause}
use Rattle.cf_io.specs.Puts.{Writes, WritesFront}
use Rattle.cf_io.specs.Reads.{FilesSeen}
use Rattle.cf_io.specs.declared.files.Files.{Ghosts as FilesMembers}
use Rattle.cf_io.specs.declared.sink.Sink.{Ghosts as SinkMembers}
use Rattle.texts.specs.Lines.{line}
use Rattle.cli_files.specs.Causes.{files_answered, input_answered, output_answered}
use Rattle.cli_files.specs.Outside.{Outside}
use Rattle.cli_files.specs.Files.{IsFrontOf, LacksBytes}
use Rattle.cli_files.specs.declared.answer.Answer.{Answer}
use Rattle.cli_files.specs.declared.status.Status.{Status}
use Rattle.cli_files.specs.declared.status.Status.TheVariants as status
use Rattle.cli_files.specs.declared.status.Which.{Which}

-- what such a command sees at one moment: the files, and what was written to the output
pub record FileSide : Type 0 where
  pub files : Option FilesSeen
  pub output : Option (List ℕ)

abbrev pub file_side : Option FilesSeen → Option (List ℕ) → FileSide
file_side files output = record { files = files; output = output }

abbrev pub side_of : Outside → FileSide
side_of outside = file_side outside.files outside.streams.output

-- the text was written to the output, and there is no report
pub record PutsOutput (text : List ℕ) (before after : Option (List ℕ)) (report : List ℕ) : Type 0 where
  pub put : Writes before after text
  pub reports : report ≡ []

-- the output failed after a prefix of the text
pub record FailsText (text : List ℕ) (before after : Option (List ℕ)) (report : List ℕ) : Type 0 where
  pub put : WritesFront before after text
  pub reports : report ≡ line (codes "write fault output")

-- the text was written to the output, or the output failed while it was written
abbrev pub PutsOrFails : List ℕ → Option (List ℕ) → Option (List ℕ) → Status → List ℕ → Type 0
PutsOrFails text before after status.Done report = PutsOutput text before after report
PutsOrFails text before after status.WriteFault report = FailsText text before after report
PutsOrFails text before after _ report = ⊥

-- the effect of a call that has only the output: the answer says neither that a file failed nor that the input did, and
-- the count of the output's faults rose exactly if the answer says that the output failed
pub record AnswersByOutput {K : Type 0} (Comes : Option (List ℕ) → Option (List ℕ) → Status → List ℕ → Type 0)
    (of_output : SinkMembers K) (before after : K) (answer : Answer) : Type 0 where
  pub comes : Comes (of_output.written before) (of_output.written after) answer.status answer.closing
  pub files : files_answered answer.status ≡ Ok tt
  pub input : input_answered answer.status ≡ Ok tt
  pub output : HasCause (of_output.faults before) (of_output.faults after) (output_answered answer.status)

-- what files and a sink expose
abbrev pub side_in : {F K : Type 0} → FilesMembers F → SinkMembers K → F × K → FileSide
side_in of_files of_output both = file_side (of_files.told both.0) (of_output.written both.1)

-- the same for a call that has the files too
pub record AnswersByFile {F K : Type 0} (Answers : FileSide → FileSide → Status → List ℕ → Type 0) (of_files : FilesMembers F)
    (of_output : SinkMembers K) (before after : F × K) (answer : Answer) : Type 0 where
  pub answers : Answers (side_in of_files of_output before) (side_in of_files of_output after) answer.status answer.closing
  pub files : HasCause (of_files.faults before.0) (of_files.faults after.0) (files_answered answer.status)
  pub input : input_answered answer.status ≡ Ok tt
  pub output : HasCause (of_output.faults before.1) (of_output.faults after.1) (output_answered answer.status)

-- the file was read, and this is the outcome for its bytes
pub record ComesOfFile
    (Comes : List ℕ → Option (List ℕ) → Option (List ℕ) → Status → List ℕ → Type 0)
    (most : ℕ) (name : List ℕ) (before after : FileSide) (answer : Status)
    (report : List ℕ) : Type 0 where
  pub bytes : List ℕ
  pub front : IsFrontOf most before.files after.files name bytes
  pub comes : Comes bytes before.output after.output answer report

-- the file gave no bytes, and the output was left unchanged
abbrev pub RefusesFile : Which → List ℕ → List ℕ → FileSide → FileSide → Status → List ℕ → Type 0
RefusesFile which reported name before after answer report =
    LacksBytes which reported name before.files after.files answer report
    × (after.output ≡ before.output)
