-- The effect of a command on the files that it reads and on the program's input.
use Rattle.std.specs.Prelude.{◌≡◌, ℕ, List, Option, Ok}
use Rattle.cf_io.specs.Causes.{HasCause}
use Rattle.cf_io.specs.Reads.{FilesSeen}
use Rattle.cf_io.specs.declared.files.Files.{Ghosts as FilesMembers}
use Rattle.cf_io.specs.declared.source.Source.{Ghosts as SourceMembers}
use Rattle.cli_files.specs.Causes.{files_answered, input_answered, output_answered}
use Rattle.cli_files.specs.Outside.{Outside}
use Rattle.cli_files.specs.declared.answer.Answer.{Answer}
use Rattle.cli_files.specs.declared.status.Status.{Status}

-- what such a command sees at one moment: the files, and the remaining bytes of the program's input
pub record InputSide : Type 0 where
  pub files : Option FilesSeen
  pub input : Option (List ℕ)

abbrev pub input_side : Option FilesSeen → Option (List ℕ) → InputSide
input_side files input = record { files = files; input = input }

abbrev pub input_side_of : Outside → InputSide
input_side_of outside = input_side outside.files outside.streams.input

-- the effect of a call that has only the input: the answer says neither that a file failed nor that the output did, and
-- the count of the input's faults rose exactly if the answer says that the input failed
pub record AnswersByInput {S : Type 0} (Comes : Option (List ℕ) → Option (List ℕ) → Status → List ℕ → Type 0)
    (of_input : SourceMembers S) (before after : S) (answer : Answer) : Type 0 where
  pub comes : Comes (of_input.left before) (of_input.left after) answer.status answer.closing
  pub files : files_answered answer.status ≡ Ok tt
  pub input : HasCause (of_input.faults before) (of_input.faults after) (input_answered answer.status)
  pub output : output_answered answer.status ≡ Ok tt

-- what files and a source expose
abbrev pub input_side_in : {F S : Type 0} → FilesMembers F → SourceMembers S → F × S → InputSide
input_side_in of_files of_input both = input_side (of_files.told both.0) (of_input.left both.1)

-- the same for a call that has the files too
pub record AnswersByFileAndInput {F S : Type 0} (Answers : InputSide → InputSide → Status → List ℕ → Type 0)
    (of_files : FilesMembers F) (of_input : SourceMembers S) (before after : F × S) (answer : Answer) : Type 0 where
  pub answers : Answers (input_side_in of_files of_input before) (input_side_in of_files of_input after) answer.status answer.closing
  pub files : HasCause (of_files.faults before.0) (of_files.faults after.0) (files_answered answer.status)
  pub input : HasCause (of_input.faults before.1) (of_input.faults after.1) (input_answered answer.status)
  pub output : output_answered answer.status ≡ Ok tt
