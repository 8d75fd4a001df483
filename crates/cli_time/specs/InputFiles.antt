-- The input of a program that a file holds, read after all other files, and why it holds none.
use Rattle.std.specs.Prelude.{◌≡◌, ◌<◌, ◌≤◌, ◌+◌, ◌⊎◌, ℕ, List, [], length, codes, Option, Some, None}
use Rattle.cf_io.specs.Reads.{FilesSeen}
use Rattle.rv_machine.specs.Hart.{Hart}
use Rattle.cf_layout.specs.Layout.{Plan}
use Rattle.cf_timed.specs.declared.span.Span.{Span}
use Rattle.texts.specs.Lines.{line}
use Rattle.cli_files.specs.Files.{IsFrontOf, LacksBytes}
use Rattle.cli_files.specs.declared.status.Status.{Status}
use Rattle.cli_files.specs.declared.status.Status.TheVariants as status
use Rattle.cli_files.specs.declared.status.Which.TheVariants as which
use Rattle.cli_time.specs.Asked.{TimeFiles}
use Rattle.cli_time.specs.Reading.{LacksTimeFile, TimeFilesRead}

-- the maximum length of an input, in bytes
abbrev pub most_input : ℕ
most_input = 16777216

-- these bytes came from a read of up to one byte more than an input may have, and are not too many
pub record IsInputAt (name : List ℕ) (before after : Option FilesSeen) (bytes : List ℕ) : Type 0 where
  pub front : IsFrontOf (most_input + 1) before after name bytes
  pub fits : length bytes ≤ most_input

-- the input is that of the named file; if no file is named, the input is empty, and no file was read
abbrev pub IsInput : Option (List ℕ) → Option FilesSeen → Option FilesSeen → List ℕ → Type 0
IsInput None before after bytes = (bytes ≡ []) × (after ≡ before)
IsInput (Some name) before after bytes = IsInputAt name before after bytes

-- the bytes are too many
pub record InputTooLong (name : List ℕ) (before after : Option FilesSeen) (answer : Status) (report : List ℕ) : Type 0 where
  pub bytes : List ℕ
  pub front : IsFrontOf (most_input + 1) before after name bytes
  pub long : most_input < length bytes
  pub status_is : answer ≡ status.BadInput
  pub reports : report ≡ line (codes "bad input: TooLong")

-- why the named file gives no input, the status that says so, and the report
abbrev pub LacksInput : Option (List ℕ) → Option FilesSeen → Option FilesSeen → Status → List ℕ → Type 0
LacksInput None before after answer report = ⊥
LacksInput (Some name) before after answer report =
    InputTooLong name before after answer report
    ⊎ LacksBytes which.Input (codes "read fault input") name before after answer report

-- all files were found, and after them the program's input
pub record TimeInputRead (files : TimeFiles) (named : Option (List ℕ)) (before after : Option FilesSeen) (delays : List Span)
    (plans : List Plan) (hart : Hart) (bytes : List ℕ) : Type 0 where
  pub between : Option FilesSeen
  pub read : TimeFilesRead files before between delays plans hart
  pub input_is : IsInput named between after bytes

-- all other files were found, and no input
pub record TimingStopsAtInput (files : TimeFiles) (named : Option (List ℕ)) (before after : Option FilesSeen) (answer : Status)
    (report : List ℕ) : Type 0 where
  pub delays : List Span
  pub plans : List Plan
  pub hart : Hart
  pub between : Option FilesSeen
  pub read : TimeFilesRead files before between delays plans hart
  pub lacks : LacksInput named between after answer report

-- the first of all these that is missing, the status that says why, and the report
abbrev pub LacksTimeInput : TimeFiles → Option (List ℕ) → Option FilesSeen → Option FilesSeen → Status → List ℕ → Type 0
LacksTimeInput files named before after answer report =
    LacksTimeFile files before after answer report
    ⊎ TimingStopsAtInput files named before after answer report
