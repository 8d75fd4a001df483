-- Files that arguments of the command line name: the effect of a read on the files.
use Rattle.std.specs.Prelude.{◌≡◌, ◌⊎◌, ℕ, List, take, codes, Option, Some, None}
use Rattle.cf_io.specs.Reads.{FilesSeen, with_read, with_failed, with_unheld}
use Rattle.texts.specs.Lines.{line}
use Rattle.cli_files.specs.declared.status.Status.{Status}
use Rattle.cli_files.specs.declared.status.Status.TheVariants as status
use Rattle.cli_files.specs.declared.status.Which.{Which}

-- the file's first bytes, at most this many; files that expose their reads have noted a read by this name, and no other
abbrev pub IsFrontOf : ℕ → Option FilesSeen → Option FilesSeen → List ℕ → List ℕ → Type 0
IsFrontOf most None after name bytes = Unit {0}
IsFrontOf most (Some told) after name bytes =
    (content : List ℕ) × (told.content name ≡ Some content) × (bytes ≡ take most content)
    × (after ≡ Some (with_read told name))

-- files that expose their reads have noted a failed read by this name, and no other read
abbrev pub NotesFailure : Option FilesSeen → Option FilesSeen → List ℕ → Type 0
NotesFailure None after name = Unit {0}
NotesFailure (Some told) after name = after ≡ Some (with_failed told name)

-- files that expose their reads have noted a read that found no memory, and no other
abbrev pub NotesUnheld : Option FilesSeen → Option FilesSeen → Type 0
NotesUnheld None after = Unit {0}
NotesUnheld (Some told) after = after ≡ Some (with_unheld told)

-- the file could not be read; the report says this
pub record IsUnreadable (which : Which) (reported : List ℕ) (name : List ℕ)
    (before after : Option FilesSeen) (answer : Status) (report : List ℕ) : Type 0 where
  pub status_is : answer ≡ status.ReadFault which
  pub noted : NotesFailure before after name
  pub reports : report ≡ line reported

-- its read found no memory
pub record IsUnheld (before after : Option FilesSeen) (answer : Status) (report : List ℕ) : Type 0 where
  pub status_is : answer ≡ status.NoMemory
  pub noted : NotesUnheld before after
  pub reports : report ≡ line (codes "no memory")

-- the file was read once, and gave no bytes: the status that says why, and the report
abbrev pub LacksBytes : Which → List ℕ → List ℕ → Option FilesSeen → Option FilesSeen → Status → List ℕ → Type 0
LacksBytes which reported name before after answer report =
    IsUnreadable which reported name before after answer report ⊎ IsUnheld before after answer report
