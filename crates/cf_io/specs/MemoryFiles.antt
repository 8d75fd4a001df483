-- Files in memory (a convention of this project).
use Rattle.std.specs.Prelude.{◌≡◌, ℕ, List, [], ◌∷◌, ◌++◌, Bool, true, false, ◌||◌, is_none, Result, Ok, Err}
use Rattle.cf_io.specs.Causes.{raised}
use Rattle.cf_io.specs.FailingCalls.{Calls, no_calls, fails_next, after_call}
use Rattle.cf_io.specs.NamedFiles.{content_of}
use Rattle.cf_io.specs.Reads.{FilesSeen}
use Rattle.cf_io.specs.declared.files.FilesErr.{FilesErr}
use Rattle.cf_io.specs.declared.files.FilesErr.TheVariants as err

-- names with their bytes, the names that were read and those whose read failed, both in order, how many reads found too
-- little memory, the calls so far, the count of faults
pub record MemoryFiles : Type 0 where
  pub files : List (List ℕ × List ℕ)
  pub read : List (List ℕ)
  pub failed : List (List ℕ)
  pub unheld : ℕ
  pub calls : Calls
  pub faults : ℕ

-- before the first read
abbrev pub unread_files : List (List ℕ × List ℕ) → List ℕ → MemoryFiles
unread_files files fails = record {
  files = files;
  read = [];
  failed = [];
  unheld = 0;
  calls = no_calls fails;
  faults = 0;
}

-- what the files expose
abbrev pub known_files : MemoryFiles → FilesSeen
known_files files = record {
  content = content_of files.files;
  read = files.read;
  failed = files.failed;
  unheld = files.unheld;
}

-- whether a read of this name fails: by its number, or because there is no such file
unfoldable pub read_fails : MemoryFiles → List ℕ → Bool
read_fails files name = fails_next files.calls || is_none (content_of files.files name)

-- after one more read, of this name
abbrev pub after_read : MemoryFiles → List ℕ → MemoryFiles
after_read files name = record files {
  calls = after_call files.calls;
  read = files.read ++ name ∷ [];
}

-- after one more read, of this name, that failed
abbrev pub after_failed : MemoryFiles → List ℕ → MemoryFiles
after_failed files name = record files {
  calls = after_call files.calls;
  read = files.read ++ name ∷ [];
  failed = files.failed ++ name ∷ [];
  faults = raised files.faults;
}

-- after one more read that found too little memory
abbrev pub after_unheld : MemoryFiles → MemoryFiles
after_unheld files = record files {
  calls = after_call files.calls;
  unheld = raised files.unheld;
}

-- each read is counted, and exactly those that are to fail do, unless there is not enough memory
abbrev pub ReadsCounted : {T : Type 0} → MemoryFiles → MemoryFiles → List ℕ → Result T FilesErr →
    Type 0
ReadsCounted files after name (Ok bytes) =
    (read_fails files name ≡ false) × (after ≡ after_read files name)
ReadsCounted files after name (Err err.Failed) =
    (read_fails files name ≡ true) × (after ≡ after_failed files name)
ReadsCounted files after name (Err err.NoMemory) = after ≡ after_unheld files
