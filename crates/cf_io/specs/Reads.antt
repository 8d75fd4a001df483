-- How a read of a file affects what the files expose (a convention of this project).
use Rattle.std.specs.Prelude.{◌≡◌, ◌≤◌, ℕ, List, [], ◌∷◌, ◌++◌, take, option_map, Option, Some, None, Result, Ok, Err, Vec}
use Rattle.std.specs.Global.{Global}
use Rattle.cf_io.specs.Causes.{Rose, raised}
use Rattle.cf_io.specs.declared.files.FilesErr.{FilesErr}
use Rattle.cf_io.specs.declared.files.FilesErr.TheVariants as err

-- what files expose: the bytes of each name that they have, the names that were read and those whose read failed, both
-- in order, and how many reads found too little memory
pub record FilesSeen : Type 0 where
  pub content : List ℕ → Option (List ℕ)
  pub read : List (List ℕ)
  pub failed : List (List ℕ)
  pub unheld : ℕ

-- the same files with one more read, of this name
abbrev pub with_read : FilesSeen → List ℕ → FilesSeen
with_read told name = record told { read = told.read ++ name ∷ [] }

-- with one more read, of this name, that failed
abbrev pub with_failed : FilesSeen → List ℕ → FilesSeen
with_failed told name = record told {
  read = told.read ++ name ∷ [];
  failed = told.failed ++ name ∷ [];
}

-- with one more read that found too little memory, perhaps not even enough for the name itself
abbrev pub with_unheld : FilesSeen → FilesSeen
with_unheld told = record told { unheld = raised told.unheld }

-- one read, if the files expose what they have: the first bytes of the file; each read is recorded, by its name or as
-- one that found too little memory
abbrev pub ReadsTold : FilesSeen → Option FilesSeen → List ℕ → ℕ → Result (Vec ℕ Global) FilesErr → Type 0
ReadsTold told after name most (Ok bytes) =
    (option_map (take most) (told.content name) ≡ Some bytes.items) × (after ≡ Some (with_read told name))
ReadsTold told after name most (Err err.Failed) = after ≡ Some (with_failed told name)
ReadsTold told after name most (Err err.NoMemory) = after ≡ Some (with_unheld told)

-- one read: what the files expose before and after, the name, the maximum number of bytes, the answer
abbrev pub ReadsFile : Option FilesSeen → Option FilesSeen → List ℕ → ℕ → Result (Vec ℕ Global) FilesErr → Type 0
ReadsFile None after name most result = after ≡ None
ReadsFile (Some told) after name most result = ReadsTold told after name most result

-- one failure is counted if the answer is Failed, and none otherwise
abbrev pub RoseOnFailed : {T : Type 0} → ℕ → ℕ → Result T FilesErr → Type 0
RoseOnFailed before now (Err err.Failed) = Rose before now
RoseOnFailed before now (Err err.NoMemory) = now ≡ before
RoseOnFailed before now (Ok x) = now ≡ before

-- the count never falls, and rises by one if and only if the answer is Failed
pub record HasReadCause {T : Type 0} (before now : ℕ) (result : Result T FilesErr) : Type 0 where
  pub never_falls : before ≤ now
  pub rose : RoseOnFailed before now result
