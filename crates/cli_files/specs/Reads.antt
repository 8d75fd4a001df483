-- Which files were read: those that the arguments name, in turn and each once, up to the last one that was needed.
use Rattle.std.specs.Prelude.{◌≡◌, ◌<◌, ◌≤◌, ◌⊎◌, ℕ, List, [], ◌∷◌, ◌++◌, length, take, Option, Some, None}
use Rattle.cf_io.specs.Causes.{raised}
use Rattle.cf_io.specs.Reads.{FilesSeen}
use Rattle.cli_arguments.specs.Options.{Schedule, by_script, by_seed, by_rule}
use Rattle.cli_arguments.specs.Arguments.{NamedLayout, plain, in_file}

-- the file of a layout; the built-in one has none
abbrev pub layout_files : NamedLayout → List (List ℕ)
layout_files plain = []
layout_files (in_file name) = name ∷ []

-- the files of some layouts, in order
abbrev pub files_of_layouts : List NamedLayout → List (List ℕ)
files_of_layouts [] = []
files_of_layouts (argument ∷ arguments) = layout_files argument ++ files_of_layouts arguments

-- the file of the script, if a script gives the moves
abbrev pub script_files : Schedule → List (List ℕ)
script_files (by_script file) = file ∷ []
script_files (by_seed seed rule) = []
script_files (by_rule rule) = []

-- the file of the program's input, if one is named
abbrev pub input_files : Option (List ℕ) → List (List ℕ)
input_files None = []
input_files (Some file) = file ∷ []

-- the first `count` of the names were read, in order, and no others; after them one read may have found no memory
pub record ReadsFirst (names : List (List ℕ)) (before after : FilesSeen) : Type 0 where
  pub count : ℕ
  pub within : count ≤ length names
  pub read : after.read ≡ before.read ++ take count names
  pub unheld : (after.unheld ≡ before.unheld) ⊎ ((after.unheld ≡ raised before.unheld) × (count < length names))

-- files that expose their reads were read in this way
abbrev pub WereRead : List (List ℕ) → Option FilesSeen → Option FilesSeen → Type 0
WereRead names None after = Unit {0}
WereRead names (Some told) after = (now : FilesSeen) × (after ≡ Some now) × ReadsFirst names told now
