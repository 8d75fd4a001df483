-- What `--version` writes (a text of this project).
use Rattle.std.specs.Prelude.{ℕ, List, ◌++◌, codes}

-- the program's version, as in the file VERSION
abbrev pub program_version : List ℕ
program_version = codes "0.9.0"

-- the kit with which the proofs were made, as `rt version` writes it
abbrev pub kit_version : List ℕ
kit_version = codes "rattle-kit-13f logic dac8208d650f15bf"

-- the line `cfpp VERSION (KIT)`
abbrev pub version_line : List ℕ
version_line = codes "cfpp " ++ program_version ++ codes " (" ++ kit_version ++ codes ")\n"
