-- The lines with which rows begin.
use Rattle.std.specs.Prelude.{◌⊎◌, ℕ, List, codes}
use Rattle.test_rows.specs.Matches.{BeginsWith}

-- a row begins with this line
abbrev pub IsHead : List ℕ → Type 0
IsHead line = BeginsWith line (codes "row ") ⊎ BeginsWith line (codes "again ")
