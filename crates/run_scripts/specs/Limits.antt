-- The limit of a script.
use Rattle.std.specs.Prelude.{ℕ}

-- the maximum length of its text, in bytes
abbrev pub most_script : ℕ
most_script = 16777216
