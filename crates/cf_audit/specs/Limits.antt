-- The limit of a trace.
use Rattle.std.specs.Prelude.{ℕ}

-- the maximum length of its text, in bytes
abbrev pub most_trace : ℕ
most_trace = 16777216
