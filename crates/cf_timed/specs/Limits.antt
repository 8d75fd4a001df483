-- The limit of a file of delays.
use Rattle.std.specs.Prelude.{ℕ}

-- its maximum length, in bytes
abbrev pub most_delays : ℕ
most_delays = 65536
