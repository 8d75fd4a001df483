-- The limit of a layout file.
use Rattle.std.specs.Prelude.{ℕ}

-- its maximum length, in bytes
abbrev pub most_layout_bytes : ℕ
most_layout_bytes = 65536
