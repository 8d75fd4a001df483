-- Numbers by their indices.
use Rattle.std.specs.Prelude.{ℕ, List, slice_get, unwrap_or}

-- the number at an index of a list, or 0 if the list is shorter
abbrev pub number_at : List ℕ → ℕ → ℕ
number_at numbers i = unwrap_or (slice_get numbers i) 0
