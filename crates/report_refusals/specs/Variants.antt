-- A refusal in a report: the variant's name followed by the values that it keeps, each after one space (a format of
-- this project).
use Rattle.std.specs.Prelude.{ℕ, List, [], ◌∷◌, ◌++◌, codes, length, take, nat_le, if◌then◌else◌}
use Rattle.std.specs.Fmt.Cut.{floor_char_boundary}

-- a text of at most 40 bytes; a longer one is replaced by its prefix up to the last index within 40 bytes at which a
-- character ends
unfoldable pub cut : List ℕ → List ℕ
cut text = if nat_le (length text) 40 then text else take (floor_char_boundary text 40) text

-- texts, each after one space
unfoldable pub spaced : List (List ℕ) → List ℕ
spaced [] = []
spaced (text ∷ texts) = codes " " ++ text ++ spaced texts

-- a name, and after it what is kept
unfoldable pub variant : List ℕ → List (List ℕ) → List ℕ
variant name kept = name ++ spaced kept
