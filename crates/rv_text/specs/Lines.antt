-- How a text is split into lines (POSIX, "Line"): each ends with a line feed, which may be missing after the last.
use Rattle.std.specs.Prelude.{ℕ, ◌-◌, ◌==◌, Bool, List, [], ◌∷◌, length, take, nat_eq, if◌then◌else◌}
use Rattle.std.specs.List.{ends_with, slice_split}

abbrev pub is_line_feed : ℕ → Bool
is_line_feed byte = byte == 10

-- without one carriage return at the end
unfoldable pub without_return : List ℕ → List ℕ
without_return line = if ends_with nat_eq line (13 ∷ []) then take (length line - 1) line else line

-- the pieces before line feeds are lines, and so is the last piece if it is not empty
abbrev pub lines_from : List ℕ → List (List ℕ) → List (List ℕ)
lines_from [] [] = []
lines_from (byte ∷ last) [] = (byte ∷ last) ∷ []
lines_from piece (next ∷ pieces) = without_return piece ∷ lines_from next pieces

abbrev pub lines_of_pieces : List (List ℕ) → List (List ℕ)
lines_of_pieces [] = []
lines_of_pieces (piece ∷ pieces) = lines_from piece pieces

-- the lines of a text
unfoldable pub text_lines : List ℕ → List (List ℕ)
text_lines text = lines_of_pieces (slice_split is_line_feed text)
