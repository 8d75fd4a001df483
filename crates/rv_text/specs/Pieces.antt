-- How a line of assembly is split: a name, followed by operands between commas (RISC-V Assembly Programmer's Manual).
use Rattle.std.specs.Prelude.{ℕ, ◌-◌, ◌==◌, ◌||◌, Bool, List, [], length, take, drop, slice_index_or, if◌then◌else◌}
use Rattle.std.specs.List.{prefix_len, suffix_len, slice_split, before_first}

-- a space or a tab
abbrev pub is_blank : ℕ → Bool
is_blank byte = byte == 32 || byte == 9

abbrev pub is_comma : ℕ → Bool
is_comma byte = byte == 44

-- without the leading blanks
unfoldable pub without_front : List ℕ → List ℕ
without_front text = drop (prefix_len is_blank text) text

-- without the blanks at the end
unfoldable pub without_end : List ℕ → List ℕ
without_end text = take (length text - suffix_len is_blank text) text

-- without the blanks at both ends
unfoldable pub trimmed : List ℕ → List ℕ
trimmed text = without_end (without_front text)

-- the name in a text: after leading blanks, the text up to the next blank
unfoldable pub name_part : List ℕ → List ℕ
name_part text = before_first is_blank (trimmed text)

-- the text after the name
unfoldable pub operand_part : List ℕ → List ℕ
operand_part text = drop (length (name_part text)) (trimmed text)

-- the pieces between the commas of a text
abbrev pub pieces : List ℕ → List (List ℕ)
pieces text = slice_split is_comma text

-- how many operands a text has: as many as it has pieces, or none if it has only blanks
unfoldable pub operand_count : List ℕ → ℕ
operand_count text = if length (trimmed text) == 0 then 0 else length (pieces text)

-- the operand with this number, counted from 0: the piece without surrounding blanks, or an empty text past the last
unfoldable pub operand_at : List ℕ → ℕ → List ℕ
operand_at text index = trimmed (slice_index_or (pieces text) index [])
