-- The lengths and offsets of the parts of the file: headers, text, data, symbols, names, names of the sections, headers
-- of the sections, where each part except the names begins at a multiple of 4.
use Rattle.std.specs.Prelude.{ℕ, ◌+◌, ◌*◌, ◌≤◌, List, replicate}
use Rattle.rv_asm.specs.Reading.{padding}
use Rattle.elf_make.specs.declared.sizes.Sizes.{Sizes}

-- the zeros after a part of this length, up to a multiple of 4
abbrev pub zeros_after : ℕ → List ℕ
zeros_after len = replicate (padding len 4) 0

-- the length with these zeros
abbrev pub padded : ℕ → ℕ
padded len = len + padding len 4

-- the text comes after the headers
abbrev pub text_offset : ℕ
text_offset = 116

unfoldable pub data_offset : Sizes → ℕ
data_offset s = text_offset + padded s.text_len

unfoldable pub symbols_offset : Sizes → ℕ
symbols_offset s = data_offset s + padded s.data_len

-- an entry of the symbol table has 16 bytes, and the first is empty
abbrev pub symbols_len : Sizes → ℕ
symbols_len s = 16 * (s.labels + 1)

unfoldable pub names_offset : Sizes → ℕ
names_offset s = symbols_offset s + symbols_len s

unfoldable pub section_names_offset : Sizes → ℕ
section_names_offset s = names_offset s + s.names_len

abbrev pub section_names_len : ℕ
section_names_len = 39

-- where the names of the sections end
unfoldable pub section_names_end : Sizes → ℕ
section_names_end s = section_names_offset s + section_names_len

unfoldable pub sections_offset : Sizes → ℕ
sections_offset s = padded (section_names_end s)

-- text and data have at most 1,048,576 bytes each, there are at most 524,288 labels, and their names have at most
-- 1,048,576 bytes, not counting a NUL after each and one before them
pub record AreSmall (s : Sizes) : Type 0 where
  pub text : s.text_len ≤ 1048576
  pub data_section : s.data_len ≤ 1048576
  pub locals : s.locals ≤ s.labels
  pub labels : s.labels ≤ 524288
  pub names : s.names_len ≤ 1572865
