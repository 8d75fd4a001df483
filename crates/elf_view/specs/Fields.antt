-- The fields of an ELF file: little-endian numbers at offsets (Tool Interface Standard, Executable and Linking Format
-- Specification, "Data Representation" and "Data Encoding").
use Rattle.std.specs.Prelude.{ℕ, zero, suc, ◌+◌, ◌*◌, ◌<◌, ◌≤◌, List, [], ◌∷◌, length, map, take, drop, Bool, nat_lt}
use Rattle.byteorder.specs.Endian.{little_number}

-- the number of two bytes at the offset, the low byte first
unfoldable pub half : List ℕ → ℕ → ℕ
half file at = little_number 2 (drop at file)

-- the number of four bytes at the offset, the low byte first
unfoldable pub word : List ℕ → ℕ → ℕ
word file at = little_number 4 (drop at file)

-- this many bytes of the file from the offset on
abbrev pub bytes_at : List ℕ → ℕ → ℕ → List ℕ
bytes_at file at count = take count (drop at file)

-- whether this many bytes from the offset on end beyond the file
abbrev pub ends_beyond : List ℕ → ℕ → ℕ → Bool
ends_beyond file at count = nat_lt (length file) (at + count)

-- the offsets of the entries of a table: this many of one size, one after another
abbrev pub entry_offsets : ℕ → ℕ → ℕ → List ℕ
entry_offsets at size zero = []
entry_offsets at size (suc count) = at ∷ entry_offsets (at + size) size count

-- the entries of a table in the file: this many of one size, each read where it begins
abbrev pub entries : {E : Type 0} → (List ℕ → ℕ → E) → ℕ → List ℕ → ℕ → ℕ → List E
entries read size file at count = map (read file) (entry_offsets at size count)

-- a table of this many entries of one size is in the file; an empty one may be anywhere
abbrev pub FitsIn : List ℕ → ℕ → ℕ → ℕ → Type 0
FitsIn file at size count = 0 < count → at + size * count ≤ length file
