-- The fields of an ELF file: numbers of two and of four bytes, the low byte first (Tool Interface Standard, Executable
-- and Linking Format Specification, "Data Representation" and "Data Encoding").
use Rattle.std.specs.Prelude.{ℕ, List}
use Rattle.std.specs.List.{flat_map}
use Rattle.byteorder.specs.Endian.{little_bytes}

-- numbers of two bytes, one after another
unfoldable pub halves : List ℕ → List ℕ
halves numbers = flat_map (λ n. little_bytes 2 n) numbers

-- numbers of four bytes, one after another
unfoldable pub words : List ℕ → List ℕ
words numbers = flat_map (λ n. little_bytes 4 n) numbers
