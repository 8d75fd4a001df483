-- The meaning of passing all tests: the file is a little-endian 32-bit executable for RISC-V (Tool Interface Standard,
-- Executable and Linking Format Specification; RISC-V ELF psABI Specification, "File Header").
use Rattle.std.specs.Prelude.{◌≡◌, ◌≢◌, ℕ, ◌<◌, ◌≤◌, List, [], ◌∷◌, length, take, All, slice_index, bit_and, Some}
use Rattle.elf_view.specs.Fields.{FitsIn}
use Rattle.elf_view.specs.Headers.{file_header, program_headers, number_of_sections}
use Rattle.elf_view.specs.Segments.{AreSound}
use Rattle.elf_view.specs.Sections.{first_symbol_table, section_at, IsReadable}
use Rattle.elf_view.specs.declared.headers.FileHeader.{FileHeader}

-- the bytes at the beginning: 7F and `ELF`, the class of 32 bits, little-endian, version 1
pub record HasIdentity (file : List ℕ) : Type 0 where
  pub whole : 52 ≤ length file
  pub magic : take 4 file ≡ 0x7F ∷ 0x45 ∷ 0x4C ∷ 0x46 ∷ []
  pub class : slice_index file 4 ≡ 1
  pub order : slice_index file 5 ≡ 1
  pub version : slice_index file 6 ≡ 1

-- an executable for RISC-V without compressed code, floating-point registers and RV32E
pub record HasTarget (h : FileHeader) : Type 0 where
  pub executable : h.kind ≡ 2
  pub riscv : h.machine ≡ 243
  pub not_compressed : bit_and h.flags 1 ≡ 0
  pub no_float : bit_and h.flags 6 ≡ 0
  pub not_embedded : bit_and h.flags 8 ≡ 0

-- the tables of headers have entries of 32 and of 40 bytes, and are in the file
pub record HasTables (file : List ℕ) (h : FileHeader) : Type 0 where
  pub program_size : 0 < h.program_count → h.program_size ≡ 32
  pub section_size : 0 < number_of_sections h → h.section_size ≡ 40
  pub programs : FitsIn file h.program_offset 32 h.program_count
  pub sections : FitsIn file h.section_offset 40 (number_of_sections h)

-- a file that can be viewed: no interpreter, and segments and a symbol table, if there is one, whose bytes are in the
-- file
pub record IsElf (file : List ℕ) : Type 0 where
  pub identity : HasIdentity file
  pub target : HasTarget (file_header file)
  pub tables : HasTables file (file_header file)
  pub no_interpreter : All (λ h. h.kind ≢ 3) (program_headers file)
  pub segments : AreSound file (program_headers file)
  pub symbols : (index : ℕ) → first_symbol_table file ≡ Some index → IsReadable file (section_at file index)
