-- Why a file is refused: the first of the tests that it fails. The headers are those of the Tool Interface Standard,
-- Executable and Linking Format Specification; machine and flags are those of the RISC-V ELF psABI Specification, "File
-- Header".
use Rattle.std.specs.Prelude.{ℕ, List, [], ◌∷◌, length, position, find, slice_index, Bool, ◌==◌, ◌&&◌, not, nat_eq, nat_lt, bit_and, if◌then◌else◌, Option, Some, None, Result, Ok, Err}
use Rattle.std.specs.List.{list_any, starts_with}
use Rattle.std.specs.Option.{option_or, option_map}
use Rattle.elf_view.specs.Fields.{ends_beyond}
use Rattle.elf_view.specs.Headers.{file_header, program_headers, program_places, section_places, number_of_sections}
use Rattle.elf_view.specs.Segments.{is_loaded, is_interpreter}
use Rattle.elf_view.specs.Sections.{first_symbol_table, section_at, is_sound_table}
use Rattle.elf_view.specs.declared.headers.FileHeader.{FileHeader}
use Rattle.elf_view.specs.declared.headers.ProgramHeader.{ProgramHeader}
use Rattle.elf_view.specs.declared.refusal.ElfErr.{ElfErr}
use Rattle.elf_view.specs.declared.refusal.ElfErr.TheVariants.{TooShort, NotElf, Not32Little, NotRiscv, NotExecutable, NeedsCompressed, NeedsFloat, NeedsRve, BadHeaderSize, OutsideFile, FileLargerThanMemory, NeedsInterpreter, BadSymbols}

-- the error, if the test finds the fault
abbrev pub where_so : Bool → ElfErr → Option ElfErr
where_so fault e = if fault then Some e else None

-- the first error of the tests
abbrev pub first_error : List (Option ElfErr) → Option ElfErr
first_error [] = None
first_error (test ∷ tests) = option_or test (first_error tests)

-- there is no whole file header
unfoldable pub no_file_header : List ℕ → Option ElfErr
no_file_header file = where_so (nat_lt (length file) 52) (TooShort 0)

-- the file begins with the four bytes 7F and `ELF`
abbrev pub starts_with_elf : List ℕ → Bool
starts_with_elf file = starts_with nat_eq file (0x7F ∷ 0x45 ∷ 0x4C ∷ 0x46 ∷ [])

-- the file does not begin with these bytes
unfoldable pub not_elf : List ℕ → Option ElfErr
not_elf file = where_so (not (starts_with_elf file)) NotElf

-- the class is not of 32 bits, the order of bytes not little-endian, or the version not 1
unfoldable pub not_32_little : List ℕ → Option ElfErr
not_32_little file = where_so (not (slice_index file 4 == 1 && slice_index file 5 == 1 && slice_index file 6 == 1)) Not32Little

-- the file is not an executable (ET_EXEC)
unfoldable pub not_executable : FileHeader → Option ElfErr
not_executable h = where_so (not (h.kind == 2)) (NotExecutable h.kind)

-- the machine is not RISC-V (EM_RISCV)
unfoldable pub not_riscv : FileHeader → Option ElfErr
not_riscv h = where_so (not (h.machine == 243)) (NotRiscv h.machine)

-- the code has compressed instructions (EF_RISCV_RVC)
unfoldable pub needs_compressed : FileHeader → Option ElfErr
needs_compressed h = where_so (not (bit_and h.flags 1 == 0)) NeedsCompressed

-- the code passes numbers in floating-point registers (EF_RISCV_FLOAT_ABI)
unfoldable pub needs_float : FileHeader → Option ElfErr
needs_float h = where_so (not (bit_and h.flags 6 == 0)) NeedsFloat

-- the code is for the 16 registers of RV32E (EF_RISCV_RVE)
unfoldable pub needs_rve : FileHeader → Option ElfErr
needs_rve h = where_so (not (bit_and h.flags 8 == 0)) NeedsRve

-- there are program headers, and their size is not 32 bytes
unfoldable pub bad_program_size : FileHeader → Option ElfErr
bad_program_size h = where_so (not (h.program_count == 0) && not (h.program_size == 32)) (BadHeaderSize h.program_size)

-- there are section headers, and their size is not 40 bytes
unfoldable pub bad_section_size : FileHeader → Option ElfErr
bad_section_size h = where_so (not (number_of_sections h == 0) && not (h.section_size == 40)) (BadHeaderSize h.section_size)

-- the first program header that ends beyond the file
unfoldable pub cut_program_header : List ℕ → Option ElfErr
cut_program_header file = option_map TooShort (find (λ at. ends_beyond file at 32) (program_places (file_header file)))

-- the first section header that ends beyond the file
unfoldable pub cut_section_header : List ℕ → Option ElfErr
cut_section_header file = option_map TooShort (find (λ at. ends_beyond file at 40) (section_places (file_header file)))

-- some program header names an interpreter
unfoldable pub needs_interpreter : List ℕ → Option ElfErr
needs_interpreter file = where_so (list_any is_interpreter (program_headers file)) NeedsInterpreter

-- the bytes of a loaded segment end beyond the file
abbrev pub ends_outside : List ℕ → ProgramHeader → Bool
ends_outside file h = is_loaded h && ends_beyond file h.offset h.filesz

-- the first header whose segment ends beyond the file
unfoldable pub outside_file : List ℕ → Option ElfErr
outside_file file = option_map OutsideFile (position (ends_outside file) (program_headers file))

-- a loaded segment has more bytes in the file than in memory
abbrev pub is_larger : ProgramHeader → Bool
is_larger h = is_loaded h && nat_lt h.memsz h.filesz

-- the first header whose segment is larger in the file than in memory
unfoldable pub larger_than_memory : List ℕ → Option ElfErr
larger_than_memory file = option_map FileLargerThanMemory (position is_larger (program_headers file))

-- the symbol table at an index cannot be read
abbrev pub bad_table : List ℕ → Option ℕ → Option ElfErr
bad_table file None = None
bad_table file (Some index) = where_so (not (is_sound_table file (section_at file index))) (BadSymbols index)

-- the first symbol table cannot be read
unfoldable pub bad_symbols : List ℕ → Option ElfErr
bad_symbols file = bad_table file (first_symbol_table file)

-- the tests of the file's identity
unfoldable pub identity_refusal : List ℕ → Option ElfErr
identity_refusal file = first_error (no_file_header file ∷ not_elf file ∷ not_32_little file ∷ [])

-- the tests of the file's target
unfoldable pub target_refusal : FileHeader → Option ElfErr
target_refusal h = first_error (not_executable h ∷ not_riscv h ∷ needs_compressed h ∷ needs_float h ∷ needs_rve h ∷ [])

-- the tests of the tables of headers
unfoldable pub table_refusal : List ℕ → Option ElfErr
table_refusal file =
    first_error (bad_program_size (file_header file) ∷ bad_section_size (file_header file) ∷ cut_program_header file ∷ cut_section_header file ∷ [])

-- the tests of the segments, each over all headers
unfoldable pub segment_refusal : List ℕ → Option ElfErr
segment_refusal file = first_error (needs_interpreter file ∷ outside_file file ∷ larger_than_memory file ∷ [])

-- the first error of all tests, in their order
unfoldable pub file_refusal : List ℕ → Option ElfErr
file_refusal file =
    first_error (identity_refusal file ∷ target_refusal (file_header file) ∷ table_refusal file ∷ segment_refusal file ∷ bad_symbols file ∷ [])

-- the outcome of a test
abbrev pub view_answer : Option ElfErr → Result (Unit {0}) ElfErr
view_answer None = Ok tt
view_answer (Some e) = Err e
