-- The tests of a file as lists: five groups, and the tests in each.
use Rattle.std.proofs.Common.{ℕ, List, [], ◌∷◌, Option}
use Rattle.elf_view.specs.declared.headers.FileHeader.{FileHeader}
use Rattle.elf_view.specs.declared.headers.ProgramHeader.{ProgramHeader}
use Rattle.elf_view.specs.declared.refusal.ElfErr.{ElfErr}
use Rattle.elf_view.specs.Headers.{file_header}
use Rattle.elf_view.specs.Refusal.{no_file_header, not_elf, not_32_little, identity_refusal, not_executable, not_riscv, needs_compressed, needs_float, needs_rve, target_refusal, bad_program_size, bad_section_size, cut_program_header, cut_section_header, table_refusal, needs_interpreter, outside_file, larger_than_memory, segment_refusal, bad_symbols}

-- the file's identity
abbrev pub identity_tests : List ℕ → List (Option ElfErr)
identity_tests file = no_file_header file ∷ not_elf file ∷ not_32_little file ∷ []

-- the file's target
abbrev pub target_tests : FileHeader → List (Option ElfErr)
target_tests h = not_executable h ∷ not_riscv h ∷ needs_compressed h ∷ needs_float h ∷ needs_rve h ∷ []

-- its tables of headers
abbrev pub table_tests : List ℕ → List (Option ElfErr)
table_tests file = bad_program_size (file_header file) ∷ bad_section_size (file_header file) ∷ cut_program_header file ∷ cut_section_header file ∷ []

-- its segments
abbrev pub segment_tests : List ℕ → List (Option ElfErr)
segment_tests file = needs_interpreter file ∷ outside_file file ∷ larger_than_memory file ∷ []

-- the groups
abbrev pub groups : List ℕ → List (Option ElfErr)
groups file = identity_refusal file ∷ target_refusal (file_header file) ∷ table_refusal file ∷ segment_refusal file ∷ bad_symbols file ∷ []

-- a header to use as a default
abbrev pub no_header : ProgramHeader
no_header = record { kind = 0; offset = 0; vaddr = 0; filesz = 0; memsz = 0; flags = 0 }
