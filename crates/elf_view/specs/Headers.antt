-- The headers of an ELF file, each field at its offset (Tool Interface Standard, Executable and Linking Format
-- Specification, "ELF Header", "Program Header", "Sections" and "Symbol Table").
use Rattle.std.specs.Prelude.{ℕ, ◌+◌, List, ◌==◌, if◌then◌else◌}
use Rattle.elf_view.specs.Fields.{half, word, entry_offsets, entries}
use Rattle.elf_view.specs.declared.headers.FileHeader.{FileHeader}
use Rattle.elf_view.specs.declared.headers.ProgramHeader.{ProgramHeader}
use Rattle.elf_view.specs.declared.headers.SectionHeader.{SectionHeader}
use Rattle.elf_view.specs.declared.headers.SymbolEntry.{SymbolEntry}

-- the header at the beginning of the file
abbrev pub file_header : List ℕ → FileHeader
file_header file = record {
  kind = half file 16;
  machine = half file 18;
  entry = word file 24;
  program_offset = word file 28;
  section_offset = word file 32;
  flags = word file 36;
  program_size = half file 42;
  program_count = half file 44;
  section_size = half file 46;
  section_count = half file 48;
}

-- the program header that begins at the offset
abbrev pub program_header : List ℕ → ℕ → ProgramHeader
program_header file at = record {
  kind = word file at;
  offset = word file (at + 4);
  vaddr = word file (at + 8);
  filesz = word file (at + 16);
  memsz = word file (at + 20);
  flags = word file (at + 24);
}

-- the section header that begins at the offset
abbrev pub section_header : List ℕ → ℕ → SectionHeader
section_header file at = record {
  kind = word file (at + 4);
  offset = word file (at + 16);
  size = word file (at + 20);
  link = word file (at + 24);
  entry_size = word file (at + 36);
}

-- the entry of a symbol table that begins at the offset
abbrev pub symbol_entry : List ℕ → ℕ → SymbolEntry
symbol_entry file at = record {
  name = word file at;
  value = word file (at + 4);
  size = word file (at + 8);
}

-- where the program headers begin
abbrev pub program_places : FileHeader → List ℕ
program_places h = entry_offsets h.program_offset 32 h.program_count

-- the program headers, in table order
abbrev pub program_headers : List ℕ → List ProgramHeader
program_headers file = entries program_header 32 file (file_header file).program_offset (file_header file).program_count

-- how many section headers there are: none if the file gives no offset for their table
abbrev pub number_of_sections : FileHeader → ℕ
number_of_sections h = if h.section_offset == 0 then 0 else h.section_count

-- where the section headers begin
abbrev pub section_places : FileHeader → List ℕ
section_places h = entry_offsets h.section_offset 40 (number_of_sections h)

-- the section headers, in table order
abbrev pub section_headers : List ℕ → List SectionHeader
section_headers file = entries section_header 40 file (file_header file).section_offset (number_of_sections (file_header file))
