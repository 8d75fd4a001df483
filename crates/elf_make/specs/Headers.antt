-- The headers of the file (Tool Interface Standard, Executable and Linking Format Specification, "ELF Header",
-- "Sections" and "Program Header"; RISC-V ELF psABI Specification, "File Header").
use Rattle.std.specs.Prelude.{ℕ, ◌+◌, List, [], ◌∷◌, ◌++◌, replicate}
use Rattle.elf_make.specs.declared.sizes.Sizes.{Sizes}
use Rattle.elf_make.specs.declared.section.SectionFields.{SectionFields}
use Rattle.elf_make.specs.Fields.{halves, words}
use Rattle.elf_make.specs.Sizes.{text_offset, data_offset, symbols_offset, symbols_len, names_offset, section_names_offset, section_names_len, sections_offset}

-- 7F and `ELF`, the class of 32 bits, little-endian, version 1
unfoldable pub identity : List ℕ
identity = 0x7F ∷ 0x45 ∷ 0x4C ∷ 0x46 ∷ 1 ∷ 1 ∷ 1 ∷ replicate 9 0

-- an executable for RISC-V: its entry, two program headers of 32 bytes after this header of 52, and six section headers
-- of 40 bytes, the last for the names of the sections
abbrev pub file_header_bytes : Sizes → ℕ → List ℕ
file_header_bytes s entry =
    identity ++ halves (2 ∷ 243 ∷ []) ++ words (1 ∷ entry ∷ 52 ∷ sections_offset s ∷ 0 ∷ [])
    ++ halves (52 ∷ 32 ∷ 2 ∷ 40 ∷ 6 ∷ 5 ∷ [])

-- a segment that is loaded (PT_LOAD): its offset in the file, its address, its length there and in memory, its flags,
-- aligned to 4
abbrev pub program_header_bytes : ℕ → ℕ → ℕ → ℕ → List ℕ
program_header_bytes offset address len flags =
    words (1 ∷ offset ∷ address ∷ address ∷ len ∷ len ∷ flags ∷ 4 ∷ [])

-- the text at 0x10000, which may be read and executed (5), and the data at 0x200000, which may be read and written (6)
abbrev pub program_headers_bytes : Sizes → List ℕ
program_headers_bytes s =
    program_header_bytes text_offset 0x10000 s.text_len 5 ++ program_header_bytes (data_offset s) 0x200000 s.data_len 6

-- the header of a section
abbrev pub section_header_bytes : SectionFields → List ℕ
section_header_bytes h =
    words (h.name ∷ h.kind ∷ h.flags ∷ h.address ∷ h.offset ∷ h.len ∷ h.link ∷ h.info ∷ h.alignment ∷ h.entry_len ∷ [])

-- the header with the index 0, which describes no section
abbrev pub no_section : SectionFields
no_section = record {
  name = 0;
  kind = 0;
  flags = 0;
  address = 0;
  offset = 0;
  len = 0;
  link = 0;
  info = 0;
  alignment = 0;
  entry_len = 0;
}

-- the text and the data (SHT_PROGBITS), which are in memory: the text is executable, the data is writable
abbrev pub text_section : Sizes → SectionFields
text_section s = record no_section {
  name = 1;
  kind = 1;
  flags = 6;
  address = 0x10000;
  offset = text_offset;
  len = s.text_len;
  alignment = 4;
}

abbrev pub data_section : Sizes → SectionFields
data_section s = record no_section {
  name = 7;
  kind = 1;
  flags = 3;
  address = 0x200000;
  offset = data_offset s;
  len = s.data_len;
  alignment = 4;
}

-- the symbols (SHT_SYMTAB), with the index of the section of their names and of the first symbol that is not local
abbrev pub symbols_section : Sizes → SectionFields
symbols_section s = record no_section {
  name = 13;
  kind = 2;
  offset = symbols_offset s;
  len = symbols_len s;
  link = 4;
  info = 1 + s.locals;
  alignment = 4;
  entry_len = 16;
}

-- the names of the symbols, and those of the sections (SHT_STRTAB)
abbrev pub names_section : Sizes → SectionFields
names_section s = record no_section { name = 21; kind = 3; offset = names_offset s; len = s.names_len; alignment = 1 }

abbrev pub section_names_section : Sizes → SectionFields
section_names_section s = record no_section {
  name = 29;
  kind = 3;
  offset = section_names_offset s;
  len = section_names_len;
  alignment = 1;
}

-- the header for no section, then the headers of the sections that are in memory
abbrev pub content_headers : Sizes → List ℕ
content_headers s =
    section_header_bytes no_section ++ section_header_bytes (text_section s) ++ section_header_bytes (data_section s)

-- the headers of the symbols and of the names
abbrev pub table_headers : Sizes → List ℕ
table_headers s =
    section_header_bytes (symbols_section s) ++ section_header_bytes (names_section s)
    ++ section_header_bytes (section_names_section s)

-- the headers of the sections
abbrev pub section_headers_bytes : Sizes → List ℕ
section_headers_bytes s = content_headers s ++ table_headers s
