-- The sections of a file, and those from which the symbols are read (Tool Interface Standard, Executable and Linking
-- Format Specification, "Sections", "String Table" and "Symbol Table").
use Rattle.std.specs.Prelude.{ℕ, ◌+◌, ◌-◌, ◌*◌, ◌/◌, ◌%◌, ◌<◌, ◌≤◌, ◌≡◌, List, length, All, position, slice_index, Bool, ◌==◌, ◌&&◌, not, nat_lt, Option}
use Rattle.std.specs.List.{list_all}
use Rattle.elf_view.specs.Fields.{bytes_at, ends_beyond, entries}
use Rattle.elf_view.specs.Headers.{file_header, section_header, section_headers, symbol_entry, number_of_sections}
use Rattle.elf_view.specs.declared.headers.SectionHeader.{SectionHeader}
use Rattle.elf_view.specs.declared.headers.SymbolEntry.{SymbolEntry}

-- the header is that of a symbol table (SHT_SYMTAB)
abbrev pub is_symbol_table : SectionHeader → Bool
is_symbol_table s = s.kind == 2

-- the index of the first symbol table
abbrev pub first_symbol_table : List ℕ → Option ℕ
first_symbol_table file = position is_symbol_table (section_headers file)

-- the section header at an index
abbrev pub section_at : List ℕ → ℕ → SectionHeader
section_at file index = section_header file ((file_header file).section_offset + 40 * index)

-- the bytes of a section are in the file
abbrev pub is_within_file : List ℕ → SectionHeader → Bool
is_within_file file s = not (ends_beyond file s.offset s.size)

-- the bytes of a section
abbrev pub section_bytes : List ℕ → SectionHeader → List ℕ
section_bytes file s = bytes_at file s.offset s.size

-- the entries of a symbol table, each of 16 bytes
abbrev pub entries_of : List ℕ → SectionHeader → List SymbolEntry
entries_of file table = entries symbol_entry 16 file table.offset (table.size / 16)

-- the section has entries of 16 bytes, all of them whole
abbrev pub has_whole_entries : SectionHeader → Bool
has_whole_entries table = (table.entry_size == 16) && (table.size % 16 == 0)

-- the last of the bytes is NUL
abbrev pub ends_in_nul : List ℕ → Bool
ends_in_nul bytes = nat_lt 0 (length bytes) && (slice_index bytes (length bytes - 1) == 0)

-- the name of each entry begins in the names
abbrev pub names_begin_in : SectionHeader → List SymbolEntry → Bool
names_begin_in names entries = list_all (λ e. nat_lt e.name names.size) entries

-- the names are in the file and end in NUL, and each symbol's name begins in them
abbrev pub has_sound_names : List ℕ → SectionHeader → SectionHeader → Bool
has_sound_names file table names = is_within_file file names && (ends_in_nul (section_bytes file names) && names_begin_in names (entries_of file table))

-- the symbol table can be read: whole entries that are in the file, and a section of names, which exists and is sound
abbrev pub is_sound_table : List ℕ → SectionHeader → Bool
is_sound_table file table =
    has_whole_entries table && (is_within_file file table && (nat_lt table.link (number_of_sections (file_header file))
    && has_sound_names file table (section_at file table.link)))

-- the section has names for the entries: its bytes are in the file and end in NUL, and the name of each entry begins in
-- them
pub record HasNames (file : List ℕ) (names : SectionHeader) (entries : List SymbolEntry) : Type 0 where
  pub within : names.offset + names.size ≤ length file
  pub filled : 0 < names.size
  pub closed : slice_index (section_bytes file names) (names.size - 1) ≡ 0
  pub begin : All (λ e. e.name < names.size) entries

-- the section is a symbol table that can be read: whole entries of 16 bytes that are in the file, and a section with
-- their names
pub record IsReadable (file : List ℕ) (table : SectionHeader) : Type 0 where
  pub entry_size : table.entry_size ≡ 16
  pub whole : table.size % 16 ≡ 0
  pub within : table.offset + table.size ≤ length file
  pub linked : table.link < number_of_sections (file_header file)
  pub names : HasNames file (section_at file table.link) (entries_of file table)
