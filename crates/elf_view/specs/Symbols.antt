-- The symbols of a file (Tool Interface Standard, Executable and Linking Format Specification, "Symbol Table" and
-- "String Table").
use Rattle.std.specs.Prelude.{ℕ, List, [], length, map, drop, Bool, ◌==◌, not, Option, Some, None}
use Rattle.std.specs.List.{before_first}
use Rattle.elf_view.specs.Sections.{first_symbol_table, section_at, section_bytes, entries_of}
use Rattle.elf_view.specs.declared.headers.SectionHeader.{SectionHeader}
use Rattle.elf_view.specs.declared.headers.SymbolEntry.{SymbolEntry}
use Rattle.elf_view.specs.declared.symbols.LazySymbol.{LazySymbol}
use Rattle.elf_view.specs.declared.symbols.Symbol.{Symbol}

-- a symbol: the bytes of its name, its value and its size
pub record NamedSymbol : Type 0 where
  pub name : List ℕ
  pub value : ℕ
  pub size : ℕ

-- the bytes up to the first NUL
abbrev pub first_text : List ℕ → List ℕ
first_text names = before_first (λ b. b == 0) names

-- the bytes from an index on up to the first NUL
abbrev pub text_at : List ℕ → ℕ → List ℕ
text_at names at = first_text (drop at names)

-- the symbol of an entry, whose name is in the names
abbrev pub symbol_of : List ℕ → SymbolEntry → NamedSymbol
symbol_of names e = record { name = text_at names e.name; value = e.value; size = e.size }

-- the symbols of a symbol table, with their names from the section that it links to
abbrev pub symbols_in : List ℕ → SectionHeader → List NamedSymbol
symbols_in file table = map (symbol_of (section_bytes file (section_at file table.link))) (entries_of file table)

-- the symbols of the section at an index, and none without an index
abbrev pub symbols_at : List ℕ → Option ℕ → List NamedSymbol
symbols_at file None = []
symbols_at file (Some index) = symbols_in file (section_at file index)

-- the symbols of a file: the entries of its first symbol table, in their order
unfoldable pub symbols_of : List ℕ → List NamedSymbol
symbols_of file = symbols_at file (first_symbol_table file)

-- the symbol has a nonempty name
abbrev pub has_name : NamedSymbol → Bool
has_name symbol = not (length symbol.name == 0)

-- a symbol as contracts see it
abbrev pub shown_symbol : Symbol → NamedSymbol
shown_symbol s = record { name = s.name.now; value = s.value; size = s.size }

-- the symbol before its name is looked up, as contracts see it: the stored names begin with its own
abbrev pub shown_lazy : LazySymbol → NamedSymbol
shown_lazy s = record { name = first_text s.names.now; value = s.value; size = s.size }
