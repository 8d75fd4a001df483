-- The remaining elements of the iterators over segments and symbols.
use Rattle.std.specs.Prelude.{List, map}
use Rattle.elf_view.specs.Fields.{entries}
use Rattle.elf_view.specs.Headers.{symbol_entry}
use Rattle.elf_view.specs.Segments.{LoadSegment, loads_in, segment_of}
use Rattle.elf_view.specs.Symbols.{NamedSymbol, symbol_of}
use Rattle.elf_view.specs.declared.segments.Segments.{Segments}
use Rattle.elf_view.specs.declared.symbols.LazySymbols.{LazySymbols}
use Rattle.elf_view.specs.declared.symbols.Symbols.{Symbols}

-- the remaining segments
abbrev pub segments_left : Segments → List LoadSegment
segments_left s =
    map (segment_of s.file.now) (loads_in s.headers.file.now s.headers.at s.headers.left)

-- the remaining symbols, before their names are looked up
abbrev pub lazy_left : LazySymbols → List NamedSymbol
lazy_left s =
    map (symbol_of s.names.now) (entries symbol_entry 16 s.entries.file.now s.entries.at s.entries.left)

-- the remaining symbols
abbrev pub symbols_left : Symbols → List NamedSymbol
symbols_left s = lazy_left s.lazy
