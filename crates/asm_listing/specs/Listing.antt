-- The listing of a program: its executable segments in order (a format of this project).
use Rattle.std.specs.Prelude.{ℕ, List, [], if◌then◌else◌}
use Rattle.std.specs.List.{flat_map}
use Rattle.elf_view.specs.Segments.{LoadSegment, segments_of}
use Rattle.elf_view.specs.Symbols.{NamedSymbol, symbols_of}
use Rattle.asm_listing.specs.Lines.{listed_from}

-- the lines of a segment that is executable
unfoldable pub segment_lines : List NamedSymbol → LoadSegment → List ℕ
segment_lines symbols segment =
    if segment.exec then listed_from symbols segment.vaddr segment.bytes else []

-- the listing of an ELF file
unfoldable pub elf_listing : List ℕ → List ℕ
elf_listing file = flat_map (segment_lines (symbols_of file)) (segments_of file)

-- the listing of a flat image, which is at 0x00010000
unfoldable pub flat_listing : List ℕ → List ℕ
flat_listing image = listed_from [] 0x10000 image
