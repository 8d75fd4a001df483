-- A file that was written is seen as its object.
use Rattle.std.proofs.Common.{◌≡◌, ◌≢◌, ℕ, suc, ◌+◌, ◌-◌, ◌/◌, ◌^◌, ◌<◌, ◌≤◌, Bool, true, false, List, [], ◌∷◌, ◌++◌, length, replicate, refl, sym, ap, ◌∙◌, subst, arith, append_assoc, All, Option, Some}
use Rattle.std.specs.Prelude.{map, filter, slice_index, nat_lt}
use Rattle.std.proofs.lemmas.List.Elements.{All-cons, All-nil, All-weaker}
use Rattle.std.proofs.lemmas.List.Sums.{AllPass-from_list_all}
use Rattle.std.proofs.lemmas.Bool.Decides.{nat_tests}
use Rattle.elf_view.specs.declared.headers.FileHeader.{FileHeader}
use Rattle.elf_view.specs.declared.headers.ProgramHeader.{ProgramHeader}
use Rattle.elf_view.specs.declared.headers.SectionHeader.{SectionHeader}
use Rattle.elf_view.specs.declared.headers.SymbolEntry.{SymbolEntry}
use Rattle.elf_view.specs.Fields.{bytes_at, entries}
use Rattle.elf_view.specs.Headers.{file_header, program_headers, symbol_entry, number_of_sections}
use Rattle.elf_view.specs.Segments.{is_loaded, segments_in, segments_of, LoadSegment, IsSoundSegment}
use Rattle.elf_view.specs.Sections.{first_symbol_table, section_at, section_bytes, IsReadable, HasNames}
use Rattle.elf_view.specs.Symbols.{NamedSymbol, symbol_of, symbols_at, symbols_in, symbols_of}
use Rattle.elf_view.specs.Executables.{HasIdentity, HasTarget, HasTables, IsElf}
use Rattle.elf_view.proofs.Executables.{elf-accepted}
use Rattle.rv_asm.specs.declared.object.Object.{Object}
use Rattle.rv_asm.specs.Labels.{LabelView}
use Rattle.rv_asm.specs.Small.{IsSmallObject}
use Rattle.elf_make.specs.declared.sizes.Sizes.{Sizes}
use Rattle.elf_make.specs.Fields.{halves, words}
use Rattle.elf_make.specs.Headers.{identity}
use Rattle.elf_make.specs.Sizes.{text_offset, data_offset, symbols_offset, symbols_len, names_offset, sections_offset}
use Rattle.elf_make.specs.Symbols.{locals_first, terminated_names, symbol_names, entries_from, symbol_table, are_addresses}
use Rattle.elf_make.specs.Files.{sizes_of, front, elf_file}
use Rattle.elf_make.specs.Viewed.{text_segment, data_segment, no_symbol, label_symbol, IsView}
use Rattle.elf_make.proofs.Counts.{length-order, length-symbol_names, length-in_order}
use Rattle.elf_make.proofs.Located.{part-at, after-part}
use Rattle.elf_make.proofs.Placed.{file-is, from_text, from_text_padding, from_data_padding, from_names, from_section_names, text-placed, data-placed, symbols-placed, names-placed, sections-placed, length-file, small-sizes, AreOrdered, ordered}
use Rattle.elf_make.proofs.HeadersRead.{header_with, load_with, two_programs, header-is, programs-are}
use Rattle.elf_make.proofs.SectionsRead.{symbols_header, names_header, some-sections, table-is, symbols-read, names-read}
use Rattle.elf_make.proofs.SymbolsRead.{IsAddress, entries_read, entries-are, none-is, entry-in, symbols-are, IsNameBelow, names-begin, names-end, order-no-nul}

-- what is read from the headers of a file
record IsRead (o : Object) (file : List ℕ) : Type 0 where
  order : AreOrdered (sizes_of o)
  long : length file ≡ sections_offset (sizes_of o) + 240
  header : file_header file ≡ header_with o.entry (sections_offset (sizes_of o))
  programs : program_headers file ≡ two_programs (sizes_of o)
  table : first_symbol_table file ≡ Some 3
  symbols : section_at file 3 ≡ symbols_header (sizes_of o)
  names : section_at file 4 ≡ names_header (sizes_of o)

is-read : (o : Object) → IsSmallObject o → o.entry < 2 ^ 32 → IsRead o (elf_file o)
is-read o h e =
    let s = sizes_of o in
    let small = small-sizes o h in
    let order = ordered s small in
    let header : file_header (elf_file o) ≡ header_with o.entry (sections_offset s) =
    ap (λ (f : List ℕ). file_header f) (file-is o) ∙ header-is s o.entry (from_text o) e order.within in
    let programs : program_headers (elf_file o) ≡ two_programs s =
    ap (λ (f : List ℕ). program_headers f) (file-is o)
    ∙ programs-are s o.entry (from_text o) e order.within (omega (arith, small.text)) (omega (arith, order)) (omega (arith, small.data_section)) in
    record {
      order = order;
      long = length-file o;
      header = header;
      programs = programs;
      table = table-is (elf_file o) s o.entry header (omega (arith, order)) (sections-placed o);
      symbols = symbols-read (elf_file o) s o.entry header (sections-placed o) (omega (arith, order)) (omega (arith, order));
      names = names-read (elf_file o) s o.entry header (sections-placed o) (omega (arith, order)) (omega (arith, order));
    }

abbrev segment_with : ℕ → ℕ → List ℕ → ℕ → Bool → Bool → LoadSegment
segment_with vaddr offset bytes memsz write exec =
    record { vaddr = vaddr; offset = offset; bytes = bytes; memsz = memsz; write = write; exec = exec }

-- the segments
segments-are : (o : Object) → IsRead o (elf_file o) → segments_of (elf_file o) ≡ text_segment o ∷ data_segment o ∷ []
unfolding segments_of
segments-are o r =
    let f = elf_file o in
    let t = length o.text_bytes in
    let d = length o.data_bytes in
    let s = sizes_of o in
    ap (λ (headers : List ProgramHeader). segments_in f headers) r.programs
    ∙ ap (λ (bytes : List ℕ). segment_with 0x10000 116 bytes t false true ∷ segment_with 0x200000 (data_offset s)
    (bytes_at f (data_offset s) d) d true false ∷ [])
    (part-at f o.text_bytes (from_text_padding o) text_offset t (text-placed o) refl)
    ∙ ap (λ (bytes : List ℕ). text_segment o ∷ segment_with 0x200000 (data_offset s) bytes d true false ∷ [])
    (part-at f o.data_bytes (from_data_padding o) (data_offset s) d (data-placed o) refl)

-- the entries of the symbol table
symbol-entries : (o : Object) → IsSmallObject o → All IsAddress (locals_first o.labels)
    → entries symbol_entry 16 (elf_file o) (symbols_offset (sizes_of o)) (symbols_len (sizes_of o) / 16) ≡ record { name = 0; value = 0; size = 0 }
    ∷ entries_read 1 (locals_first o.labels)
unfolding symbol_table
symbol-entries o h a =
    let f = elf_file o in
    let at = symbols_offset (sizes_of o) in
    let ls = locals_first o.labels in
    let count : symbols_len (sizes_of o) / 16 ≡ suc (length ls) = omega (arith, length-order o.labels) in
    let grouped = symbols-placed o ∙ append_assoc (replicate 16 0) (entries_from 1 ls) (from_names o) in
    let first = entry-in f (replicate 16 0 ++ (entries_from 1 ls ++ from_names o)) at grouped ∙ none-is (entries_from 1 ls ++ from_names o) in
    let after = after-part f (replicate 16 0) (entries_from 1 ls ++ from_names o) at (at + 16) grouped refl in
    let small = small-sizes o h in
    let others = entries-are ls f (from_names o) (at + 16) 1 after a (omega (arith, small.names, length-symbol_names o.labels, length-in_order o.labels)) in
    ap (λ (n : ℕ). entries symbol_entry 16 f at n) count
    ∙ ap (λ (e : SymbolEntry). e ∷ entries symbol_entry 16 f (at + 16) (length ls)) first
    ∙ ap (λ (es : List SymbolEntry). record { name = 0; value = 0; size = 0 } ∷ es) others

-- the section of names
content-is : (o : Object) → section_bytes (elf_file o) (names_header (sizes_of o)) ≡ symbol_names o.labels
content-is o = part-at (elf_file o) (symbol_names o.labels) (from_section_names o) (names_offset (sizes_of o)) (length (symbol_names o.labels))
    (names-placed o) refl

-- the symbols
symbols-seen : (o : Object) → IsSmallObject o → All IsAddress (locals_first o.labels) → IsRead o (elf_file o)
    → symbols_of (elf_file o) ≡ no_symbol ∷ map label_symbol (locals_first o.labels)
unfolding symbols_of symbol_names
symbols-seen o h a r =
    let f = elf_file o in
    let s = sizes_of o in
    let ls = locals_first o.labels in
    ap (λ (index : Option ℕ). symbols_at f index) r.table
    ∙ ap (λ (table : SectionHeader). symbols_in f table) r.symbols
    ∙ ap (λ (section : SectionHeader). map (symbol_of (section_bytes f section)) (entries symbol_entry 16 f (symbols_offset s) (symbols_len s / 16))) r.names
    ∙ ap (λ (content : List ℕ). map (symbol_of content) (entries symbol_entry 16 f (symbols_offset s) (symbols_len s / 16))) (content-is o)
    ∙ ap (λ (es : List SymbolEntry). map (symbol_of (symbol_names o.labels)) es) (symbol-entries o h a)
    ∙ ap (λ (symbols : List NamedSymbol). no_symbol ∷ symbols) (symbols-are ls (symbol_names o.labels) 1 refl (order-no-nul o.labels h.names))

identity-is : (s : Sizes) (start : ℕ) (rest : List ℕ) → 52 ≤ length (front s start ++ rest) → HasIdentity (front s start ++ rest)
unfolding front identity halves words
identity-is s start rest h = record { whole = h; magic = refl; class = refl; order = refl; version = refl }

target-is : (start at : ℕ) → HasTarget (header_with start at)
target-is start at = record { executable = refl; riscv = refl; not_compressed = refl; no_float = refl; not_embedded = refl }

tables-are : (o : Object) (file : List ℕ) → IsRead o file → HasTables file (header_with o.entry (sections_offset (sizes_of o)))
tables-are o file r =
    let at = sections_offset (sizes_of o) in
    let six : number_of_sections (header_with o.entry at) ≡ 6 = some-sections o.entry at (omega (arith, r.order)) in
    record {
      program_size = λ some. refl;
      section_size = λ some. refl;
      programs = λ some. omega (arith, r.long, r.order);
      sections = λ some. omega (arith, r.long, six);
    }

sound-text : (o : Object) (file : List ℕ) → IsRead o file → IsSoundSegment file (load_with 116 0x10000 (length o.text_bytes) (length o.text_bytes) 5)
sound-text o file r = record { within = omega (arith, r.long, r.order); room = omega arith }

sound-data : (o : Object) (file : List ℕ) → IsRead o file → IsSoundSegment file (load_with (data_offset (sizes_of o)) 0x200000 (length o.data_bytes)
    (length o.data_bytes) 6)
sound-data o file r = record { within = omega (arith, r.long, r.order); room = omega arith }

abbrev IsNoInterpreter : ProgramHeader → Type 0
IsNoInterpreter h = h.kind ≢ 3

loaded : (h : ProgramHeader) → h.kind ≡ 1 → IsNoInterpreter h
loaded h e k = omega (arith, e, k)

abbrev Sound : List ℕ → List ProgramHeader → Type 0
Sound file headers = All (IsSoundSegment file) (filter is_loaded headers)

last-name : (o : Object) → slice_index (section_bytes (elf_file o) (names_header (sizes_of o))) (length (symbol_names o.labels) - 1) ≡ 0
unfolding symbol_names
last-name o =
    let ls = locals_first o.labels in
    let at : length (0 ∷ terminated_names ls) - 1 ≡ length (terminated_names ls) = omega arith in
    ap (λ (content : List ℕ). slice_index content (length (symbol_names o.labels) - 1)) (content-is o)
    ∙ ap (λ (k : ℕ). slice_index (0 ∷ terminated_names ls) k) at ∙ names-end ls

names-are : (o : Object) → IsSmallObject o → All IsAddress (locals_first o.labels) → IsRead o (elf_file o)
    → HasNames (elf_file o) (names_header (sizes_of o)) (entries symbol_entry 16 (elf_file o) (symbols_offset (sizes_of o)) (symbols_len (sizes_of o) / 16))
names-are o h a r =
    let ls = locals_first o.labels in
    let size = length (symbol_names o.labels) in
    let count = length-symbol_names o.labels in
    let symbol_names = names-begin ls 1 size (omega (arith, count, length-in_order o.labels)) in
    record {
      within = omega (arith, r.long, r.order);
      filled = omega (arith, count);
      closed = last-name o;
      begin = subst (λ (es : List SymbolEntry). All (IsNameBelow size) es) (sym (symbol-entries o h a))
          (All-cons (IsNameBelow size) (record { name = 0; value = 0; size = 0 }) (entries_read 1 ls) (omega (arith, count)) symbol_names);
    }

readable : (o : Object) → IsSmallObject o → All IsAddress (locals_first o.labels) → IsRead o (elf_file o) →
    IsReadable (elf_file o) (symbols_header (sizes_of o))
readable o h a r =
    let f = elf_file o in
    let s = sizes_of o in
    let es = entries symbol_entry 16 f (symbols_offset s) (symbols_len s / 16) in
    let at = sections_offset s in
    let six : number_of_sections (header_with o.entry at) ≡ 6 = some-sections o.entry at (omega (arith, r.order)) in
    let linked : 4 < number_of_sections (header_with o.entry at) = omega (arith, six) in
    record {
      entry_size = refl;
      whole = omega arith;
      within = omega (arith, r.long, r.order);
      linked = subst (λ (header : FileHeader). 4 < number_of_sections header) (sym r.header) linked;
      names = subst (λ (section : SectionHeader). HasNames f section es) (sym r.names) (names-are o h a r);
    }

elf-is : (o : Object) → IsSmallObject o → All IsAddress (locals_first o.labels) → IsRead o (elf_file o) → IsElf (elf_file o)
elf-is o h a r =
    let f = elf_file o in
    let s = sizes_of o in
    let long : 52 ≤ length f = omega (arith, r.long) in
    let t = load_with 116 0x10000 (length o.text_bytes) (length o.text_bytes) 5 in
    let d = load_with (data_offset s) 0x200000 (length o.data_bytes) (length o.data_bytes) 6 in
    record {
      identity = subst HasIdentity (sym (file-is o)) (identity-is s o.entry (from_text o) (subst (λ (l : List ℕ). 52 ≤ length l) (file-is o) long));
      target = subst HasTarget (sym r.header) (target-is o.entry (sections_offset s));
      tables = subst (λ (header : FileHeader). HasTables f header) (sym r.header) (tables-are o f r);
      no_interpreter = subst (λ (headers : List ProgramHeader). All IsNoInterpreter headers) (sym r.programs)
          (All-cons IsNoInterpreter t (d ∷ []) (loaded t refl) (All-cons IsNoInterpreter d [] (loaded d refl) (All-nil IsNoInterpreter)));
      segments = subst (Sound f) (sym r.programs)
          (All-cons (IsSoundSegment f) t (d ∷ []) (sound-text o f r) (All-cons (IsSoundSegment f) d [] (sound-data o f r) (All-nil (IsSoundSegment f))));
      symbols = λ index e.
          let same : 3 ≡ index = cc (r.table, e) in
          subst (λ (i : ℕ). IsReadable f (section_at f i)) same (subst (λ (table : SectionHeader). IsReadable f table) (sym r.symbols) (readable o h a r));
    }

-- the file of an object is seen as that object
pub viewed : (o : Object) → IsSmallObject o → o.entry < 2 ^ 32 → All IsAddress (locals_first o.labels) → IsView o (elf_file o)
viewed o h e a =
    let r = is-read o h e in
    let elf = elf-is o h a r in
    record {
      is_elf = elf;
      accepted = elf-accepted (elf_file o) elf;
      entry = ap (λ (header : FileHeader). header.entry) r.header;
      segments = segments-are o r;
      symbols = symbols-seen o h a r;
    }

is-address : (label : LabelView) → nat_lt label.value (2 ^ 32) ≡ true → IsAddress label
is-address label e = grind (arith, nat_tests)

addresses : (labels : List LabelView) → are_addresses labels ≡ true → All IsAddress labels
addresses labels e =
    All-weaker (λ (label : LabelView). nat_lt label.value (2 ^ 32) ≡ true) IsAddress is-address labels
    (AllPass-from_list_all (λ (label : LabelView). nat_lt label.value (2 ^ 32)) labels e)

pub views : (o : Object) (file : List ℕ) → file ≡ elf_file o → IsSmallObject o → o.entry < 2 ^ 32 → are_addresses (locals_first o.labels) ≡ true → IsView o file
views o file e h start a = subst (IsView o) (sym e) (viewed o h start (addresses (locals_first o.labels) a))
