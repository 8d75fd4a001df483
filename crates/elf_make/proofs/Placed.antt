-- The parts of a file that was written, each at its beginning.
use Rattle.std.proofs.Common.{◌≡◌, ℕ, ◌+◌, ◌*◌, ◌^◌, ◌<◌, ◌≤◌, List, [], ◌∷◌, ◌++◌, length, drop, replicate, refl, ap, ◌∙◌, arith, append_assoc, length-append, length-drop}
use Rattle.std.proofs.lemmas.List.{length-replicate}
use Rattle.rv_asm.specs.declared.object.Object.{Object}
use Rattle.rv_asm.specs.Labels.{LabelView}
use Rattle.rv_asm.specs.Small.{IsSmallObject}
use Rattle.rv_asm.specs.Reading.{padding}
use Rattle.elf_make.specs.declared.binding.SymbolBinding.TheVariants.{Local}
use Rattle.elf_make.specs.declared.sizes.Sizes.{Sizes}
use Rattle.elf_make.specs.Fields.{halves, words}
use Rattle.elf_make.specs.Sizes.{zeros_after, text_offset, data_offset, symbols_offset, symbols_len, names_offset, section_names_offset, section_names_end, sections_offset, AreSmall}
use Rattle.elf_make.specs.Headers.{identity, section_headers_bytes}
use Rattle.elf_make.specs.Symbols.{terminated, locals_first, symbol_names, entry, entries_from, symbol_table, section_names}
use Rattle.elf_make.specs.Files.{sizes_of, front, section_contents, tables, elf_file}
use Rattle.elf_make.proofs.Counts.{length-bound, length-closed, length-symbol_names, length-order}
use Rattle.elf_make.proofs.Located.{after-part}

-- the file from each of its parts on
abbrev pub from_padding : Object → List ℕ
from_padding o = zeros_after (section_names_end (sizes_of o)) ++ section_headers_bytes (sizes_of o)

abbrev pub from_section_names : Object → List ℕ
from_section_names o = section_names ++ from_padding o

abbrev pub from_names : Object → List ℕ
from_names o = symbol_names o.labels ++ from_section_names o

abbrev pub from_symbols : Object → List ℕ
from_symbols o = symbol_table o.labels ++ from_names o

abbrev pub from_data_padding : Object → List ℕ
from_data_padding o = zeros_after (length o.data_bytes) ++ from_symbols o

abbrev pub from_data : Object → List ℕ
from_data o = o.data_bytes ++ from_data_padding o

abbrev pub from_text_padding : Object → List ℕ
from_text_padding o = zeros_after (length o.text_bytes) ++ from_data o

abbrev pub from_text : Object → List ℕ
from_text o = o.text_bytes ++ from_text_padding o

-- eleven lists, however they are grouped
regrouped : (f t z d y s n m p h : List ℕ)
    → ((f ++ (((t ++ z) ++ d) ++ y)) ++ (((s ++ n) ++ m) ++ p)) ++ h ≡ f ++ (t ++ (z ++ (d ++ (y ++ (s ++ (n ++ (m ++ (p ++ h))))))))
regrouped f t z d y s n m p h = simp append_assoc

pub file-is : (o : Object) → elf_file o ≡ front (sizes_of o) o.entry ++ from_text o
unfolding elf_file section_contents tables
file-is o =
    regrouped (front (sizes_of o) o.entry) o.text_bytes (zeros_after (length o.text_bytes)) o.data_bytes (zeros_after (length o.data_bytes))
    (symbol_table o.labels) (symbol_names o.labels) section_names (zeros_after (section_names_end (sizes_of o))) (section_headers_bytes (sizes_of o))

pub after-front : (s : Sizes) (start : ℕ) (rest : List ℕ) → drop 116 (front s start ++ rest) ≡ rest
unfolding front identity halves words
after-front s start rest = refl

length-entry : (name : ℕ) (label : LabelView) → length (entry name label) ≡ 16
unfolding halves words
length-entry name label = refl

pub length-entries_from : (name : ℕ) (labels : List LabelView) → length (entries_from name labels) ≡ 16 * length labels
length-entries_from name [] = refl
length-entries_from name (l ∷ ls) =
    omega (
      arith,
      length-append (entry name l) (entries_from (name + length (terminated l.name)) ls),
      length-entry name l,
      length-entries_from (name + length (terminated l.name)) ls,
    )

pub length-symbols : (labels : List LabelView) → length (symbol_table labels) ≡ 16 * (length labels + 1)
unfolding symbol_table
length-symbols labels =
    omega (arith, length-append (replicate 16 0) (entries_from 1 (locals_first labels)), length-entries_from 1 (locals_first labels), length-order labels)

-- where each part begins
pub text-placed : (o : Object) → drop text_offset (elf_file o) ≡ from_text o
text-placed o = ap (λ (f : List ℕ). drop 116 f) (file-is o) ∙ after-front (sizes_of o) o.entry (from_text o)

pub data-placed : (o : Object) → drop (data_offset (sizes_of o)) (elf_file o) ≡ from_data o
unfolding data_offset
data-placed o =
    let f = elf_file o in
    let t = length o.text_bytes in
    let past = after-part f o.text_bytes (from_text_padding o) text_offset (text_offset + t) (text-placed o) refl in
    after-part f (zeros_after t) (from_data o) (text_offset + t) (data_offset (sizes_of o)) past (omega (arith, length-replicate {A = ℕ} (padding t 4) 0))

pub symbols-placed : (o : Object) → drop (symbols_offset (sizes_of o)) (elf_file o) ≡ from_symbols o
unfolding symbols_offset
symbols-placed o =
    let f = elf_file o in
    let s = sizes_of o in
    let d = length o.data_bytes in
    let past = after-part f o.data_bytes (from_data_padding o) (data_offset s) (data_offset s + d) (data-placed o) refl in
    after-part f (zeros_after d) (from_symbols o) (data_offset s + d) (symbols_offset s) past (omega (arith, length-replicate {A = ℕ} (padding d 4) 0))

pub names-placed : (o : Object) → drop (names_offset (sizes_of o)) (elf_file o) ≡ from_names o
unfolding names_offset
names-placed o =
    let s = sizes_of o in
    after-part (elf_file o) (symbol_table o.labels) (from_names o) (symbols_offset s) (names_offset s) (symbols-placed o)
    (omega (arith, length-symbols o.labels))

pub section_names-placed : (o : Object) → drop (section_names_offset (sizes_of o)) (elf_file o) ≡ from_section_names o
unfolding section_names_offset
section_names-placed o =
    let s = sizes_of o in
    after-part (elf_file o) (symbol_names o.labels) (from_section_names o) (names_offset s) (section_names_offset s) (names-placed o) refl

pub sections-placed : (o : Object) → drop (sections_offset (sizes_of o)) (elf_file o) ≡ section_headers_bytes (sizes_of o)
unfolding section_names_end sections_offset
sections-placed o =
    let f = elf_file o in
    let s = sizes_of o in
    let e = section_names_end s in
    let past = after-part f section_names (from_padding o) (section_names_offset s) e (section_names-placed o) refl in
    after-part f (zeros_after e) (section_headers_bytes s) e (sections_offset s) past (omega (arith, length-replicate {A = ℕ} (padding e 4) 0))

pub length-headers : (s : Sizes) → length (section_headers_bytes s) ≡ 240
unfolding words
length-headers s = refl

-- the headers of the sections are the end of the file
pub length-file : (o : Object) → length (elf_file o) ≡ sections_offset (sizes_of o) + 240
length-file o =
    let n = ap (λ (l : List ℕ). length l) (sections-placed o) in
    omega (arith, n, length-drop (sections_offset (sizes_of o)) (elf_file o), length-headers (sizes_of o))

-- the sizes of an object that can be written are small
pub small-sizes : (o : Object) → IsSmallObject o → AreSmall (sizes_of o)
small-sizes o h = record {
  text = h.text;
  data_section = h.data_section;
  locals = length-bound Local o.labels;
  labels = h.labels;
  names = omega (arith, length-symbol_names o.labels, length-closed o.labels, h.labels, h.name_bytes);
}

-- so all offsets are numbers of 32 bits, in ascending order
pub record AreOrdered (s : Sizes) : Type 0 where
  pub text_first : text_offset ≤ data_offset s
  pub text_fits : text_offset + s.text_len ≤ data_offset s
  pub data_fits : data_offset s + s.data_len ≤ symbols_offset s
  pub symbols_fit : symbols_offset s + symbols_len s ≡ names_offset s
  pub names_fit : names_offset s + s.names_len ≡ section_names_offset s
  pub section_names_fit : section_names_offset s + 39 ≤ sections_offset s
  pub within : sections_offset s < 2 ^ 32

pub ordered : (s : Sizes) → AreSmall s → AreOrdered s
unfolding data_offset symbols_offset names_offset section_names_offset section_names_end sections_offset
ordered s h = record {
  text_first = omega arith;
  text_fits = omega arith;
  data_fits = omega arith;
  symbols_fit = omega arith;
  names_fit = omega arith;
  section_names_fit = omega arith;
  within = omega (arith, h.text, h.data_section, h.labels, h.names);
}
