-- The headers of the sections that are read from the end of a file that was written.
use Rattle.std.proofs.Common.{◌≡◌, ℕ, ◌+◌, ◌*◌, ◌^◌, ◌<◌, false, List, [], ◌∷◌, drop, refl, ap, ◌∙◌, arith, Some}
use Rattle.std.specs.Prelude.{◌==◌, position}
use Rattle.std.proofs.lemmas.Bool.Decides.{nat_tests}
use Rattle.elf_view.specs.declared.headers.FileHeader.{FileHeader}
use Rattle.elf_view.specs.declared.headers.SectionHeader.{SectionHeader}
use Rattle.elf_view.specs.Fields.{word, entries}
use Rattle.elf_view.specs.Headers.{section_header, number_of_sections, file_header}
use Rattle.elf_view.specs.Sections.{is_symbol_table, first_symbol_table, section_at}
use Rattle.elf_make.specs.declared.sizes.Sizes.{Sizes}
use Rattle.elf_make.specs.Fields.{words}
use Rattle.elf_make.specs.Sizes.{symbols_offset, symbols_len, names_offset, sections_offset}
use Rattle.elf_make.specs.Headers.{section_headers_bytes}
use Rattle.elf_make.proofs.Located.{word-in, word-is}
use Rattle.elf_make.proofs.HeadersRead.{header_with}

abbrev pub section_with : ℕ → ℕ → ℕ → ℕ → ℕ → SectionHeader
section_with kind offset size link entry_size =
    record { kind = kind; offset = offset; size = size; link = link; entry_size = entry_size }

same-section : (k₁ k₂ o₁ o₂ s₁ s₂ l₁ l₂ e₁ e₂ : ℕ) → k₁ ≡ k₂ → o₁ ≡ o₂ → s₁ ≡ s₂ → l₁ ≡ l₂ → e₁ ≡ e₂
    → section_with k₁ o₁ s₁ l₁ e₁ ≡ section_with k₂ o₂ s₂ l₂ e₂
same-section k₁ k₂ o₁ o₂ s₁ s₂ l₁ l₂ e₁ e₂ k o s l e = rw (k, o, s, l, e) refl

-- a header at the end of the file, by its offset there
pub section-in : (file part : List ℕ) (at k a : ℕ) → drop at file ≡ part → a ≡ at + k → section_header file a ≡ section_header part k
section-in file part at k a e h =
    same-section _ _ _ _ _ _ _ _ _ _
    (word-in file part at (k + 4) (a + 4) e (omega arith)) (word-in file part at (k + 16) (a + 16) e (omega arith))
    (word-in file part at (k + 20) (a + 20) e (omega arith)) (word-in file part at (k + 24) (a + 24) e (omega arith))
    (word-in file part at (k + 36) (a + 36) e (omega arith))

-- the headers of the symbols and of their names
abbrev pub symbols_header : Sizes → SectionHeader
symbols_header s = section_with 2 (symbols_offset s) (symbols_len s) 4 16

abbrev pub names_header : Sizes → SectionHeader
names_header s = section_with 3 (names_offset s) s.names_len 0 0

symbols-header : (s : Sizes) → symbols_offset s < 2 ^ 32 → symbols_len s < 2 ^ 32 → section_header (section_headers_bytes s) 120 ≡ symbols_header s
unfolding words word
symbols-header s a l = same-section _ _ _ _ _ _ _ _ _ _ refl (word-is (symbols_offset s) a) (word-is (symbols_len s) l) refl refl

names-header : (s : Sizes) → names_offset s < 2 ^ 32 → s.names_len < 2 ^ 32 → section_header (section_headers_bytes s) 160 ≡ names_header s
unfolding words word
names-header s a l = same-section _ _ _ _ _ _ _ _ _ _ refl (word-is (names_offset s) a) (word-is s.names_len l) refl refl

-- the kinds of the sections up to the symbols
kinds : (s : Sizes) → (word (section_headers_bytes s) 4 ≡ 0) × (word (section_headers_bytes s) 44 ≡ 1) × (word (section_headers_bytes s) 84 ≡ 1)
    × (word (section_headers_bytes s) 124 ≡ 2)
unfolding words word
kinds s = (refl, refl, refl, refl)

pub some-sections : (start at : ℕ) → 0 < at → number_of_sections (header_with start at) ≡ 6
some-sections start at h = let test : (at == 0) ≡ false = grind (arith, nat_tests) in rw test refl

-- the fourth of six sections is the first that is a symbol table
fourth : (a b c d e f : SectionHeader) → a.kind ≡ 0 → b.kind ≡ 1 → c.kind ≡ 1 → d.kind ≡ 2
    → position is_symbol_table (a ∷ b ∷ c ∷ d ∷ e ∷ f ∷ []) ≡ Some 3
fourth a b c d e f p q r t = rw (p, q, r, t) refl

pub table-is : (file : List ℕ) (s : Sizes) (start : ℕ) → file_header file ≡ header_with start (sections_offset s) → 0 < sections_offset s
    → drop (sections_offset s) file ≡ section_headers_bytes s → first_symbol_table file ≡ Some 3
table-is file s start header some placed =
    let at = sections_offset s in
    let part = section_headers_bytes s in
    let kind = kinds s in
    ap (λ (h : FileHeader). position is_symbol_table (entries section_header 40 file h.section_offset (number_of_sections h))) header
    ∙ ap (λ (n : ℕ). position is_symbol_table (entries section_header 40 file at n)) (some-sections start at some)
    ∙ fourth (section_header file at) (section_header file (at + 40)) (section_header file ((at + 40) + 40)) (section_header file (((at + 40) + 40) + 40))
    (section_header file ((((at + 40) + 40) + 40) + 40)) (section_header file (((((at + 40) + 40) + 40) + 40) + 40))
    (word-in file part at 4 (at + 4) placed refl ∙ kind.0)
    (word-in file part at 44 ((at + 40) + 4) placed (omega arith) ∙ kind.1)
    (word-in file part at 84 (((at + 40) + 40) + 4) placed (omega arith) ∙ kind.2)
    (word-in file part at 124 ((((at + 40) + 40) + 40) + 4) placed (omega arith) ∙ kind.3)

pub symbols-read : (file : List ℕ) (s : Sizes) (start : ℕ) → file_header file ≡ header_with start (sections_offset s)
    → drop (sections_offset s) file ≡ section_headers_bytes s → symbols_offset s < 2 ^ 32 → symbols_len s < 2 ^ 32 → section_at file 3 ≡ symbols_header s
symbols-read file s start header placed a l =
    ap (λ (h : FileHeader). section_header file (h.section_offset + 40 * 3)) header
    ∙ section-in file (section_headers_bytes s) (sections_offset s) 120 (sections_offset s + 40 * 3) placed refl ∙ symbols-header s a l

pub names-read : (file : List ℕ) (s : Sizes) (start : ℕ) → file_header file ≡ header_with start (sections_offset s)
    → drop (sections_offset s) file ≡ section_headers_bytes s → names_offset s < 2 ^ 32 → s.names_len < 2 ^ 32 → section_at file 4 ≡ names_header s
names-read file s start header placed a l =
    ap (λ (h : FileHeader). section_header file (h.section_offset + 40 * 4)) header
    ∙ section-in file (section_headers_bytes s) (sections_offset s) 160 (sections_offset s + 40 * 4) placed refl ∙ names-header s a l
