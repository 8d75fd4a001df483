-- The headers that are read from the start of a file that was written.
use Rattle.std.proofs.Common.{◌≡◌, ℕ, ◌^◌, ◌<◌, List, [], ◌∷◌, ◌++◌, ap, ◌∙◌}
use Rattle.elf_view.specs.declared.headers.FileHeader.{FileHeader}
use Rattle.elf_view.specs.declared.headers.ProgramHeader.{ProgramHeader}
use Rattle.elf_view.specs.Fields.{half, word, entries}
use Rattle.elf_view.specs.Headers.{program_header, file_header, program_headers}
use Rattle.elf_make.specs.declared.sizes.Sizes.{Sizes}
use Rattle.elf_make.specs.Fields.{halves, words}
use Rattle.elf_make.specs.Sizes.{data_offset, sections_offset}
use Rattle.elf_make.specs.Headers.{identity}
use Rattle.elf_make.specs.Files.{front}
use Rattle.elf_make.proofs.Located.{word-is}

-- the file header with an entry and the offset of the section headers
abbrev pub header_with : ℕ → ℕ → FileHeader
header_with start sections = record {
  kind = 2;
  machine = 243;
  entry = start;
  program_offset = 52;
  section_offset = sections;
  flags = 0;
  program_size = 32;
  program_count = 2;
  section_size = 40;
  section_count = 6;
}

abbrev pub load_with : ℕ → ℕ → ℕ → ℕ → ℕ → ProgramHeader
load_with offset vaddr filesz memsz flags = record {
  kind = 1;
  offset = offset;
  vaddr = vaddr;
  filesz = filesz;
  memsz = memsz;
  flags = flags;
}

pub header-is : (s : Sizes) (start : ℕ) (rest : List ℕ) → start < 2 ^ 32 → sections_offset s < 2 ^ 32
    → file_header (front s start ++ rest) ≡ header_with start (sections_offset s)
unfolding front identity halves words half word
header-is s start rest h k =
    ap (λ (e : ℕ). header_with e (word (front s start ++ rest) 32)) (word-is start h)
    ∙ ap (λ (at : ℕ). header_with start at) (word-is (sections_offset s) k)

text-header : (s : Sizes) (start : ℕ) (rest : List ℕ) → s.text_len < 2 ^ 32
    → program_header (front s start ++ rest) 52 ≡ load_with 116 0x10000 s.text_len s.text_len 5
unfolding front identity halves words word
text-header s start rest h =
    ap (λ (n : ℕ). load_with 116 0x10000 n (word (front s start ++ rest) 72) 5) (word-is s.text_len h)
    ∙ ap (λ (n : ℕ). load_with 116 0x10000 s.text_len n 5) (word-is s.text_len h)

data-header : (s : Sizes) (start : ℕ) (rest : List ℕ) → data_offset s < 2 ^ 32 → s.data_len < 2 ^ 32
    → program_header (front s start ++ rest) 84 ≡ load_with (data_offset s) 0x200000 s.data_len s.data_len 6
unfolding front identity halves words word
data-header s start rest k h =
    ap (λ (n : ℕ). load_with n 0x200000 (word (front s start ++ rest) 100) (word (front s start ++ rest) 104) 6) (word-is (data_offset s) k)
    ∙ ap (λ (n : ℕ). load_with (data_offset s) 0x200000 n (word (front s start ++ rest) 104) 6) (word-is s.data_len h)
    ∙ ap (λ (n : ℕ). load_with (data_offset s) 0x200000 s.data_len n 6) (word-is s.data_len h)

abbrev pub two_programs : Sizes → List ProgramHeader
two_programs s =
    load_with 116 0x10000 s.text_len s.text_len 5
    ∷ load_with (data_offset s) 0x200000 s.data_len s.data_len 6 ∷ []

pub programs-are : (s : Sizes) (start : ℕ) (rest : List ℕ)
    → start < 2 ^ 32 → sections_offset s < 2 ^ 32 → s.text_len < 2 ^ 32 → data_offset s < 2 ^ 32 → s.data_len < 2 ^ 32
    → program_headers (front s start ++ rest) ≡ two_programs s
programs-are s start rest h k t a d =
    ap (λ (header : FileHeader). entries program_header 32 (front s start ++ rest) header.program_offset header.program_count) (header-is s start rest h k)
    ∙ ap (λ (p : ProgramHeader). p ∷ program_header (front s start ++ rest) 84 ∷ []) (text-header s start rest t)
    ∙ ap (λ (p : ProgramHeader). load_with 116 0x10000 s.text_len s.text_len 5 ∷ p ∷ []) (data-header s start rest a d)
