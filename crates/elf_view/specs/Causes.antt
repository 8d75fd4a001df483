-- What each refusal says about the file, taken by itself.
use Rattle.std.specs.Prelude.{◌≡◌, ◌≢◌, ◌⊎◌, ℕ, ◌+◌, ◌*◌, ◌<◌, ◌≤◌, List, [], ◌∷◌, length, take, slice_index, bit_and, true, Some}
use Rattle.std.specs.List.{Any, HoldsAt}
use Rattle.elf_view.specs.Fields.{FitsIn}
use Rattle.elf_view.specs.Headers.{file_header, program_headers, number_of_sections}
use Rattle.elf_view.specs.Segments.{is_loaded}
use Rattle.elf_view.specs.Sections.{first_symbol_table, section_at, IsReadable}
use Rattle.elf_view.specs.declared.headers.FileHeader.{FileHeader}
use Rattle.elf_view.specs.declared.headers.ProgramHeader.{ProgramHeader}
use Rattle.elf_view.specs.declared.refusal.ElfErr.{ElfErr}
use Rattle.elf_view.specs.declared.refusal.ElfErr.TheVariants.{TooShort, NotElf, Not32Little, NotRiscv, NotExecutable, NeedsCompressed, NeedsFloat, NeedsRve, BadHeaderSize, OutsideFile, FileLargerThanMemory, NeedsInterpreter, BadSymbols}

-- the first entry of a table that ends beyond the file begins at this offset
pub record IsFirstCut (file : List ℕ) (at size count place : ℕ) : Type 0 where
  pub index : ℕ
  pub within : index < count
  pub begins : place ≡ at + size * index
  pub beyond : length file < place + size
  pub first : (k : ℕ) → k < index → (at + size * k) + size ≤ length file

-- the file ends before its header, or before the first of the program headers, or these are in the file and it ends
-- before the first of the section headers
abbrev pub IsCutShort : List ℕ → FileHeader → ℕ → Type 0
IsCutShort file h place =
    ((length file < 52) × (place ≡ 0))
    ⊎ (IsFirstCut file h.program_offset 32 h.program_count place
    ⊎ (FitsIn file h.program_offset 32 h.program_count × IsFirstCut file h.section_offset 40 (number_of_sections h) place))

-- there are headers of that size, and it is wrong: program headers, or section headers
abbrev pub IsWrongSize : FileHeader → ℕ → Type 0
IsWrongSize h size =
    ((0 < h.program_count) × (h.program_size ≡ size) × (size ≢ 32))
    ⊎ ((0 < number_of_sections h) × (h.section_size ≡ size) × (size ≢ 40))

-- the index is that of the first header with this property
pub record IsFirstHeader (So : ProgramHeader → Type 0) (headers : List ProgramHeader) (index : ℕ) : Type 0 where
  pub within : index < length headers
  pub so : HoldsAt So headers index
  pub first : (k : ℕ) → k < index → HoldsAt (λ h. ¬ So h) headers k

-- a loaded segment ends beyond the file
abbrev pub EndsBeyond : List ℕ → ProgramHeader → Type 0
EndsBeyond file h = (is_loaded h ≡ true) × (length file < h.offset + h.filesz)

-- a loaded segment has more bytes in the file than in memory
abbrev pub IsLarger : ProgramHeader → Type 0
IsLarger h = (is_loaded h ≡ true) × (h.memsz < h.filesz)

-- what a refusal says about the file
abbrev pub IsElfCause : List ℕ → ElfErr → Type 0
IsElfCause file (TooShort place) = IsCutShort file (file_header file) place
IsElfCause file NotElf = take 4 file ≢ 0x7F ∷ 0x45 ∷ 0x4C ∷ 0x46 ∷ []
IsElfCause file Not32Little = ¬ ((slice_index file 4 ≡ 1) × (slice_index file 5 ≡ 1) × (slice_index file 6 ≡ 1))
IsElfCause file (NotRiscv machine) = ((file_header file).machine ≡ machine) × (machine ≢ 243)
IsElfCause file (NotExecutable kind) = ((file_header file).kind ≡ kind) × (kind ≢ 2)
IsElfCause file NeedsCompressed = bit_and (file_header file).flags 1 ≢ 0
IsElfCause file NeedsFloat = bit_and (file_header file).flags 6 ≢ 0
IsElfCause file NeedsRve = bit_and (file_header file).flags 8 ≢ 0
IsElfCause file (BadHeaderSize size) = IsWrongSize (file_header file) size
IsElfCause file (OutsideFile index) = IsFirstHeader (EndsBeyond file) (program_headers file) index
IsElfCause file (FileLargerThanMemory index) = IsFirstHeader IsLarger (program_headers file) index
IsElfCause file NeedsInterpreter = Any (λ h. h.kind ≡ 3) (program_headers file)
IsElfCause file (BadSymbols index) = (first_symbol_table file ≡ Some index) × ¬ IsReadable file (section_at file index)
