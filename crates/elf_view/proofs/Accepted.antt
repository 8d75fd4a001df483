-- What holds for files that pass all tests.
use Rattle.std.proofs.Common.{◌≡◌, ℕ, ◌+◌, List, [], ◌∷◌, All, length, get_or, Bool, true, false, Option, Some, None, refl, sym, arith, subst}
use Rattle.std.specs.Prelude.{nat_lt, ◌&&◌, not}
use Rattle.std.specs.Option.{option_or, option_map}
use Rattle.std.proofs.lemmas.Bool.Decides.{nat_tests}
use Rattle.elf_view.specs.declared.headers.ProgramHeader.{ProgramHeader}
use Rattle.elf_view.specs.declared.refusal.ElfErr.{ElfErr}
use Rattle.elf_view.specs.declared.refusal.ElfErr.TheVariants.{TooShort, OutsideFile, FileLargerThanMemory, BadSymbols}
use Rattle.elf_view.specs.Fields.{FitsIn}
use Rattle.elf_view.specs.Headers.{file_header, program_headers, number_of_sections}
use Rattle.elf_view.specs.Segments.{is_loaded, IsSoundSegment, AreSound}
use Rattle.elf_view.proofs.Readable.{sound-readable}
use Rattle.elf_view.specs.Sections.{IsReadable, first_symbol_table, section_at, is_sound_table}
use Rattle.std.proofs.lemmas.List.Elements.{All-filter, filter_passes}
use Rattle.elf_view.proofs.Groups.{groups, table_tests, segment_tests}
use Rattle.elf_view.proofs.Positions.{position-none}
use Rattle.elf_view.specs.Refusal.{where_so, first_error, bad_table, cut_program_header, cut_section_header, ends_outside, is_larger, outside_file, larger_than_memory, bad_symbols, table_refusal, segment_refusal, file_refusal}
use Rattle.elf_view.proofs.Tables.{none_cut}

-- each of the tests passes
abbrev pub Pass : List (Option ElfErr) → Type 0
Pass [] = Unit {0}
Pass (test ∷ tests) = (test ≡ None) × Pass tests

-- if two tests together give no error, the first gives none
first_passes : (a b : Option ElfErr) → option_or a b ≡ None → a ≡ None
first_passes None b e = refl
first_passes (Some x) b e = cc

-- and neither does the second
others_pass : (a b : Option ElfErr) → option_or a b ≡ None → b ≡ None
others_pass None b e = e
others_pass (Some x) b e = cc

-- if no test gives an error, each passes
pub all_pass : (tests : List (Option ElfErr)) → first_error tests ≡ None → Pass tests
all_pass [] e = tt
all_pass (test ∷ tests) e = (first_passes test (first_error tests) e, all_pass tests (others_pass test (first_error tests) e))

-- if no number is given as an error, there is no number
pub no_number : (f : ℕ → ElfErr) (o : Option ℕ) → option_map f o ≡ None → o ≡ None
no_number f None e = refl
no_number f (Some n) e = cc

-- each group passes
pub groups_pass : (file : List ℕ) → file_refusal file ≡ None → Pass (groups file)
unfolding file_refusal
groups_pass file e = all_pass (groups file) e

-- each test of the tables passes
pub tables_pass : (file : List ℕ) → file_refusal file ≡ None → Pass (table_tests file)
unfolding table_refusal
tables_pass file e = all_pass (table_tests file) (groups_pass file e).1.1.0

-- each test of the segments passes
pub segments_pass : (file : List ℕ) → file_refusal file ≡ None → Pass (segment_tests file)
unfolding segment_refusal
segments_pass file e = all_pass (segment_tests file) (groups_pass file e).1.1.1.0

-- the program headers are in the file
pub programs_fit : (file : List ℕ) → file_refusal file ≡ None → FitsIn file (file_header file).program_offset 32 (file_header file).program_count
unfolding cut_program_header
programs_fit file e = none_cut file _ 32 _ (no_number TooShort _ (tables_pass file e).1.1.0)

-- and so do the section headers
pub sections_fit : (file : List ℕ) → file_refusal file ≡ None → FitsIn file (file_header file).section_offset 40 (number_of_sections (file_header file))
unfolding cut_section_header
sections_fit file e = none_cut file _ 40 _ (no_number TooShort _ (tables_pass file e).1.1.1.0)

-- of two tests that do not both hold, the second fails if the first holds
neither : (a b : Bool) → (a && b) ≡ false → a ≡ true → b ≡ false
neither true b e h = e
neither false b e h = cc

-- a header that passes both tests of the segments is sound
sound_header : (file : List ℕ) (h : ProgramHeader) → is_loaded h ≡ true → ends_outside file h ≡ false → is_larger h ≡ false → IsSoundSegment file h
sound_header file h load inside small =
    let within : nat_lt (length file) (h.offset + h.filesz) ≡ false = neither (is_loaded h) _ inside load in
    let room : nat_lt h.memsz h.filesz ≡ false = neither (is_loaded h) _ small load in
    record { within = grind (arith, nat_tests); room = grind (arith, nat_tests) }

-- headers that pass both are sound
sound_headers : (file : List ℕ) (hs : List ProgramHeader) → All (λ h. ends_outside file h ≡ false) hs → All (λ h. is_larger h ≡ false) hs → AreSound file hs
sound_headers file hs inside small =
    let both : All (λ h. is_loaded h ≡ true → IsSoundSegment file h) hs = λ k d within. λ load. sound_header file (get_or hs k d) load (inside k d within)
    (small k d within) in
    λ k d within. All-filter is_loaded (λ h. is_loaded h ≡ true → IsSoundSegment file h) hs both k d within (filter_passes is_loaded hs k d within)

-- the segments of a file that passes all tests are sound
pub segments_sound : (file : List ℕ) → file_refusal file ≡ None → AreSound file (program_headers file)
unfolding outside_file larger_than_memory
segments_sound file e =
    sound_headers file (program_headers file)
    (position-none (ends_outside file) (program_headers file) (no_number OutsideFile _ (segments_pass file e).1.0))
    (position-none is_larger (program_headers file) (no_number FileLargerThanMemory _ (segments_pass file e).1.1.0))

-- a table that is not refused is sound
told_sound : (b : Bool) (e : ElfErr) → where_so (not b) e ≡ None → b ≡ true
told_sound true e h = refl
told_sound false e h = cc

-- the same for the table at an index
sound_at : (file : List ℕ) (o : Option ℕ) (i : ℕ) → o ≡ Some i → bad_table file o ≡ None → is_sound_table file (section_at file i) ≡ true
sound_at file o i e h =
    let at : bad_table file (Some i) ≡ None = subst (λ (r : Option ℕ). bad_table file r ≡ None) e h in
    told_sound (is_sound_table file (section_at file i)) (BadSymbols i) at

-- the first symbol table of a file that passes all tests is sound
pub table_sound : (file : List ℕ) (i : ℕ) → file_refusal file ≡ None → first_symbol_table file ≡ Some i → is_sound_table file (section_at file i) ≡ true
unfolding bad_symbols
table_sound file i e at = sound_at file (first_symbol_table file) i at (groups_pass file e).1.1.1.1.0

-- and can be read
pub table_readable : (file : List ℕ) (i : ℕ) → file_refusal file ≡ None → Some i ≡ first_symbol_table file → IsReadable file (section_at file i)
table_readable file i e at = sound-readable file (section_at file i) (table_sound file i e (sym at))
