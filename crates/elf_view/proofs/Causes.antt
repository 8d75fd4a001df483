-- Each refusal names its true cause.
use Rattle.std.proofs.Common.{◌≡◌, ◌≢◌, ℕ, zero, suc, ◌+◌, ◌*◌, ◌<◌, ◌≤◌, List, [], ◌∷◌, length, get_or, take, Bool, true, false, cond, Option, Some, None, refl, sym, subst, arith, inl, inr}
use Rattle.std.specs.Prelude.{position, find, nat_lt, not, ◌&&◌, ◌==◌, bit_and, slice_index}
use Rattle.std.specs.Option.{option_or, option_map}
use Rattle.std.specs.List.{list_any, Any}
use Rattle.std.proofs.lemmas.Bool.Decides.{nat_tests}
use Rattle.std.proofs.lemmas.List.Folds.{Any-from_list_any}
use Rattle.std.proofs.lemmas.List.Quantifiers.{position-Some}
use Rattle.std.proofs.lemmas.Slice.Eq.{bytes_eq-Decides}
use Rattle.elf_view.specs.declared.headers.ProgramHeader.{ProgramHeader}
use Rattle.elf_view.specs.declared.refusal.ElfErr.{ElfErr}
use Rattle.elf_view.specs.declared.refusal.ElfErr.TheVariants.{TooShort, NotElf, Not32Little, NotRiscv, NotExecutable, NeedsCompressed, NeedsFloat, NeedsRve, BadHeaderSize, OutsideFile, FileLargerThanMemory, NeedsInterpreter, BadSymbols}
use Rattle.elf_view.specs.Fields.{entry_offsets, ends_beyond, FitsIn}
use Rattle.elf_view.specs.Headers.{file_header, program_headers, number_of_sections}
use Rattle.elf_view.specs.Segments.{is_loaded, is_interpreter}
use Rattle.elf_view.specs.Sections.{first_symbol_table, section_at, is_sound_table}
use Rattle.elf_view.specs.Causes.{IsElfCause, IsFirstCut, IsFirstHeader, EndsBeyond, IsLarger}
use Rattle.elf_view.specs.Refusal.{where_so, first_error, starts_with_elf, no_file_header, not_elf, not_32_little, identity_refusal, not_executable, not_riscv, needs_compressed, needs_float, needs_rve, target_refusal, bad_program_size, bad_section_size, cut_program_header, cut_section_header, table_refusal, needs_interpreter, ends_outside, is_larger, outside_file, larger_than_memory, segment_refusal, bad_table, bad_symbols, file_refusal}
use Rattle.elf_view.proofs.Groups.{identity_tests, target_tests, segment_tests, groups, no_header}
use Rattle.elf_view.proofs.Readable.{both_hold, both_true, never, readable-sound}
use Rattle.elf_view.proofs.Tables.{none_cut}

-- what a refusal, if there is one, says about the file
Says : List ℕ → Option ElfErr → Type 0
Says file None = Unit {0}
Says file (Some e) = IsElfCause file e

-- each of the tests says the truth
AllSay : List ℕ → List (Option ElfErr) → Type 0
AllSay file [] = Unit {0}
AllSay file (test ∷ tests) = Says file test × AllSay file tests

-- if two tests say the truth, so does the first of them that fails
says-option_or : (file : List ℕ) (a b : Option ElfErr) → Says file a → Says file b → Says file (option_or a b)
unfolding Says
says-option_or file None b s t = t
says-option_or file (Some e) b s t = s

-- and so does the first of several
says-first_of : (file : List ℕ) (tests : List (Option ElfErr)) → AllSay file tests → Says file (first_error tests)
unfolding Says AllSay
says-first_of file [] all = tt
says-first_of file (test ∷ tests) all = says-option_or file test (first_error tests) all.0 (says-first_of file tests all.1)

-- a test says the truth if the fault that it finds is the cause
says-where_so : (file : List ℕ) (fault : Bool) (e : ElfErr) → (fault ≡ true → IsElfCause file e) → Says file (where_so fault e)
unfolding Says
says-where_so file true e cause = cause refl
says-where_so file false e cause = tt

-- a number that is given says the truth if it names the cause
says-option_map : (file : List ℕ) (f : ℕ → ElfErr) (o : Option ℕ) → ((n : ℕ) → o ≡ Some n → IsElfCause file (f n)) → Says file (option_map f o)
unfolding Says
says-option_map file f None cause = tt
says-option_map file f (Some n) cause = cause n refl

-- a test that fails is false
fails : (a : Bool) → not a ≡ true → a ≡ true → ⊥
fails true e h = cc
fails false e h = cc

-- numbers that a test distinguishes
apart : (a b : ℕ) → not (a == b) ≡ true → a ≢ b
apart a b e = λ same. let test : (a == b) ≡ true = grind (arith, nat_tests) in fails (a == b) e test

-- bytes that are not all 1
other_bytes : (file : List ℕ) → not (slice_index file 4 == 1 && slice_index file 5 == 1 && slice_index file 6 == 1) ≡ true →
    ¬ ((slice_index file 4 ≡ 1) × (slice_index file 5 ≡ 1) × (slice_index file 6 ≡ 1))
other_bytes file e ones =
    let first = ones.0 in let second = ones.1 in let third = ones.2 in
    fails (slice_index file 4 == 1 && slice_index file 5 == 1 && slice_index file 6 == 1) e (rw (first, second, third) refl)

-- the tests of the file's identity
says-identity : (file : List ℕ) → Says file (identity_refusal file)
unfolding identity_refusal no_file_header not_elf not_32_little AllSay
says-identity file = says-first_of file (identity_tests file) (
  says-where_so file (nat_lt (length file) 52) (TooShort 0) (λ e. inl (grind (arith, nat_tests), refl)),
  (
    says-where_so file (not (starts_with_elf file)) NotElf (λ e same. fails (starts_with_elf file) e
        ((bytes_eq-Decides (0x7F ∷ 0x45 ∷ 0x4C ∷ 0x46 ∷ []) (take 4 file)).1 (sym same))),
    (says-where_so file (not (slice_index file 4 == 1 && slice_index file 5 == 1 && slice_index file 6 == 1)) Not32Little (other_bytes file), tt),
  ),
)

-- the tests of the file's target
says-target : (file : List ℕ) → Says file (target_refusal (file_header file))
unfolding target_refusal not_executable not_riscv needs_compressed needs_float needs_rve AllSay
says-target file =
    let h = file_header file in
    says-first_of file (target_tests h) (
      says-where_so file (not (h.kind == 2)) (NotExecutable h.kind) (λ e. (refl, apart h.kind 2 e)),
      (
        says-where_so file (not (h.machine == 243)) (NotRiscv h.machine) (λ e. (refl, apart h.machine 243 e)),
        (
          says-where_so file (not (bit_and h.flags 1 == 0)) NeedsCompressed (λ e. apart (bit_and h.flags 1) 0 e),
          (
            says-where_so file (not (bit_and h.flags 6 == 0)) NeedsFloat (λ e. apart (bit_and h.flags 6) 0 e),
            (says-where_so file (not (bit_and h.flags 8 == 0)) NeedsRve (λ e. apart (bit_and h.flags 8) 0 e), tt),
          ),
        ),
      ),
    )

-- a wrong size, by the test
wrong_size : (count size right : ℕ) → (not (count == 0) && not (size == right)) ≡ true → (0 < count) × (size ≢ right)
wrong_size count size right e =
    let both = both_hold (not (count == 0)) (not (size == right)) e in
    let some : count ≢ 0 = apart count 0 both.0 in
    (omega arith, apart size right both.1)

-- entries before an index are in the file if the first and the others are
earlier : (file : List ℕ) (at size k : ℕ) (index : ℕ) → at + size ≤ length file → k < index →
    ((j : ℕ) → j + 1 < index → ((at + size) + size * j) + size ≤ length file) → (at + size * k) + size ≤ length file
earlier file at size zero index fits below others = omega arith
earlier file at size (suc k) index fits below others = let there : ((at + size) + size * k) + size ≤ length file = others k (omega arith) in
    let step : size * suc k ≡ size * k + size = grind arith in omega (arith, there, step)

-- one offset of a list of offsets
cut_at : (file : List ℕ) (at size count place : ℕ) (t : Bool) (o : Option ℕ) → nat_lt (length file) (at + size) ≡ t → cond t (Some at) o ≡ Some place →
    (at + size ≤ length file → o ≡ Some place → IsFirstCut file (at + size) size count place) → IsFirstCut file at size (suc count) place
cut_at file at size count place true o e told after =
    let here : at ≡ place = cc in
    record { index = 0; within = omega arith; begins = omega arith; beyond = grind (arith, nat_tests); first = λ k below. absurd (omega arith) }
cut_at file at size count place false o e told after =
    let fits : at + size ≤ length file = grind (arith, nat_tests) in
    let r = after fits told in
    let step : size * (r.index + 1) ≡ size * r.index + size = grind arith in
    let begins : place ≡ (at + size) + size * r.index = r.begins in
    record {
      index = r.index + 1;
      within = let w = r.within in omega arith;
      begins = omega (arith, step, begins);
      beyond = r.beyond;
      first = λ k below. earlier file at size k (r.index + 1) fits below (λ j lower. r.first j (omega arith));
    }

-- the index that is found is that of the first entry that ends beyond the file
cut-first : (file : List ℕ) (at size count place : ℕ) → find (λ p. ends_beyond file p size) (entry_offsets at size count) ≡ Some place →
    IsFirstCut file at size count place
cut-first file at size zero place e = cc
cut-first file at size (suc count) place e =
    cut_at file at size count place (nat_lt (length file) (at + size)) (find (λ p. ends_beyond file p size) (entry_offsets (at + size) size count)) refl e
    (λ fits told. cut-first file (at + size) size count place told)

-- the sections are tested if the program headers are in the file
says-sections : (file : List ℕ) (programs : Option ℕ) → find (λ p. ends_beyond file p 32) (entry_offsets (file_header file).program_offset 32
    (file_header file).program_count) ≡ programs →
    Says file (option_or (option_map (λ n. TooShort n) programs) (option_or (cut_section_header file) None))
unfolding Says cut_section_header
says-sections file (Some place) e = inr (inl (cut-first file (file_header file).program_offset 32 (file_header file).program_count place e))
says-sections file None e =
    let h = file_header file in
    let fits : FitsIn file h.program_offset 32 h.program_count = none_cut file h.program_offset 32 h.program_count e in
    says-option_or file (option_map (λ n. TooShort n) (find (λ p. ends_beyond file p 40) (entry_offsets h.section_offset 40 (number_of_sections h)))) None
    (says-option_map file (λ n. TooShort n) (find (λ p. ends_beyond file p 40) (entry_offsets h.section_offset 40 (number_of_sections h)))
    (λ place f. inr (inr (fits, cut-first file h.section_offset 40 (number_of_sections h) place f)))) tt

-- the tests of the tables
says-tables : (file : List ℕ) → Says file (table_refusal file)
unfolding table_refusal bad_program_size bad_section_size cut_program_header
says-tables file =
    let h = file_header file in
    let cuts = option_or (cut_program_header file) (option_or (cut_section_header file) None) in
    says-option_or file (bad_program_size h) (option_or (bad_section_size h) cuts)
    (says-where_so file (not (h.program_count == 0) && not (h.program_size == 32)) (BadHeaderSize h.program_size) (λ e. let w =
    wrong_size h.program_count h.program_size 32 e in inl (w.0, refl, w.1)))
    (says-option_or file (bad_section_size h) cuts
    (says-where_so file (not (number_of_sections h == 0) && not (h.section_size == 40)) (BadHeaderSize h.section_size) (λ e. let w =
    wrong_size (number_of_sections h) h.section_size 40 e in inr (w.0, refl, w.1)))
    (says-sections file _ refl))

-- the first header that a test finds
first-header : (test : ProgramHeader → Bool) (So : ProgramHeader → Type 0) → ((h : ProgramHeader) → test h ≡ true → So h) →
    ((h : ProgramHeader) → test h ≡ false → ¬ So h) → (hs : List ProgramHeader) (i : ℕ) → position test hs ≡ Some i → IsFirstHeader So hs i
first-header test So passing failing hs i e = record {
  within = (position-Some test hs i no_header e).0;
  so = λ d. passing (get_or hs i d) (position-Some test hs i d e).1;
  first = λ k below d. failing (get_or hs k d) ((position-Some test hs i d e).2 k below);
}

-- a segment outside the file
outside-yes : (file : List ℕ) (h : ProgramHeader) → ends_outside file h ≡ true → EndsBeyond file h
outside-yes file h e = let both = both_hold (is_loaded h) (ends_beyond file h.offset h.filesz) e in
    let beyond : nat_lt (length file) (h.offset + h.filesz) ≡ true = both.1 in (both.0, grind (arith, nat_tests))

-- and a segment that is not outside it
outside-no : (file : List ℕ) (h : ProgramHeader) → ends_outside file h ≡ false → ¬ EndsBeyond file h
outside-no file h e so = let load = so.0 in let beyond = so.1 in let test : ends_beyond file h.offset h.filesz ≡ true = grind (arith, nat_tests) in
    never (ends_outside file h) (both_true (is_loaded h) (ends_beyond file h.offset h.filesz) load test) e

-- a segment that is larger in the file than in memory
larger-yes : (h : ProgramHeader) → is_larger h ≡ true → IsLarger h
larger-yes h e = let both = both_hold (is_loaded h) (nat_lt h.memsz h.filesz) e in let beyond : nat_lt h.memsz h.filesz ≡ true = both.1 in
    (both.0, grind (arith, nat_tests))

-- and a segment that is not
larger-no : (h : ProgramHeader) → is_larger h ≡ false → ¬ IsLarger h
larger-no h e so = let load = so.0 in let beyond = so.1 in let test : nat_lt h.memsz h.filesz ≡ true = grind (arith, nat_tests) in
    never (is_larger h) (both_true (is_loaded h) (nat_lt h.memsz h.filesz) load test) e

-- a kind, according to the test
same_kind : (h : ProgramHeader) → is_interpreter h ≡ true → h.kind ≡ 3
same_kind h e = grind (arith, nat_tests)

-- some header names an interpreter
interpreter-any : (hs : List ProgramHeader) → list_any is_interpreter hs ≡ true → Any (λ h. h.kind ≡ 3) hs
interpreter-any hs e = let a = Any-from_list_any is_interpreter hs e in (a.0, a.1, a.2, a.3, same_kind a.1 a.4)

-- the tests of the segments
says-segments : (file : List ℕ) → Says file (segment_refusal file)
unfolding segment_refusal needs_interpreter outside_file larger_than_memory AllSay
says-segments file =
    says-first_of file (segment_tests file) (
      says-where_so file (list_any is_interpreter (program_headers file)) NeedsInterpreter (λ e. interpreter-any (program_headers file) e),
      (
        says-option_map file (λ i. OutsideFile i) (position (ends_outside file) (program_headers file))
            (λ i e. first-header (ends_outside file) (EndsBeyond file) (outside-yes file) (outside-no file) (program_headers file) i e),
        (
          says-option_map file (λ i. FileLargerThanMemory i) (position is_larger (program_headers file))
              (λ i e. first-header is_larger IsLarger larger-yes larger-no (program_headers file) i e),
          tt,
        ),
      ),
    )

-- the test of a table
says-table : (file : List ℕ) (o : Option ℕ) → first_symbol_table file ≡ o → Says file (bad_table file o)
unfolding Says
says-table file None e = tt
says-table file (Some i) e = says-where_so file (not (is_sound_table file (section_at file i))) (BadSymbols i)
    (λ bad. (e, λ r. fails (is_sound_table file (section_at file i)) bad (readable-sound file (section_at file i) r)))

-- the test of the symbols
says-symbols : (file : List ℕ) → Says file (bad_symbols file)
unfolding bad_symbols
says-symbols file = says-table file (first_symbol_table file) refl

-- all tests
says-refusal : (file : List ℕ) → Says file (file_refusal file)
unfolding file_refusal AllSay
says-refusal file = says-first_of file (groups file) (says-identity file, (says-target file, (says-tables file, (says-segments file, (says-symbols file, tt)))))

-- what holds for a refusal that is given
told-cause : (file : List ℕ) (o : Option ElfErr) (e : ElfErr) → o ≡ Some e → Says file o → IsElfCause file e
unfolding Says
told-cause file None e h s = cc
told-cause file (Some x) e h s = let same : x ≡ e = cc in subst (λ (y : ElfErr). IsElfCause file y) same s

-- a refusal names its true cause
pub refusal-cause : (file : List ℕ) (e : ElfErr) → file_refusal file ≡ Some e → IsElfCause file e
refusal-cause file e h = told-cause file (file_refusal file) e h (says-refusal file)
