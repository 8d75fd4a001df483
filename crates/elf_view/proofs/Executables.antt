-- A file passes all tests if and only if it is an executable that can be viewed.
use Rattle.std.proofs.Common.{◌≡◌, ◌≢◌, ℕ, zero, suc, ◌+◌, ◌*◌, ◌<◌, ◌≤◌, List, [], ◌∷◌, length, get_or, take, All, Bool, true, false, cond, Option, Some, None, refl, sym, arith}
use Rattle.std.specs.Prelude.{position, find, filter, nat_lt, not, ◌&&◌, ◌==◌, bit_and, slice_index}
use Rattle.std.specs.List.{list_any}
use Rattle.std.proofs.lemmas.Bool.Decides.{nat_tests}
use Rattle.std.proofs.lemmas.List.Elements.{All-map}
use Rattle.std.proofs.lemmas.List.Folds.{list_any_none, list_any_at}
use Rattle.std.proofs.lemmas.List.Quantifiers.{position-Some}
use Rattle.std.proofs.lemmas.Slice.Eq.{bytes_eq-Decides}
use Rattle.elf_view.specs.declared.headers.FileHeader.{FileHeader}
use Rattle.elf_view.specs.declared.headers.ProgramHeader.{ProgramHeader}
use Rattle.elf_view.specs.declared.refusal.ElfErr.{ElfErr}
use Rattle.elf_view.specs.declared.refusal.ElfErr.TheVariants.{TooShort, NotElf, Not32Little, NotRiscv, NotExecutable, NeedsCompressed, NeedsFloat, NeedsRve, BadHeaderSize, NeedsInterpreter}
use Rattle.elf_view.specs.Fields.{entry_offsets, ends_beyond, bytes_at, FitsIn}
use Rattle.elf_view.specs.Headers.{file_header, program_headers, number_of_sections}
use Rattle.elf_view.specs.Segments.{is_loaded, is_interpreter, segment_of, segments_of, IsSoundSegment, AreSound, IsLoadable}
use Rattle.elf_view.specs.Sections.{first_symbol_table, section_at, IsReadable}
use Rattle.elf_view.specs.Executables.{HasIdentity, HasTarget, HasTables, IsElf}
use Rattle.elf_view.specs.Refusal.{where_so, first_error, starts_with_elf, no_file_header, not_elf, not_32_little, identity_refusal, not_executable, not_riscv, needs_compressed, needs_float, needs_rve, target_refusal, bad_program_size, bad_section_size, cut_program_header, cut_section_header, table_refusal, needs_interpreter, ends_outside, is_larger, outside_file, larger_than_memory, segment_refusal, bad_table, bad_symbols, file_refusal}
use Rattle.elf_view.proofs.Accepted.{Pass, all_pass, groups_pass, tables_pass, segments_pass, programs_fit, sections_fit, segments_sound, table_readable}
use Rattle.elf_view.proofs.Groups.{identity_tests, target_tests, table_tests, segment_tests, groups, no_header}
use Rattle.elf_view.proofs.Readable.{both_hold, readable-sound, length-bytes_at, never}

-- ---- a file that passes all tests is an executable that can be viewed

-- a test that gives no error finds no fault
no_fault : (fault : Bool) (e : ElfErr) → where_so fault e ≡ None → fault ≡ false
no_fault true e h = cc
no_fault false e h = refl

-- a test whose negation fails holds
unturned : (a : Bool) → not a ≡ false → a ≡ true
unturned true e = refl
unturned false e = cc

-- two numbers that no test distinguishes
same : (a b : ℕ) (e : ElfErr) → where_so (not (a == b)) e ≡ None → a ≡ b
same a b e h = let test : (a == b) ≡ true = unturned (a == b) (no_fault (not (a == b)) e h) in grind (arith, nat_tests)

-- three bytes that are tested to be 1
three_ones : (a b c : ℕ) → (a == 1 && b == 1 && c == 1) ≡ true → (a ≡ 1) × (b ≡ 1) × (c ≡ 1)
three_ones a b c e =
    let outer = both_hold (a == 1 && b == 1) (c == 1) e in
    let inner = both_hold (a == 1) (b == 1) outer.0 in
    let first : (a == 1) ≡ true = inner.0 in let second : (b == 1) ≡ true = inner.1 in let third : (c == 1) ≡ true = outer.1 in
    (grind (arith, nat_tests), grind (arith, nat_tests), grind (arith, nat_tests))

-- the bytes at the beginning
passed-identity : (file : List ℕ) → identity_refusal file ≡ None → HasIdentity file
unfolding identity_refusal no_file_header not_elf not_32_little
passed-identity file e =
    let pass = all_pass (identity_tests file) e in
    let short : nat_lt (length file) 52 ≡ false = no_fault (nat_lt (length file) 52) (TooShort 0) pass.0 in
    let magic = unturned (starts_with_elf file) (no_fault (not (starts_with_elf file)) NotElf pass.1.0) in
    let ones = three_ones (slice_index file 4) (slice_index file 5) (slice_index file 6) (unturned (slice_index file 4 == 1 && slice_index file 5 == 1
    && slice_index file 6 == 1) (no_fault _ Not32Little pass.1.1.0)) in
    record {
      whole = grind (arith, nat_tests);
      magic = sym ((bytes_eq-Decides (0x7F ∷ 0x45 ∷ 0x4C ∷ 0x46 ∷ []) (take 4 file)).0 magic);
      class = ones.0;
      order = ones.1;
      version = ones.2;
    }

-- the target of the file
passed-target : (h : FileHeader) → target_refusal h ≡ None → HasTarget h
unfolding target_refusal not_executable not_riscv needs_compressed needs_float needs_rve
passed-target h e =
    let pass = all_pass (target_tests h) e in
    record {
      executable = same h.kind 2 (NotExecutable h.kind) pass.0;
      riscv = same h.machine 243 (NotRiscv h.machine) pass.1.0;
      not_compressed = same (bit_and h.flags 1) 0 NeedsCompressed pass.1.1.0;
      no_float = same (bit_and h.flags 6) 0 NeedsFloat pass.1.1.1.0;
      not_embedded = same (bit_and h.flags 8) 0 NeedsRve pass.1.1.1.1.0;
    }

-- a size that is tested is right
right_size : (count size right : ℕ) (some wrong : Bool) → (count == 0) ≡ some → (size == right) ≡ wrong → (not some && not wrong) ≡ false → 0 < count →
    size ≡ right
right_size count size right true wrong e f h above = grind (arith, nat_tests)
right_size count size right false true e f h above = grind (arith, nat_tests)
right_size count size right false false e f h above = cc

-- the tables of headers
passed-tables : (file : List ℕ) → file_refusal file ≡ None → HasTables file (file_header file)
unfolding bad_program_size bad_section_size
passed-tables file e =
    let pass = tables_pass file e in
    let h = file_header file in
    record {
      program_size = right_size h.program_count h.program_size 32 _ _ refl refl (no_fault (not (h.program_count == 0) && not (h.program_size == 32))
          (BadHeaderSize h.program_size) pass.0);
      section_size = right_size (number_of_sections h) h.section_size 40 _ _ refl refl (no_fault (not (number_of_sections h == 0) && not (h.section_size == 40))
          (BadHeaderSize h.section_size) pass.1.0);
      programs = programs_fit file e;
      sections = sections_fit file e;
    }

-- a header for which the test is false does not name an interpreter
other_kind : (h : ProgramHeader) → is_interpreter h ≡ false → h.kind ≢ 3
other_kind h e = λ k. grind (arith, nat_tests)

-- a test that cannot be true for an element is false for it
holds_of_none : {X : Type 0} (p : X → Bool) (x : X) (b : Bool) → p x ≡ b → (p x ≡ true → ⊥) → p x ≡ false
holds_of_none p x true e never = absurd (never e)
holds_of_none p x false e never = e

-- no interpreter
passed-interpreter : (file : List ℕ) → file_refusal file ≡ None → All (λ h. h.kind ≢ 3) (program_headers file)
unfolding needs_interpreter
passed-interpreter file e =
    let none = no_fault (list_any is_interpreter (program_headers file)) NeedsInterpreter (segments_pass file e).0 in
    λ k d within. other_kind (get_or (program_headers file) k d) (holds_of_none is_interpreter (get_or (program_headers file) k d) _ refl
    (λ is. never (list_any is_interpreter (program_headers file)) (list_any_at is_interpreter (program_headers file) k d within is) none))

-- a file that passes all tests can be viewed
pub accepted-elf : (file : List ℕ) → file_refusal file ≡ None → IsElf file
accepted-elf file e = record {
  identity = passed-identity file (groups_pass file e).0;
  target = passed-target (file_header file) (groups_pass file e).1.0;
  tables = passed-tables file e;
  no_interpreter = passed-interpreter file e;
  segments = segments_sound file e;
  symbols = λ i at. table_readable file i e (sym at);
}

-- ---- and its segments can be loaded

-- the segment of a sound header
loadable-segment : (file : List ℕ) (h : ProgramHeader) → IsSoundSegment file h → IsLoadable file (segment_of file h)
loadable-segment file h s =
    let size : length (bytes_at file h.offset h.filesz) ≡ h.filesz = length-bytes_at file h.offset h.filesz s.within in
    record { within = rw size s.within; content = rw size refl; room = rw size s.room }

-- the segments of a file that passes all tests
pub segments-loadable : (file : List ℕ) → file_refusal file ≡ None → All (IsLoadable file) (segments_of file)
unfolding segments_of
segments-loadable file e =
    let sound : All (IsSoundSegment file) (filter is_loaded (program_headers file)) = segments_sound file e in
    All-map (IsLoadable file) (segment_of file) (filter is_loaded (program_headers file))
    (λ k d within. loadable-segment file (get_or (filter is_loaded (program_headers file)) k d) (sound k d within))

-- ---- a file that can be viewed passes all tests

-- if none of the tests gives an error, they give none together
none_tells : (tests : List (Option ElfErr)) → Pass tests → first_error tests ≡ None
none_tells [] pass = refl
none_tells (test ∷ tests) pass = rw pass.0 (none_tells tests pass.1)

-- a test that finds no fault gives no error
tells_none : (fault : Bool) (e : ElfErr) → fault ≡ false → where_so fault e ≡ None
tells_none true e h = cc
tells_none false e h = refl

-- a test of two numbers that are the same
same_none : (a b : ℕ) (e : ElfErr) → a ≡ b → where_so (not (a == b)) e ≡ None
same_none a b e h = let test : (a == b) ≡ true = grind (arith, nat_tests) in rw test refl

-- the tests of the file's identity
identity-passes : (file : List ℕ) → HasIdentity file → identity_refusal file ≡ None
unfolding identity_refusal no_file_header not_elf not_32_little
identity-passes file i =
    let whole = i.whole in
    let short : nat_lt (length file) 52 ≡ false = grind (arith, nat_tests) in
    let magic : starts_with_elf file ≡ true = (bytes_eq-Decides (0x7F ∷ 0x45 ∷ 0x4C ∷ 0x46 ∷ []) (take 4 file)).1 (sym i.magic) in
    let class = i.class in let order = i.order in let version = i.version in
    none_tells (identity_tests file) (
      tells_none (nat_lt (length file) 52) (TooShort 0) short,
      (rw magic refl, (rw (class, order, version) refl, tt)),
    )

-- the tests of the file's target
target-passes : (h : FileHeader) → HasTarget h → target_refusal h ≡ None
unfolding target_refusal not_executable not_riscv needs_compressed needs_float needs_rve
target-passes h t =
    none_tells (target_tests h) (
      same_none h.kind 2 (NotExecutable h.kind) t.executable,
      (
        same_none h.machine 243 (NotRiscv h.machine) t.riscv,
        (
          same_none (bit_and h.flags 1) 0 NeedsCompressed t.not_compressed,
          (
            same_none (bit_and h.flags 6) 0 NeedsFloat t.no_float,
            (same_none (bit_and h.flags 8) 0 NeedsRve t.not_embedded, tt),
          ),
        ),
      ),
    )

-- a right size passes its test
size-passes : (count size right : ℕ) (e : ElfErr) (some wrong : Bool) → (count == 0) ≡ some → (size == right) ≡ wrong → (0 < count → size ≡ right) →
    where_so (not some && not wrong) e ≡ None
size-passes count size right e true wrong f g h = refl
size-passes count size right e false true f g h = refl
size-passes count size right e false false f g h = absurd (grind (arith, nat_tests))

-- no entry of a table in the file is cut off
fits-none : (file : List ℕ) (at size count : ℕ) → FitsIn file at size count → find (λ p. ends_beyond file p size) (entry_offsets at size count) ≡ None
fits-none file at size zero fits = refl
fits-none file at size (suc count) fits =
    let all : at + size * suc count ≤ length file = fits (omega arith) in
    let step : size * suc count ≡ size * count + size = grind arith in
    let first : nat_lt (length file) (at + size) ≡ false = grind (arith, nat_tests) in
    rw first (fits-none file (at + size) size count (λ some. omega (arith, all, step)))

-- the tests of the tables
tables-pass : (file : List ℕ) → HasTables file (file_header file) → table_refusal file ≡ None
unfolding table_refusal bad_program_size bad_section_size cut_program_header cut_section_header
tables-pass file t =
    let h = file_header file in
    let programs = fits-none file h.program_offset 32 h.program_count t.programs in
    let sections = fits-none file h.section_offset 40 (number_of_sections h) t.sections in
    none_tells (table_tests file) (
      size-passes h.program_count h.program_size 32 (BadHeaderSize h.program_size) _ _ refl refl t.program_size,
      (
        size-passes (number_of_sections h) h.section_size 40 (BadHeaderSize h.section_size) _ _ refl refl t.section_size,
        (rw programs refl, (rw sections refl, tt)),
      ),
    )

-- what holds for all elements that pass a test holds for the later ones, and for the first element if it passes
all-filtered : {X : Type 0} (p : X → Bool) (P : X → Type 0) (x : X) (xs : List X) (b : Bool) → p x ≡ b → All P (cond b (x ∷ filter p xs) (filter p xs)) →
    All P (filter p xs) × (p x ≡ true → P x)
all-filtered p P x xs true e all = (λ k d within. all (suc k) d (omega arith), λ _. all 0 x (omega arith))
all-filtered p P x xs false e all = (all, λ h. absurd (never (p x) h e))

-- for each element of the list
filtered-all : {X : Type 0} (p : X → Bool) (P : X → Type 0) (xs : List X) → All P (filter p xs) → All (λ x. p x ≡ true → P x) xs
filtered-all p P [] all k d within = absurd (omega arith)
filtered-all p P (x ∷ xs) all zero d within = (all-filtered p P x xs (p x) refl all).1
filtered-all p P (x ∷ xs) all (suc k) d within = filtered-all p P xs (all-filtered p P x xs (p x) refl all).0 k d (omega arith)

-- a test of a header that is loaded
loaded-fails : (load test : Bool) → (load ≡ true → test ≡ false) → (load && test) ≡ false
loaded-fails true test h = h refl
loaded-fails false test h = refl

-- a sound header is not outside the file
sound-inside : (file : List ℕ) (h : ProgramHeader) → (is_loaded h ≡ true → IsSoundSegment file h) → ends_outside file h ≡ false
sound-inside file h s = loaded-fails (is_loaded h) (ends_beyond file h.offset h.filesz) (λ load. let within = (s load).within in grind (arith, nat_tests))

-- and not larger there than in memory
sound-small : (file : List ℕ) (h : ProgramHeader) → (is_loaded h ≡ true → IsSoundSegment file h) → is_larger h ≡ false
sound-small file h s = loaded-fails (is_loaded h) (nat_lt h.memsz h.filesz) (λ load. let room = (s load).room in grind (arith, nat_tests))

-- there is no index of an element that passes if none does
no_index : (test : ProgramHeader → Bool) (hs : List ProgramHeader) (o : Option ℕ) → position test hs ≡ o → All (λ h. test h ≡ false) hs → o ≡ None
no_index test hs None e all = refl
no_index test hs (Some i) e all =
    let found = position-Some test hs i no_header e in
    absurd (never (test (get_or hs i no_header)) found.1 (all i no_header found.0))

-- the tests of the segments
segments-pass : (file : List ℕ) → All (λ h. h.kind ≢ 3) (program_headers file) → AreSound file (program_headers file) → segment_refusal file ≡ None
unfolding segment_refusal needs_interpreter outside_file larger_than_memory
segments-pass file other sound =
    let hs = program_headers file in
    let each : All (λ h. is_loaded h ≡ true → IsSoundSegment file h) hs = filtered-all is_loaded (IsSoundSegment file) hs sound in
    let interpreter : list_any is_interpreter hs ≡ false = list_any_none is_interpreter hs (λ k d within. let kind = other k d within in
    grind (arith, nat_tests)) in
    let outside : position (ends_outside file) hs ≡ None = no_index (ends_outside file) hs _ refl
    (λ k d within. sound-inside file (get_or hs k d) (each k d within)) in
    let larger : position is_larger hs ≡ None = no_index is_larger hs _ refl (λ k d within. sound-small file (get_or hs k d) (each k d within)) in
    none_tells (segment_tests file) (rw interpreter refl, (rw outside refl, (rw larger refl, tt)))

-- the test of a table
table-passes : (file : List ℕ) (o : Option ℕ) → first_symbol_table file ≡ o → ((i : ℕ) → first_symbol_table file ≡ Some i →
    IsReadable file (section_at file i)) → bad_table file o ≡ None
table-passes file None e readable = refl
table-passes file (Some i) e readable = let sound = readable-sound file (section_at file i) (readable i e) in rw sound refl

-- the test of the symbols
symbols-pass : (file : List ℕ) → ((i : ℕ) → first_symbol_table file ≡ Some i → IsReadable file (section_at file i)) → bad_symbols file ≡ None
unfolding bad_symbols
symbols-pass file readable = table-passes file (first_symbol_table file) refl readable

-- an executable that can be viewed passes all tests
pub elf-accepted : (file : List ℕ) → IsElf file → file_refusal file ≡ None
unfolding file_refusal
elf-accepted file elf =
    none_tells (groups file) (
      identity-passes file elf.identity,
      (
        target-passes (file_header file) elf.target,
        (
          tables-pass file elf.tables,
          (
            segments-pass file elf.no_interpreter elf.segments,
            (symbols-pass file elf.symbols, tt),
          ),
        ),
      ),
    )

-- a file that is refused is not such an executable
pub refused-no_elf : (file : List ℕ) (e : ElfErr) → file_refusal file ≡ Some e → ¬ IsElf file
refused-no_elf file e h elf = let passes = elf-accepted file elf in cc
