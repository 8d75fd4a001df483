-- The test of a symbol table determines whether it can be read.
use Rattle.std.proofs.Common.{◌≡◌, ℕ, ◌+◌, ◌-◌, ◌%◌, ◌<◌, ◌≤◌, List, length, drop, All, Bool, true, false, get_or, zero, suc, [], ◌∷◌, refl, sym, subst, arith}
use Rattle.std.specs.Prelude.{nat_lt, not, ◌&&◌, ◌==◌, slice_index}
use Rattle.std.specs.List.{list_all}
use Rattle.std.proofs.lemmas.Bool.Decides.{nat_tests}
use Rattle.std.proofs.lemmas.List.{length-take-le, length-drop}
use Rattle.elf_view.specs.declared.headers.SectionHeader.{SectionHeader}
use Rattle.elf_view.specs.Fields.{bytes_at, ends_beyond}
use Rattle.elf_view.specs.Headers.{file_header, number_of_sections}
use Rattle.elf_view.specs.Sections.{is_within_file, section_bytes, entries_of, has_whole_entries, ends_in_nul, names_begin_in, has_sound_names, is_sound_table, section_at, HasNames, IsReadable}

-- of two tests that both hold, each holds
pub both_hold : (a b : Bool) → (a && b) ≡ true → (a ≡ true) × (b ≡ true)
both_hold true b e = (refl, e)
both_hold false b e = cc

-- no test both holds and fails
pub never : (a : Bool) → a ≡ true → a ≡ false → ⊥
never true e h = cc
never false e h = cc

-- two tests that each hold also hold together
pub both_true : (a b : Bool) → a ≡ true → b ≡ true → (a && b) ≡ true
both_true true b e f = f
both_true false b e f = cc

-- what a test of all elements says about each
all_hold : {X : Type 0} (p : X → Bool) (xs : List X) → list_all p xs ≡ true → All (λ x. p x ≡ true) xs
all_hold p [] e k d within = absurd (omega arith)
all_hold p (x ∷ xs) e zero d within = (both_hold (p x) (list_all p xs) e).0
all_hold p (x ∷ xs) e (suc k) d within = all_hold p xs (both_hold (p x) (list_all p xs) e).1 k d (omega arith)

-- a test that holds for each element holds for all
all_true : {X : Type 0} (p : X → Bool) (xs : List X) → All (λ x. p x ≡ true) xs → list_all p xs ≡ true
all_true p [] all = refl
all_true p (x ∷ xs) all = both_true (p x) (list_all p xs) (all 0 x (omega arith)) (all_true p xs (λ k d within. all (suc k) d (omega arith)))

-- a test whose negation holds is false
turned : (a : Bool) → not a ≡ true → a ≡ false
turned true e = cc
turned false e = refl

-- bytes are in the file if the test says that they do not end beyond it
pub lies-within : (file : List ℕ) (at size : ℕ) → not (ends_beyond file at size) ≡ true → at + size ≤ length file
lies-within file at size e = let inside : nat_lt (length file) (at + size) ≡ false = turned _ e in grind (arith, nat_tests)

-- and only then
pub within-lies : (file : List ℕ) (at size : ℕ) → at + size ≤ length file → not (ends_beyond file at size) ≡ true
within-lies file at size within = let inside : nat_lt (length file) (at + size) ≡ false = grind (arith, nat_tests) in rw inside refl

-- the bytes of a part of the file are as many as requested
pub length-bytes_at : (file : List ℕ) (at size : ℕ) → at + size ≤ length file → length (bytes_at file at size) ≡ size
length-bytes_at file at size within = let rest : length (drop at file) ≡ length file - at = length-drop at file in
    length-take-le size (drop at file) (omega arith)

-- what the test of the last byte means
nul-closed : (bytes : List ℕ) (size : ℕ) → length bytes ≡ size → ends_in_nul bytes ≡ true → (0 < size) × (slice_index bytes (size - 1) ≡ 0)
nul-closed bytes size e h =
    let tests = both_hold (nat_lt 0 (length bytes)) (slice_index bytes (length bytes - 1) == 0) h in
    let some : nat_lt 0 (length bytes) ≡ true = tests.0 in
    let last : (slice_index bytes (length bytes - 1) == 0) ≡ true = tests.1 in
    let at : slice_index bytes (length bytes - 1) ≡ 0 = grind (arith, nat_tests) in
    (grind (arith, nat_tests), subst (λ (n : ℕ). slice_index bytes (n - 1) ≡ 0) e at)

-- and when the test holds
closed-nul : (bytes : List ℕ) (size : ℕ) → length bytes ≡ size → 0 < size → slice_index bytes (size - 1) ≡ 0 → ends_in_nul bytes ≡ true
closed-nul bytes size e some at =
    let last : slice_index bytes (length bytes - 1) ≡ 0 = subst (λ (n : ℕ). slice_index bytes (n - 1) ≡ 0) (sym e) at in
    both_true (nat_lt 0 (length bytes)) (slice_index bytes (length bytes - 1) == 0) (grind (arith, nat_tests)) (grind (arith, nat_tests))

-- a number below another, by the test
below-true : (a b : ℕ) → a < b → nat_lt a b ≡ true
below-true a b h = grind (arith, nat_tests)

-- and conversely
true-below : (a b : ℕ) → nat_lt a b ≡ true → a < b
true-below a b h = grind (arith, nat_tests)

-- names that pass the test have the properties tested
sound-names : (file : List ℕ) (table names : SectionHeader) → has_sound_names file table names ≡ true → HasNames file names (entries_of file table)
sound-names file table names e =
    let lies = both_hold (is_within_file file names) (ends_in_nul (section_bytes file names) && names_begin_in names (entries_of file table)) e in
    let rest = both_hold (ends_in_nul (section_bytes file names)) (names_begin_in names (entries_of file table)) lies.1 in
    let within = lies-within file names.offset names.size lies.0 in
    let closed = nul-closed (section_bytes file names) names.size (length-bytes_at file names.offset names.size within) rest.0 in
    record {
      within = within;
      filled = closed.0;
      closed = closed.1;
      begin = λ k d below. true-below (get_or (entries_of file table) k d).name names.size
          (all_hold (λ e. nat_lt e.name names.size) (entries_of file table) rest.1 k d below);
    }

-- and such names pass the test
names-sound : (file : List ℕ) (table names : SectionHeader) → HasNames file names (entries_of file table) → has_sound_names file table names ≡ true
names-sound file table names h =
    both_true (is_within_file file names) (ends_in_nul (section_bytes file names) && names_begin_in names (entries_of file table))
    (within-lies file names.offset names.size h.within)
    (both_true (ends_in_nul (section_bytes file names)) (names_begin_in names (entries_of file table))
    (closed-nul (section_bytes file names) names.size (length-bytes_at file names.offset names.size h.within) h.filled h.closed)
    (all_true (λ e. nat_lt e.name names.size) (entries_of file table) (λ k d below. below-true (get_or (entries_of file table) k d).name names.size
    (h.begin k d below))))

-- whole entries, according to the test
whole-true : (table : SectionHeader) → table.entry_size ≡ 16 → table.size % 16 ≡ 0 → has_whole_entries table ≡ true
whole-true table e h = both_true (table.entry_size == 16) (table.size % 16 == 0) (grind (arith, nat_tests)) (grind (arith, nat_tests))

-- and conversely
true-whole : (table : SectionHeader) → has_whole_entries table ≡ true → (table.entry_size ≡ 16) × (table.size % 16 ≡ 0)
true-whole table e = let tests = both_hold (table.entry_size == 16) (table.size % 16 == 0) e in
    let first : (table.entry_size == 16) ≡ true = tests.0 in let second : (table.size % 16 == 0) ≡ true = tests.1 in
    (grind (arith, nat_tests), grind (arith, nat_tests))

-- a symbol table that passes the test can be read
pub sound-readable : (file : List ℕ) (table : SectionHeader) → is_sound_table file table ≡ true → IsReadable file table
sound-readable file table e =
    let whole = both_hold (has_whole_entries table) (is_within_file file table && (nat_lt table.link (number_of_sections (file_header file))
    && has_sound_names file table (section_at file table.link))) e in
    let lies = both_hold (is_within_file file table) (nat_lt table.link (number_of_sections (file_header file))
    && has_sound_names file table (section_at file table.link)) whole.1 in
    let linked = both_hold (nat_lt table.link (number_of_sections (file_header file))) (has_sound_names file table (section_at file table.link)) lies.1 in
    let entries = true-whole table whole.0 in
    record {
      entry_size = entries.0;
      whole = entries.1;
      within = lies-within file table.offset table.size lies.0;
      linked = true-below table.link (number_of_sections (file_header file)) linked.0;
      names = sound-names file table (section_at file table.link) linked.1;
    }

-- and one that can be read passes it
pub readable-sound : (file : List ℕ) (table : SectionHeader) → IsReadable file table → is_sound_table file table ≡ true
readable-sound file table r =
    both_true (has_whole_entries table) (is_within_file file table && (nat_lt table.link (number_of_sections (file_header file))
    && has_sound_names file table (section_at file table.link)))
    (whole-true table r.entry_size r.whole)
    (both_true (is_within_file file table) (nat_lt table.link (number_of_sections (file_header file)) && has_sound_names file table
    (section_at file table.link))
    (within-lies file table.offset table.size r.within)
    (both_true (nat_lt table.link (number_of_sections (file_header file))) (has_sound_names file table (section_at file table.link))
    (below-true table.link (number_of_sections (file_header file)) r.linked) (names-sound file table (section_at file table.link) r.names)))
