-- The text before the first NUL.
use Rattle.std.proofs.Common.{◌≡◌, ℕ, ◌+◌, ◌≤◌, suc, List, [], ◌∷◌, length, take, Bool, true, false, cond, Some, None, refl, sym, arith}
use Rattle.std.proofs.lemmas.Bool.Decides.{nat_tests}
use Rattle.std.proofs.lemmas.List.{take_all}
use Rattle.std.specs.Prelude.{position, nat_lt, not, slice_index_or, ◌==◌}
use Rattle.std.specs.List.{before_first, position_or_len, prefix_len}
use Rattle.elf_view.specs.Symbols.{first_text}
use Rattle.elf_view.proofs.Positions.{none_told}

-- the byte is NUL
abbrev is_nul : ℕ → Bool
is_nul byte = byte == 0

-- the index that is given is the one that was searched for
told_index : (t : Bool) (n i : ℕ) → Some i ≡ cond t (Some n) None → n ≡ i
told_index true n i e = cc
told_index false n i e = cc

-- the bytes up to the first NUL are those before it
pub stops_at_nul : (text : List ℕ) (end : ℕ) → Some end ≡ position (λ byte. byte == 0) text → take end text ≡ before_first (λ byte. byte == 0) text
stops_at_nul text end e = let at : position_or_len is_nul text ≡ end = told_index (nat_lt (position_or_len is_nul text) (length text))
    (position_or_len is_nul text) end e in rw at refl

-- if there is no NUL, they are all the bytes
pub goes_to_end : (text : List ℕ) → None ≡ position (λ byte. byte == 0) text → text ≡ before_first (λ byte. byte == 0) text
goes_to_end text e = sym (take_all _ text (none_told (nat_lt (position_or_len is_nul text) (length text)) (position_or_len is_nul text) (length text) refl
    (sym e)))

-- a text that begins with NUL ends there
ended : (byte : ℕ) (after : List ℕ) → is_nul byte ≡ true → length (first_text (byte ∷ after)) ≡ 0
ended byte after e = rw e refl

-- and any other has at least its first byte
begun : (byte : ℕ) (after : List ℕ) → is_nul byte ≡ false → 1 ≤ length (first_text (byte ∷ after))
begun byte after e =
    let count = prefix_len (λ b. not (b == 0)) after in
    let one : 1 + count ≡ suc count = omega arith in
    rw (e, one) (omega arith)

by_first : (byte n : ℕ) (t : Bool) → is_nul byte ≡ t → (is_nul byte ≡ true → n ≡ 0) → (is_nul byte ≡ false → 1 ≤ n) → not (byte == 0) ≡ not (n == 0)
by_first byte n true e none some = let h = none e in grind (arith, nat_tests)
by_first byte n false e none some = let h = some e in grind (arith, nat_tests)

-- a name is nonempty if its first byte is not NUL
pub named_first : (names : List ℕ) → 1 ≤ length names → not (slice_index_or names 0 0 == 0) ≡ not (length (first_text names) == 0)
named_first [] some = absurd (omega arith)
named_first (byte ∷ after) some = by_first byte (length (first_text (byte ∷ after))) (is_nul byte) refl (ended byte after) (begun byte after)

pub ruleset names = (named_first)
