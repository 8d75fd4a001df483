-- The lines of bytes, word by word.
use Rattle.std.proofs.Common.{◌≡◌, ℕ, ◌+◌, ◌%◌, ◌^◌, ◌<◌, ◌≤◌, Bool, true, false, List, [], ◌∷◌, ◌++◌, length, drop, refl, ap, ◌∙◌, sym, arith, suc, zero}
use Rattle.std.specs.Prelude.{◌==◌, ◌&&◌, nat_le}
use Rattle.std.specs.Int.{w32, from_le_bytes}
use Rattle.std.proofs.lemmas.Bool.Decides.{nat_tests}
use Rattle.std.specs.List.{flat_map}
use Rattle.elf_view.specs.Segments.{LoadSegment}
use Rattle.elf_view.specs.Symbols.{NamedSymbol}
use Rattle.asm_listing.specs.Labels.{HaveLines}
use Rattle.asm_listing.specs.Lines.{label_lines, word_line, listed_at, listed_from, skipped, IsFirstWord}
use Rattle.asm_listing.specs.Listing.{segment_lines}

-- no word is at an address that is not a multiple of 4
pub unaligned : (symbols : List NamedSymbol) (pc : ℕ) (bytes : List ℕ) → 1 ≤ pc % 4 → listed_at symbols pc bytes ≡ []
unfolding listed_at
unaligned symbols pc bytes h = let no : (pc % 4 == 0) ≡ false = grind (arith, nat_tests) in rw no refl

both-false : (a : Bool) → (a && false) ≡ false
both-false true = refl
both-false false = refl

-- and none is in fewer than four bytes
pub too-few : (symbols : List NamedSymbol) (pc : ℕ) (bytes : List ℕ) → length bytes ≤ 3 → listed_at symbols pc bytes ≡ []
unfolding listed_at
too-few symbols pc bytes h = let no : nat_le 4 (length bytes) ≡ false = grind (arith, nat_tests) in rw (no, both-false (pc % 4 == 0)) refl

pub no-lines : (symbols : List NamedSymbol) (pc : ℕ) (bytes : List ℕ) → length bytes ≤ 3 → listed_from symbols pc bytes ≡ []
no-lines symbols pc [] h = refl
no-lines symbols pc (b ∷ bs) h = rw (too-few symbols pc (b ∷ bs) h, no-lines symbols ((pc + 1) % 2 ^ 32) bs (omega arith)) refl

-- the next address is within the same word
next-address : (pc : ℕ) → pc < 2 ^ 32 → 1 ≤ pc % 4 → (skipped pc ≡ suc (skipped ((pc + 1) % 2 ^ 32)))
next-address pc h k = omega arith

same-address : (pc n : ℕ) → ((pc + 1) % 2 ^ 32 + n) % 2 ^ 32 ≡ (pc + suc n) % 2 ^ 32
same-address pc n = omega arith

below : (pc : ℕ) → pc % 2 ^ 32 < 2 ^ 32
below pc = omega arith

-- the bytes before the first address that is a multiple of 4 have no line
pub skip-by : (n : ℕ) (symbols : List NamedSymbol) (pc : ℕ) (bytes : List ℕ) → n ≡ skipped pc → pc < 2 ^ 32
    → listed_from symbols pc bytes ≡ listed_from symbols ((pc + n) % 2 ^ 32) (drop n bytes)
skip-by zero symbols pc bytes e h = let same : pc ≡ (pc + 0) % 2 ^ 32 = omega arith in ap (λ (at : ℕ). listed_from symbols at bytes) same
skip-by (suc n) symbols pc [] e h = refl
skip-by (suc n) symbols pc (b ∷ bs) e h =
    let off : 1 ≤ pc % 4 = omega arith in
    let next = (pc + 1) % 2 ^ 32 in
    ap (λ (l : List ℕ). l ++ listed_from symbols next bs) (unaligned symbols pc (b ∷ bs) off)
    ∙ skip-by n symbols next bs (omega (arith, next-address pc h off)) (below (pc + 1))
    ∙ ap (λ (at : ℕ). listed_from symbols at (drop n bs)) (same-address pc n)

pub skip : (symbols : List NamedSymbol) (pc next : ℕ) (bytes rest : List ℕ) → next ≡ (pc + skipped pc) % 2 ^ 32 → rest ≡ drop (skipped pc) bytes → pc < 2 ^ 32
    → listed_from symbols next rest ≡ listed_from symbols pc bytes
skip symbols pc next bytes rest e k h = rw (e, k) (sym (skip-by (skipped pc) symbols pc bytes refl h))

pub skipped-aligned : (pc next : ℕ) → next ≡ (pc + skipped pc) % 2 ^ 32 → pc < 2 ^ 32 → next % 4 ≡ 0
skipped-aligned pc next e h = omega arith

-- the bytes after the first of a word have no line
others : (symbols : List NamedSymbol) (pc b c d : ℕ) (rest : List ℕ) → pc < 2 ^ 32 → pc % 4 ≡ 0
    → listed_from symbols ((pc + 1) % 2 ^ 32) (b ∷ c ∷ d ∷ rest) ≡ listed_from symbols ((pc + 4) % 2 ^ 32) rest
others symbols pc b c d rest h k =
    let three : skipped ((pc + 1) % 2 ^ 32) ≡ 3 = omega arith in
    let at : ((pc + 1) % 2 ^ 32 + 3) % 2 ^ 32 ≡ (pc + 4) % 2 ^ 32 = omega arith in
    skip-by 3 symbols ((pc + 1) % 2 ^ 32) (b ∷ c ∷ d ∷ rest) (sym three) (below (pc + 1)) ∙ ap (λ (n : ℕ). listed_from symbols n rest) at

-- a word at an address that is a multiple of 4
pub word-first : (symbols : List NamedSymbol) (pc a b c d : ℕ) (rest : List ℕ) → pc % 4 ≡ 0 → pc < 2 ^ 32
    → listed_from symbols pc (a ∷ b ∷ c ∷ d ∷ rest)
    ≡ (label_lines symbols pc ++ word_line pc (from_le_bytes w32 (a ∷ b ∷ c ∷ d ∷ []))) ++ listed_from symbols ((pc + 4) % 2 ^ 32) rest
unfolding listed_at
word-first symbols pc a b c d rest k h =
    let yes : (pc % 4 == 0) ≡ true = grind (arith, nat_tests) in
    let some : nat_le 4 (length (a ∷ b ∷ c ∷ d ∷ rest)) ≡ true = grind (arith, nat_tests) in
    let first : listed_at symbols pc (a ∷ b ∷ c ∷ d ∷ rest) ≡ label_lines symbols pc ++ word_line pc (from_le_bytes w32 (a ∷ b ∷ c ∷ d ∷ [])) =
    rw (yes, some) refl in
    ap (λ (l : List ℕ). l ++ listed_from symbols ((pc + 1) % 2 ^ 32) (b ∷ c ∷ d ∷ rest)) first
    ∙ ap (λ (l : List ℕ). (label_lines symbols pc ++ word_line pc (from_le_bytes w32 (a ∷ b ∷ c ∷ d ∷ []))) ++ l) (others symbols pc b c d rest h k)

-- the same for any bytes, if there are at least four
pub word-next : (symbols : List NamedSymbol) (pc next word : ℕ) (bytes rest : List ℕ) → IsFirstWord bytes word rest
    → next ≡ (pc + 4) % 2 ^ 32 → pc % 4 ≡ 0 → pc < 2 ^ 32
    → listed_from symbols pc bytes ≡ (label_lines symbols pc ++ word_line pc word) ++ listed_from symbols next rest
word-next symbols pc next word [] rest f n k h = absurd (omega (arith, f.enough))
word-next symbols pc next word (a ∷ []) rest f n k h = absurd (omega (arith, f.enough))
word-next symbols pc next word (a ∷ b ∷ []) rest f n k h = absurd (omega (arith, f.enough))
word-next symbols pc next word (a ∷ b ∷ c ∷ []) rest f n k h = absurd (omega (arith, f.enough))
word-next symbols pc next word (a ∷ b ∷ c ∷ d ∷ bs) rest f n k h = rw (f.word_is, f.after_is, n) (word-first symbols pc a b c d bs k h)

pub next-aligned : (pc next : ℕ) → next ≡ (pc + 4) % 2 ^ 32 → pc % 4 ≡ 0 → (next % 4 ≡ 0) × (next < 2 ^ 32)
next-aligned pc next e h = (omega arith, omega arith)

pub ruleset words = (no-lines)

pub ruleset walked = (skip, skipped-aligned)

-- labels that have the lines of the symbols give the same lines of words
lines-same : (symbols labels : List NamedSymbol) → HaveLines symbols labels → (pc : ℕ) (bytes : List ℕ) →
    listed_from labels pc bytes ≡ listed_from symbols pc bytes
unfolding listed_at
lines-same symbols labels h pc [] = refl
lines-same symbols labels h pc (byte ∷ bytes) = rw (h.at pc, lines-same symbols labels h ((pc + 1) % 2 ^ 32) bytes) refl

segment-same : (symbols labels : List NamedSymbol) → HaveLines symbols labels → (segment : LoadSegment) →
    segment_lines labels segment ≡ segment_lines symbols segment
unfolding segment_lines
segment-same symbols labels h segment = rw (lines-same symbols labels h segment.vaddr segment.bytes) refl

-- and the same listing
pub segments-same : (symbols labels : List NamedSymbol) → HaveLines symbols labels → (segments : List LoadSegment)
    → flat_map (segment_lines labels) segments ≡ flat_map (segment_lines symbols) segments
segments-same symbols labels h [] = refl
segments-same symbols labels h (segment ∷ segments) = rw (segment-same symbols labels h segment, segments-same symbols labels h segments) refl

pub ruleset listings = (segments-same)
