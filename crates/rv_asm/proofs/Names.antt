-- Names are ASCII.
use Rattle.std.proofs.Common.{◌≡◌, ℕ, ◌+◌, ◌<◌, Bool, true, false, List, [], ◌∷◌, zero, suc, take, cond, refl, arith, get_or, lit<}
use Rattle.std.specs.Str.{IsUtf8}
use Rattle.std.proofs.lemmas.Str.{IsUtf8-from_ascii}
use Rattle.std.proofs.lemmas.Bool.Decides.{nat_tests}
use Rattle.std.proofs.lemmas.Grind.{common_steps}
use Rattle.rv_asm.specs.Scanning.{is_name_start, is_name_byte, name_length}

name_byte-ascii : (byte : ℕ) → is_name_byte byte ≡ true → byte < 128
unfolding is_name_byte is_name_start
name_byte-ascii byte h = grind (arith, nat_tests)

take_past : (n : ℕ) (x : ℕ) (xs : List ℕ) → take (1 + n) (x ∷ xs) ≡ x ∷ take n xs
take_past n x xs = grind (arith, common_steps)

first-ascii : (byte : ℕ) (xs : List ℕ) → byte < 128 → ((j : ℕ) → get_or xs j 0 < 128) → (i : ℕ) → get_or (byte ∷ xs) i 0 < 128
first-ascii byte xs h k zero = h
first-ascii byte xs h k (suc i) = k i

by_byte : (t : Bool) (n byte : ℕ) (text : List ℕ) → (t ≡ true → byte < 128) → ((j : ℕ) → get_or (take n text) j 0 < 128)
    → (i : ℕ) → get_or (take (cond t (1 + n) 0) (byte ∷ text)) i 0 < 128
by_byte true n byte text h k i = rw take_past (first-ascii byte (take n text) (h refl) k i)
by_byte false n byte text h k i = lit< tt

name-ascii : (text : List ℕ) (i : ℕ) → get_or (take (name_length text) text) i 0 < 128
name-ascii [] i = lit< tt
name-ascii (byte ∷ text) i = by_byte (is_name_byte byte) (name_length text) byte text (name_byte-ascii byte) (name-ascii text) i

pub name-utf8 : (text : List ℕ) → IsUtf8 (take (name_length text) text)
name-utf8 text = IsUtf8-from_ascii (take (name_length text) text) (name-ascii text)

pub ruleset names = (name-utf8)
