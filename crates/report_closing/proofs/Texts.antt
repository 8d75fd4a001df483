-- A line of two texts, added to a page one after the other.
use Rattle.std.proofs.Common.{◌≡◌, ℕ, List, ◌++◌, append_assoc, refl}
use Rattle.texts.specs.Lines.{line, newline}

pub line-of-two : (old one two new x y : List ℕ) → one ≡ old ++ x → two ≡ one ++ y → new ≡ two ++ newline → new ≡ old ++ line (x ++ y)
line-of-two old one two new x y first second last = rw (last, second, first, append_assoc old x y, append_assoc old (x ++ y) newline) refl
