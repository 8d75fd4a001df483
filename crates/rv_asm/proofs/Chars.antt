-- A string is read byte by byte from the start of a text.
use Rattle.std.proofs.Common.{◌≡◌, ℕ, ◌+◌, Bool, true, false, Option, Some, None, List, [], ◌∷◌, ◌++◌, length, refl, ap, arith, append_assoc}
use Rattle.std.specs.Prelude.{option_map, if◌then◌else◌}
use Rattle.std.proofs.lemmas.Bool.Decides.{nat_tests}
use Rattle.std.proofs.lemmas.List.{append-nil}
use Rattle.rv_asm.specs.Strings.{onto, end_of_string, string_from}

-- a `"` ends a string only at the end of the text
pub quote_alone : (rest : List ℕ) → string_from false (34 ∷ rest) ≡ end_of_string (34 ∷ rest)
quote_alone [] = refl
quote_alone (byte ∷ rest) = grind (arith, nat_tests)

pub pushed : (bytes : List ℕ) (byte : ℕ) (left : Option (List ℕ))
    → option_map (λ string. (bytes ++ byte ∷ []) ++ string) left ≡ option_map (λ string. bytes ++ string) (onto (Some byte) left)
pushed bytes byte None = refl
pushed bytes byte (Some string) = ap Some (append_assoc bytes (byte ∷ []) string)

pub counted : (count byte : ℕ) (left : Option (List ℕ))
    → option_map (λ string. count + 1 + length string) left ≡ option_map (λ string. count + length string) (onto (Some byte) left)
counted count byte None = refl
counted count byte (Some string) = let e : count + 1 + length string ≡ count + length (byte ∷ string) = omega arith in ap Some e

pub whole : (closed : Bool) (bytes : List ℕ) → option_map (λ string. bytes ++ string) (if closed then Some [] else None) ≡ (if closed then Some bytes else None)
whole true bytes = ap Some (append-nil bytes)
whole false bytes = refl

pub ruleset chars = (pushed, whole)

pub ruleset counts = (counted)
