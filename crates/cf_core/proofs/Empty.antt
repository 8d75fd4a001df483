-- A list is empty if it has no element.
use Rattle.std.proofs.Common.{◌≡◌, ℕ, List, [], ◌∷◌, length, refl, arith}
use Rattle.std.specs.Prelude.{nat_eq}
use Rattle.std.proofs.lemmas.Bool.Decides.{nat_tests}
use Rattle.cf_semantics.specs.state.Drained.{is_empty}

pub empty-length : (xs : List ℕ) → nat_eq (length xs) 0 ≡ is_empty xs
empty-length [] = refl
empty-length (x ∷ xs) = grind (arith, nat_tests)

pub ruleset emptying = (empty-length)
