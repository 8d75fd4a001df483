-- What holds for each element of a list in a loop.
use Rattle.std.proofs.Common.{◌≡◌, suc, List, [], ◌∷◌, All, Option, Some, None, subst, sym, arith}
use Rattle.std.specs.Prelude.{MatchOption}

-- what holds for each element holds for those after the first
all_after : {X : Type 0} (P : X → Type 0) (x : X) (xs : List X) → All P (x ∷ xs) → All P xs
all_after P x xs all k d within = all (suc k) d (omega arith)

-- what holds for each remaining element holds for those that remain after the next
pub all_left : {X : Type 0} (P : X → Type 0) (r : Option X) (old new : List X) → MatchOption r ((old ≡ []) × (new ≡ [])) (λ x. old ≡ x ∷ new) → All P old →
    All P new
all_left {X = X} P None old new e all = subst (λ (xs : List X). All P xs) (sym e.1) (λ k d within. absurd (omega arith))
all_left {X = X} P (Some x) old new e all = all_after P x new (subst (λ (xs : List X). All P xs) e all)
