-- The sidings keep their numbers of cells.
use Rattle.std.proofs.Common.{◌≡◌, ◌∙◌, ℕ, zero, suc, List, [], ◌∷◌, length, map, refl, ap}
use Rattle.std.specs.Prelude.{slice_index_or, slice_set}

-- a siding is changed to one with as many cells
pub lengths-set : {A : Type 0} (sidings : List (List A)) (k : ℕ) (old new : List A) → old ≡ slice_index_or sidings k old → length new ≡ length old →
    map length (slice_set sidings k new) ≡ map length sidings
lengths-set [] k old new e same = refl
lengths-set (s ∷ sidings) zero old new e same = ap (λ (n : ℕ). n ∷ map length sidings) (same ∙ ap length e)
lengths-set (s ∷ sidings) (suc k) old new e same = ap (λ (l : List ℕ). length s ∷ l) (lengths-set sidings k old new e same)
