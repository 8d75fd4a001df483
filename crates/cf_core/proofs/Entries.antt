-- Two lists that are compared entry by entry.
use Rattle.std.proofs.Common.{◌≡◌, ℕ, zero, suc, ◌+◌, ◌<◌, ◌≤◌, List, [], ◌∷◌, Option, length, take, get_or, add-one, refl}
use Rattle.std.proofs.Math.Seq.{take-suc}
use Rattle.std.proofs.lemmas.List.{take_all}
use Rattle.cf_bind.specs.declared.cell.Op.{Op}
use Rattle.cf_sidings.specs.Sidings.{cells_in}

-- lists that agree before an index and at it agree before the next index
same_next : {X : Type 0} (d : X) (xs ys : List X) (k : ℕ) → k < length xs → k < length ys → take k xs ≡ take k ys → get_or xs k d ≡ get_or ys k d →
    take (k + 1) xs ≡ take (k + 1) ys
same_next d xs ys k h g before here = rw (add-one k, take-suc xs k d h, take-suc ys k d g, before, here) refl

-- the same for lists of numbers
pub number-next : (xs ys : List ℕ) (k : ℕ) → k < length xs → k < length ys → take k xs ≡ take k ys → get_or xs k 0 ≡ get_or ys k 0 →
    take (k + 1) xs ≡ take (k + 1) ys
number-next = same_next 0

-- lists that agree up to the end are equal
pub same-whole : {X : Type 0} (xs ys : List X) (k : ℕ) → length xs ≤ k → length ys ≤ k → take k xs ≡ take k ys → xs ≡ ys
same-whole xs ys k h g e = rw (take_all k xs h, take_all k ys g) at e

pub ruleset entries = (number-next, same-whole)

-- the cells of the siding of a number are the list's entry at that number
cells_at : (sidings : List (List (Option Op))) (k : ℕ) → cells_in sidings k ≡ get_or sidings k []
cells_at [] k = refl
cells_at (ops ∷ sidings) zero = refl
cells_at (ops ∷ sidings) (suc k) = cells_at sidings k

-- the same for the sidings
pub siding-next : (xs ys : List (List (Option Op))) (k : ℕ) → k < length xs → k < length ys → take k xs ≡ take k ys → cells_in xs k ≡ cells_in ys k →
    take (k + 1) xs ≡ take (k + 1) ys
siding-next xs ys k h g before here = same_next [] xs ys k h g before (rw (cells_at xs k, cells_at ys k) at here)

pub ruleset sidings = (siding-next)
