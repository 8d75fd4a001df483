-- The last cell of a siding, by its index.
use Rattle.std.proofs.Common.{◌≡◌, ℕ, zero, suc, ◌<◌, ◌-◌, List, [], ◌∷◌, Option, None, length, refl, ap, arith}
use Rattle.std.specs.Prelude.{slice_index_or, slice_set}
use Rattle.cf_bind.specs.declared.cell.Op.{Op}
use Rattle.cf_semantics.specs.moves.Bars.{last_op}
use Rattle.cf_semantics.specs.moves.Moves.{set_last}

-- the number of cells is one more than the index of the last
last_index : (cells : List (Option Op)) (n : ℕ) → length cells ≡ suc n → last_op cells ≡ slice_index_or cells n None
last_index [] n e = absurd (omega arith)
last_index (o ∷ []) zero e = refl
last_index (o ∷ []) (suc n) e = absurd (omega arith)
last_index (o ∷ p ∷ cells) zero e = absurd (omega arith)
last_index (o ∷ p ∷ cells) (suc n) e = last_index (p ∷ cells) n (omega arith)

set_index : (cells : List (Option Op)) (n : ℕ) (q : Option Op) → length cells ≡ suc n → set_last cells q ≡ slice_set cells n q
set_index [] n q e = absurd (omega arith)
set_index (o ∷ []) zero q e = refl
set_index (o ∷ []) (suc n) q e = absurd (omega arith)
set_index (o ∷ p ∷ cells) zero q e = absurd (omega arith)
set_index (o ∷ p ∷ cells) (suc n) q e = ap (λ (l : List (Option Op)). o ∷ l) (set_index (p ∷ cells) n q (omega arith))

-- the contents of the last cell
pub last_op-index : (cells : List (Option Op)) → 0 < length cells → last_op cells ≡ slice_index_or cells (length cells - 1) None
last_op-index cells h = last_index cells (length cells - 1) (omega arith)

-- new contents of the last cell
pub set_last-index : (cells : List (Option Op)) (q : Option Op) → 0 < length cells → set_last cells q ≡ slice_set cells (length cells - 1) q
set_last-index cells q h = set_index cells (length cells - 1) q (omega arith)

pub ruleset last_cell = (last_op-index, set_last-index)
