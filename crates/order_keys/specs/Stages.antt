-- The positions of the stages of a key.
use Rattle.std.specs.Prelude.{ℕ, zero, suc, List, [], ◌∷◌, length}
use Rattle.order_keys.specs.Numbers.{unpacked_long}
use Rattle.order_keys.specs.Cells.{unpacked_cell}

-- how many bytes are left after each of this many stages
unfoldable pub lefts_from : ℕ → List ℕ → List ℕ
lefts_from zero bs = []
lefts_from (suc n) bs = let left = (unpacked_cell bs).left in length left ∷ lefts_from n left

-- how many bytes are left after the number of stages, and after each of them
unfoldable pub lefts_of : List ℕ → List ℕ
lefts_of bs = let count = unpacked_long bs in length count.left ∷ lefts_from count.value count.left
