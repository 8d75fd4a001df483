-- Lists as bytes: how many items there are, then the items.
use Rattle.std.specs.Prelude.{ℕ, zero, suc, List, [], ◌∷◌, ◌++◌, length}
use Rattle.order_keys.specs.Unpacked.{Unpacked, got}
use Rattle.order_keys.specs.Numbers.{packed_long, unpacked_long}

-- the items, one after another
unfoldable pub packed_items : {A : Type 0} → (A → List ℕ) → List A → List ℕ
packed_items packed [] = []
packed_items packed (x ∷ xs) = packed x ++ packed_items packed xs

unfoldable pub packed_list : {A : Type 0} → (A → List ℕ) → List A → List ℕ
packed_list packed xs = packed_long (length xs) ++ packed_items packed xs

-- this many items
unfoldable pub unpacked_items : {A : Type 0} → (List ℕ → Unpacked A) → ℕ → List ℕ → Unpacked (List A)
unpacked_items unpacked zero bs = got [] bs
unpacked_items unpacked (suc n) bs =
    let first = unpacked bs in
    let others = unpacked_items unpacked n first.left in
    got (first.value ∷ others.value) others.left

unfoldable pub unpacked_list : {A : Type 0} → (List ℕ → Unpacked A) → List ℕ → Unpacked (List A)
unpacked_list unpacked bs =
    let count = unpacked_long bs in
    unpacked_items unpacked count.value count.left
