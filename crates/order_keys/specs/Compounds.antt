-- Pairs, optional values and lists as bytes, built from the bytes of their elements.
use Rattle.std.specs.Prelude.{ℕ, ◌==◌, if◌then◌else◌, Bool, Option, None, Some, List, [], ◌∷◌, ◌++◌}
use Rattle.order_keys.specs.Unpacked.{Unpacked, got, as_read}
use Rattle.order_keys.specs.Numbers.{leading_byte, behind}

-- the first, then the second
unfoldable pub packed_pair : {A B : Type 0} → (A → List ℕ) → (B → List ℕ) → A × B → List ℕ
packed_pair first second x = first x.0 ++ second x.1

unfoldable pub unpacked_pair : {A B : Type 0} → (List ℕ → Unpacked A) → (List ℕ → Unpacked B) → List ℕ → Unpacked (A × B)
unpacked_pair first second bs =
    let a = first bs in
    let b = second a.left in
    got (a.value, b.value) b.left

-- the first, the second, and the third
unfoldable pub packed_triple : {A B C : Type 0} → (A → List ℕ) → (B → List ℕ) → (C → List ℕ) → A × B × C → List ℕ
packed_triple first second third x = first x.0 ++ (second x.1 ++ third x.2)

unfoldable pub unpacked_triple : {A B C : Type 0} → (List ℕ → Unpacked A) → (List ℕ → Unpacked B) → (List ℕ → Unpacked C) →
    List ℕ → Unpacked (A × B × C)
unpacked_triple first second third bs =
    let a = first bs in
    let b = second a.left in
    let c = third b.left in
    got (a.value, b.value, c.value) c.left

-- whether there is a value, and the value
unfoldable pub packed_option : {A : Type 0} → (A → List ℕ) → Option A → List ℕ
packed_option packed None = 0 ∷ []
packed_option packed (Some x) = (1 ∷ []) ++ packed x

unfoldable pub unpacked_option : {A : Type 0} → (List ℕ → Unpacked A) → List ℕ → Unpacked (Option A)
unpacked_option unpacked bs = if leading_byte bs == 0 then got None (behind bs) else as_read Some (unpacked (behind bs))

-- the value, if there is one
unfoldable pub packed_some : {A : Type 0} → (A → List ℕ) → Option A → List ℕ
packed_some packed None = []
packed_some packed (Some x) = packed x

-- the value, if there is said to be one
unfoldable pub unpacked_some : {A : Type 0} → (List ℕ → Unpacked A) → Bool → List ℕ → Unpacked (Option A)
unpacked_some unpacked there bs = if there then as_read Some (unpacked bs) else got None bs
