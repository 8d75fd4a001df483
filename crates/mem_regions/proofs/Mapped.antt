-- A list whose elements are replaced one by one.
use Rattle.std.proofs.Common.{◌≡◌, ℕ, ◌+◌, ◌<◌, zero, suc, List, [], ◌∷◌, ◌++◌, length, map, take, drop, get_or, slice_set, refl, ap, add-one, arith}

-- the list with the first elements replaced by the values of the function
abbrev pub mapped_to : {A : Type 0} → (A → A) → ℕ → List A → List A
mapped_to f i xs = map f (take i xs) ++ drop i xs

-- one step further from an index
next_suc : {A : Type 0} (f : A → A) (xs : List A) (i : ℕ) (d : A) → i < length xs → slice_set (mapped_to f i xs) i (f (get_or (mapped_to f i xs) i d))
    ≡ mapped_to f (suc i) xs
next_suc f [] i d within = absurd (omega arith)
next_suc f (x ∷ xs) zero d within = refl
next_suc f (x ∷ xs) (suc i) d within = ap (λ ys. f x ∷ ys) (next_suc f xs i d (omega arith))

-- the next element is replaced
pub mapped_to-next : {A : Type 0} (f : A → A) (xs ys : List A) (i : ℕ) (d : A) → i < length xs → ys ≡ mapped_to f i xs →
    slice_set ys i (f (get_or ys i d)) ≡ mapped_to f (i + 1) xs
mapped_to-next f xs ys i d within e = rw (e, add-one) (next_suc f xs i d within)
