-- The lines of the elements of a list, one after another.
use Rattle.std.proofs.Common.{◌≡◌, ℕ, zero, suc, ◌+◌, ◌≤◌, List, [], ◌∷◌, ◌++◌, length, take, drop, Some, refl, sym, ap, ◌∙◌, append-nil, append_assoc, arith}
use Rattle.std.specs.List.{flat_map}
use Rattle.std.specs.Prelude.{slice_get}

same_element : {X : Type 0} {x y : X} → Some x ≡ Some y → x ≡ y
same_element h = cc

next_line : {X : Type 0} (f : X → List ℕ) (xs : List X) (i : ℕ) (x : X) → Some x ≡ slice_get xs i →
    flat_map f (take i xs) ++ f x ≡ flat_map f (take (suc i) xs)
next_line f [] i x h = absurd (cc)
next_line f (y ∷ xs) zero x h = ap f (same_element h) ∙ sym (append-nil (f y))
next_line f (y ∷ xs) (suc i) x h =
    append_assoc (f y) (flat_map f (take i xs)) (f x) ∙ ap (λ (text : List ℕ). f y ++ text) (next_line f xs i x h)

rest_lines : {X : Type 0} (f : X → List ℕ) (xs : List X) (n : ℕ) → flat_map f (take n xs) ++ flat_map f (drop n xs) ≡ flat_map f xs
rest_lines f [] n = none n
  where
    none : (n : ℕ) → flat_map f (take n []) ++ flat_map f (drop n []) ≡ []
    none zero = refl
    none (suc n) = refl
rest_lines f (x ∷ xs) zero = refl
rest_lines f (x ∷ xs) (suc n) =
    append_assoc (f x) (flat_map f (take n xs)) (flat_map f (drop n xs)) ∙ ap (λ (text : List ℕ). f x ++ text) (rest_lines f xs n)

-- with the line of the next element there is one more
pub line-next : {X : Type 0} (f : X → List ℕ) (xs : List X) (i : ℕ) (x : X) → Some x ≡ slice_get xs i →
    flat_map f (take i xs) ++ f x ≡ flat_map f (take (i + 1) xs)
line-next f xs i x h =
    let e : suc i ≡ i + 1 = omega arith in
    next_line f xs i x h ∙ ap (λ (n : ℕ). flat_map f (take n xs)) e

-- after it come those of the others
pub line-after : {X : Type 0} (f : X → List ℕ) (xs : List X) (i : ℕ) (x : X) → Some x ≡ slice_get xs i →
    (rest : List ℕ) × ((flat_map f (take i xs) ++ f x) ++ rest ≡ flat_map f xs)
line-after f xs i x h =
    (flat_map f (drop (suc i) xs), ap (λ (text : List ℕ). text ++ flat_map f (drop (suc i) xs)) (next_line f xs i x h) ∙ rest_lines f xs (suc i))

-- the lines of all elements
pub lines-done : {X : Type 0} (f : X → List ℕ) (xs : List X) (n : ℕ) → length xs ≤ n → flat_map f (take n xs) ≡ flat_map f xs
lines-done f [] zero few = refl
lines-done f [] (suc n) few = refl
lines-done f (x ∷ xs) zero few = absurd (omega (arith, few))
lines-done f (x ∷ xs) (suc n) few = ap (λ (text : List ℕ). f x ++ text) (lines-done f xs n (omega (arith, few)))
