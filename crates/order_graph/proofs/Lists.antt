-- Mapped lists.
use Rattle.std.proofs.Common.{◌≡◌, ◌≢◌, ℕ, zero, suc, ◌+◌, ◌<◌, List, [], ◌∷◌, ◌++◌, Bool, cond, length, map, get_or, refl, sym, ap, ◌∙◌, arith}
use Rattle.std.specs.Prelude.{sum_by, count_by}
use Rattle.std.specs.List.{AllPairs, Contains, flat_map, fold}
use Rattle.std.proofs.lemmas.List.{get_or-map, length-map}
use Rattle.order_search.specs.Routes.{is_none}

pub contains_mapped : {A B : Type 0} (f : A → B) (xs : List A) (x : A) → Contains xs x → Contains (map f xs) (f x)
contains_mapped f xs x (k, within, is) = (k, omega (arith, within, length-map xs f), get_or-map f xs k x (f x) within ∙ ap f is)

-- an element of the mapped list comes from an element of the list
pub record ComesFrom {A B : Type 0} (f : A → B) (xs : List A) (y : B) : Type 0 where
  pub from : A
  pub inside : Contains xs from
  pub is : y ≡ f from

pub mapped_contains : {A B : Type 0} (f : A → B) (xs : List A) (y : B) → Contains (map f xs) y → ComesFrom f xs y
mapped_contains f [] y (k, within, is) = absurd (omega (arith, within))
mapped_contains f (x ∷ xs) y (zero, within, is) = record { from = x; inside = (0, omega arith, refl); is = sym is }
mapped_contains f (x ∷ xs) y (suc k, within, is) = further (mapped_contains f xs y (k, omega (arith, within), is)) where
  more : (a : _) → Contains xs a → Contains (x ∷ xs) a
  more a (j, inside, same) = (suc j, omega (arith, inside), same)

  further : ComesFrom f xs y → ComesFrom f (x ∷ xs) y
  further h = record { from = h.from; inside = more h.from h.inside; is = h.is }

-- if the map is injective on the elements, no two of its values are the same
pub pairs_mapped : {A B : Type 0} (f : A → B) (xs : List A) → ((a b : A) → Contains xs a → Contains xs b → f a ≡ f b → a ≡ b) →
    AllPairs (λ a b. a ≢ b) xs → AllPairs (λ a b. a ≢ b) (map f xs)
pairs_mapped {A} {B} f xs apart once i j d less within e = go xs apart once within e where
  go : (ys : List A) → ((a b : A) → Contains ys a → Contains ys b → f a ≡ f b → a ≡ b) → AllPairs (λ a b. a ≢ b) ys → j < length (map f ys) →
      get_or (map f ys) i d ≡ get_or (map f ys) j d → ⊥
  go [] tell one inside same = absurd (omega (arith, inside))
  go (y ∷ ys) tell one inside same =
      let high : j < length (y ∷ ys) = omega (arith, inside, length-map (y ∷ ys) f) in
      let low : i < length (y ∷ ys) = omega (arith, high, less) in
      let images : f (get_or (y ∷ ys) i y) ≡ f (get_or (y ∷ ys) j y)
      = sym (get_or-map f (y ∷ ys) i y d low) ∙ same ∙ get_or-map f (y ∷ ys) j y d high in
      one i j y less high (tell (get_or (y ∷ ys) i y) (get_or (y ∷ ys) j y) (i, low, own (y ∷ ys) i y low) (j, high, own (y ∷ ys) j y high) images)
    where
      own : (zs : List A) (k : ℕ) (z : A) → k < length zs → get_or zs k (get_or zs k z) ≡ get_or zs k z
      own [] k z h = absurd (omega (arith, h))
      own (w ∷ zs) zero z h = refl
      own (w ∷ zs) (suc k) z h = own zs k z (omega (arith, h))

-- sums and counts
fold_mapped : {A B : Type 0} (h : A → B) (f : A → ℕ) (g : B → ℕ) → ((x : A) → f x ≡ g (h x)) → (xs : List A) (a : ℕ) →
    fold (λ s x. s + f x) a xs ≡ fold (λ s y. s + g y) a (map h xs)
fold_mapped h f g same [] a = refl
fold_mapped h f g same (x ∷ xs) a = fold_mapped h f g same xs (a + f x) ∙ ap (λ n. fold (λ s y. s + g y) (a + n) (map h xs)) (same x)

pub sum_mapped : {A B : Type 0} (h : A → B) (f : A → ℕ) (g : B → ℕ) → ((x : A) → f x ≡ g (h x)) → (xs : List A) → sum_by f xs ≡ sum_by g (map h xs)
sum_mapped h f g same xs = fold_mapped h f g same xs 0

pub count_mapped : {A B : Type 0} (h : A → B) (p : A → Bool) (q : B → Bool) → ((x : A) → p x ≡ q (h x)) → (xs : List A) → count_by p xs ≡ count_by q (map h xs)
count_mapped h p q same xs = fold_mapped h (λ x. cond (p x) 1 0) (λ y. cond (q y) 1 0) (λ x. ap (λ b. cond b 1 0) (same x)) xs 0

pub none_mapped : {A B : Type 0} (f : A → B) (xs : List A) → is_none (map f xs) ≡ is_none xs
none_mapped f [] = refl
none_mapped f (x ∷ xs) = refl

pub flat_mapped : {A B C : Type 0} (f : A → B) (g : B → List C) (h : A → List C) → ((x : A) → g (f x) ≡ h x) → (xs : List A) →
    flat_map g (map f xs) ≡ flat_map h xs
flat_mapped f g h same [] = refl
flat_mapped f g h same (x ∷ xs) = ap (λ l. l ++ flat_map g (map f xs)) (same x) ∙ ap (λ l. h x ++ l) (flat_mapped f g h same xs)
