-- The first element of a list that passes a test: found by itself, found by its index, and changed.
use Rattle.std.proofs.Common.{◌≡◌, ℕ, ◌+◌, ◌<◌, ◌≤◌, suc, List, [], ◌∷◌, Bool, true, false, not, Option, Some, None, length, map, find, get_or, refl, ap, cond, arith}
use Rattle.std.specs.Prelude.{position, nat_lt}
use Rattle.std.specs.List.{list_any, position_or_len}
use Rattle.std.specs.Option.{option_map}
use Rattle.std.proofs.lemmas.List.Sums.{fails_before_first}
use Rattle.std.proofs.lemmas.Bool.Decides.{nat_tests}

-- one step of the search
passes_step : {A : Type 0} (p : A → Bool) (y x : A) (rest : Option A) (b : Bool) → p y ≡ b → cond b (Some y) rest ≡ Some x → (rest ≡ Some x → p x ≡ true) →
    p x ≡ true
passes_step p y x rest true here found k = let same : y ≡ x = cc in rw (← same) here
passes_step p y x rest false here found k = k found

-- what is found passes the test
pub find-passes : {A : Type 0} (p : A → Bool) (xs : List A) (x : A) → find p xs ≡ Some x → p x ≡ true
find-passes p [] x e = cc
find-passes p (y ∷ ys) x e = passes_step p y x (find p ys) (p y) refl e (find-passes p ys x)

pub ruleset finding = (find-passes)

-- some image passes a test if the test of the image passes for some element
pub list_any-map : {A B : Type 0} (p : B → Bool) (f : A → B) (xs : List A) → list_any p (map f xs) ≡ list_any (λ x. p (f x)) xs
list_any-map p f [] = refl
list_any-map p f (x ∷ xs) = rw (list_any-map p f xs) refl

pub ruleset passing = (list_any-map)

-- an index in a list is one more with an element before the list
shifted : (t u : Bool) (n : ℕ) → t ≡ u → cond t (Some (1 + n)) None ≡ option_map (λ x. suc x) (cond u (Some n) None)
shifted t true n e = rw e (ap Some (omega arith))
shifted t false n e = rw e refl

-- the index of the first that passes, by whether the element before passes
index_step : (b : Bool) (n m : ℕ) → cond (nat_lt (cond (not b) (1 + n) 0) (suc m)) (Some (cond (not b) (1 + n) 0)) None
    ≡ cond b (Some 0) (option_map (λ x. suc x) (cond (nat_lt n m) (Some n) None))
index_step true n m = grind (arith, nat_tests)
index_step false n m = shifted _ _ n (grind (arith, nat_tests))

-- the index of the first that passes is 0, or one more than that in the rest
pub position-cons : {A : Type 0} (p : A → Bool) (x : A) (xs : List A) → position p (x ∷ xs) ≡ cond (p x) (Some 0) (option_map (λ i. suc i) (position p xs))
position-cons p x xs = index_step (p x) (position_or_len p xs) (length xs)

-- if there is no index, as many elements fail as there are
none_before : (n m : ℕ) → cond (nat_lt n m) (Some n) None ≡ None → m ≤ n
none_before n m e = grind (arith, nat_tests)

-- if there is no index of an element that passes, each fails
pub passes_none : {A : Type 0} (p : A → Bool) (xs : List A) → position p xs ≡ None → (k : ℕ) (d : A) → k < length xs → p (get_or xs k d) ≡ false
passes_none p xs e k d within = let far = none_before (position_or_len p xs) (length xs) e in fails_before_first p xs k d (omega arith)
