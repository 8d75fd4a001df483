-- Filters over the numbers from one on.
use Rattle.std.proofs.Common.{◌≡◌, sym, refl, ap, ℕ, zero, suc, ◌+◌, ◌-◌, ◌<◌, ◌≤◌, List, [], ◌∷◌, ◌++◌, map, Bool, true, false, cond, nat_lt, Some, arith}
use Rattle.std.specs.Prelude.{filter, slice_get, ◌&&◌}
use Rattle.std.proofs.lemmas.Bool.Decides.{nat_tests}
use Rattle.cf_semantics.specs.moves.Candidates.{counted_from}

-- the numbers of two parts, one after the other
pub counted_split : (k a b : ℕ) → counted_from k (a + b) ≡ counted_from k a ++ counted_from (k + a) b
counted_split k zero b = let e : zero + b ≡ b = omega arith in let f : k + 0 ≡ k = omega arith in rw (e, f) refl
counted_split k (suc a) b = let e : suc a + b ≡ suc (a + b) = omega arith in let f : k + suc a ≡ suc k + a = omega arith in
    rw (e, f) (ap (λ (l : List ℕ). k ∷ l) (counted_split (suc k) a b))

-- a function maps over a choice between a list with one more element and the list itself
pub map_choice : {X Y : Type 0} (f : X → Y) (b : Bool) (x : X) (xs : List X) → map f (cond b (x ∷ xs) xs) ≡ cond b (f x ∷ map f xs) (map f xs)
map_choice f true x xs = refl
map_choice f false x xs = refl

-- two tests that agree on the numbers keep the same ones
pub filter_same : (p q : ℕ → Bool) (k n : ℕ) → ((i : ℕ) → k ≤ i → i < k + n → p i ≡ q i) → filter p (counted_from k n) ≡ filter q (counted_from k n)
filter_same p q k zero same = refl
filter_same p q k (suc n) same =
    let h = same k (omega arith) (omega arith) in
    let r = filter_same p q (suc k) n (λ i low high. same i (omega arith) (omega arith)) in
    rw (h, r) refl

-- a test that fails on each of the numbers keeps none
pub filter_none : (p : ℕ → Bool) (k n : ℕ) → ((i : ℕ) → k ≤ i → i < k + n → p i ≡ false) → filter p (counted_from k n) ≡ []
filter_none p k zero none = refl
filter_none p k (suc n) none =
    let h = none k (omega arith) (omega arith) in
    rw h (filter_none p (suc k) n (λ i low high. none i (omega arith) (omega arith)))

-- each number from a + k on is a number from k on, plus a
pub filter_shifted : (p : ℕ → Bool) (a k n : ℕ) → filter p (counted_from (a + k) n) ≡ map (λ j. a + j) (filter (λ j. p (a + j)) (counted_from k n))
filter_shifted p a k zero = refl
filter_shifted p a k (suc n) =
    let e : suc (a + k) ≡ a + suc k = omega arith in
    let r = filter_shifted p a (suc k) n in
    rw (e, r) (sym (map_choice (λ j. a + j) (p (a + k)) k (filter (λ j. p (a + j)) (counted_from (suc k) n))))

-- the first element of a list that may begin with one more element
first_choice : (b : Bool) (k t : ℕ) (xs : List ℕ) → (b ≡ true → k ≡ t) → (b ≡ false → slice_get xs 0 ≡ Some t) → slice_get (cond b (k ∷ xs) xs) 0 ≡ Some t
first_choice true k t xs here later = ap (λ (i : ℕ). Some i) (here refl)
first_choice false k t xs here later = later refl

-- the first number at which the test holds comes first
pub filter_first : (p : ℕ → Bool) (k n t : ℕ) → k ≤ t → t < k + n → p t ≡ true → ((i : ℕ) → k ≤ i → i < t → p i ≡ false) →
    slice_get (filter p (counted_from k n)) 0 ≡ Some t
filter_first p k zero t low high here before = absurd (omega arith)
filter_first p k (suc n) t low high here before =
    first_choice (p k) k t (filter p (counted_from (suc k) n))
    (λ at. grind (arith, before k))
    (λ off. filter_first p (suc k) n t (grind (arith, here)) (omega arith) here (λ i above below. before i (omega arith) below))

-- the moves f of the numbers from a on that pass p are the moves g of the numbers from b on that pass t; after the n-th
-- no number passes t
pub filter_chosen : {X : Type 0} (p : X → Bool) (f g : ℕ → X) (t : ℕ → Bool) (a b n total : ℕ) → n ≤ total →
    ((c : ℕ) → c < total → t (b + c) ≡ (nat_lt c n && p (f (a + c)))) → ((c : ℕ) → c < n → g (b + c) ≡ f (a + c)) →
    filter p (map f (counted_from a n)) ≡ map g (filter t (counted_from b total))
filter_chosen p f g t a b zero total few test same = rw (filter_none t b total (λ i low high. let e : b + (i - b) ≡ i = omega arith in
    let off : nat_lt (i - b) 0 ≡ false = grind (arith, nat_tests) in rw (e, off) at (test (i - b) (omega arith)))) refl
filter_chosen p f g t a b (suc n) zero few test same = absurd (omega arith)
filter_chosen p f g t a b (suc n) (suc total) few test same =
    let e : a + 0 ≡ a = omega arith in
    let e' : b + 0 ≡ b = omega arith in
    let first : nat_lt 0 (suc n) ≡ true = grind (arith, nat_tests) in
    let here : t b ≡ p (f a) = rw (e, e', first) at (test 0 (omega arith)) in
    let there : g b ≡ f a = rw (e, e') at (same 0 (omega arith)) in
    let r = filter_chosen p f g t (suc a) (suc b) n total (omega arith)
    (λ c below. let i : b + suc c ≡ suc b + c = omega arith in let j : a + suc c ≡ suc a + c = omega arith in
    let l : nat_lt (suc c) (suc n) ≡ nat_lt c n = grind (arith, nat_tests) in rw (i, j, l) at (test (suc c) (omega arith)))
    (λ c below. let i : b + suc c ≡ suc b + c = omega arith in let j : a + suc c ≡ suc a + c = omega arith in rw (i, j) at (same (suc c) (omega arith))) in
    rw (here, r) (sym (rw there at (map_choice g (p (f a)) b (filter t (counted_from (suc b) total)))))

below_choice : (b : Bool) (k a : ℕ) (xs : List ℕ) → nat_lt a k ≡ true → filter (λ j. nat_lt j k) xs ≡ xs →
    filter (λ j. nat_lt j k) (cond b (a ∷ xs) xs) ≡ cond b (a ∷ xs) xs
below_choice true k a xs h r = rw (h, r) refl
below_choice false k a xs h r = r

-- the test for numbers below k keeps each number below k
pub filter_below : (p : ℕ → Bool) (k a n : ℕ) → a + n ≤ k → filter (λ j. nat_lt j k) (filter p (counted_from a n)) ≡ filter p (counted_from a n)
filter_below p k a zero small = refl
filter_below p k a (suc n) small =
    let r = filter_below p k (suc a) n (omega arith) in
    let h : nat_lt a k ≡ true = grind (arith, nat_tests) in
    below_choice (p a) k a (filter p (counted_from (suc a) n)) h r

-- and it keeps no number from k on
pub filter_above : (k : ℕ) (xs : List ℕ) → filter (λ j. nat_lt j k) (map (λ j. k + j) xs) ≡ []
filter_above k [] = refl
filter_above k (x ∷ xs) = let h : nat_lt (k + x) k ≡ false = grind (arith, nat_tests) in rw h (filter_above k xs)
