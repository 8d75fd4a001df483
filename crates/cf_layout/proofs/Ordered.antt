-- An ascending list is what remains of all numbers if each is kept that is in the list.
use Rattle.std.proofs.Common.{◌≡◌, ℕ, zero, suc, ◌+◌, ◌<◌, ◌≤◌, List, [], ◌∷◌, All, Bool, true, false, cond, length, map, refl, ap, arith, ◌∙◌, pos, subst}
use Rattle.std.specs.Prelude.{filter, nat_eq, ◌||◌}
use Rattle.std.specs.List.{list_any, range_with_len}
use Rattle.std.specs.List.Sorted.{IsStrictlyIncreasing}
use Rattle.std.proofs.lemmas.List.{length-map}
use Rattle.std.proofs.lemmas.List.Elements.{All-tail, All-map}
use Rattle.std.proofs.lemmas.Bool.Decides.{nat_tests}
use Rattle.rv_inst.specs.declared.classes.Class.{Class}
use Rattle.cf_layout.specs.Layout.{place_of, computed_classes}
use Rattle.cf_layout.specs.Asked.{is_integer, stage_numbers, ascending, in_class_order}
use Rattle.cf_layout.proofs.Counts.{same_place}

-- the numbers ascend from k on
abbrev pub Rises : ℕ → List ℕ → Type 0
Rises k [] = Unit {0}
Rises k (x ∷ xs) = (k ≤ x) × Rises (suc x) xs

-- they are below a bound
abbrev AreBelow : ℕ → List ℕ → Type 0
AreBelow bound [] = Unit {0}
AreBelow bound (x ∷ xs) = (x < bound) × AreBelow bound xs

-- what follows the first ascends
rises_tail : (x : ℕ) (xs : List ℕ) → IsStrictlyIncreasing (x ∷ xs) → IsStrictlyIncreasing xs
rises_tail x xs rise = λ k below. let e : suc k + 1 ≡ suc (k + 1) = omega arith in let more = rise (suc k) (omega arith) in rw e at more

rises_after : (x : ℕ) (xs : List ℕ) → IsStrictlyIncreasing (x ∷ xs) → Rises (suc x) xs
rises_after x [] rise = tt
rises_after x (y ∷ ys) rise = let more : x < y = rise 0 (omega arith) in (omega arith, rises_after y ys (rises_tail x (y ∷ ys) rise))

-- ascending numbers, none of which is below a bound, ascend from that bound on
pub rises_from : (k : ℕ) (xs : List ℕ) → IsStrictlyIncreasing xs → All (λ x. k ≤ x) xs → Rises k xs
rises_from k [] rise low = tt
rises_from k (x ∷ xs) rise low = (low 0 0 (omega arith), rises_after x xs rise)

below_from : (bound : ℕ) (xs : List ℕ) → All (λ x. x < bound) xs → AreBelow bound xs
below_from bound [] all = tt
below_from bound (x ∷ xs) all = (all 0 0 (omega arith), below_from bound xs (All-tail (λ y. y < bound) x xs all))

-- a number below all is not among them
low_step : (n x : ℕ) (rest : Bool) → n < x → rest ≡ false → (nat_eq n x || rest) ≡ false
low_step n x rest low e = let off : nat_eq n x ≡ false = grind (arith, nat_tests) in rw (off, e) refl

pub not_among : (n k : ℕ) (xs : List ℕ) → n < k → Rises k xs → list_any (nat_eq n) xs ≡ false
not_among n k [] low rise = refl
not_among n k (x ∷ xs) low rise = let from = rise.0 in low_step n x (list_any (nat_eq n) xs) (omega arith) (not_among n (suc x) xs (omega arith) rise.1)

-- whether a number above the first is among the list
beyond_step : (n x : ℕ) (rest : Bool) → x < n → (nat_eq n x || rest) ≡ rest
beyond_step n x rest high = let off : nat_eq n x ≡ false = grind (arith, nat_tests) in rw off refl

-- what is kept, by whether the first number is the first of the list
first_kept : (test : ℕ → Bool) (k x : ℕ) (kept xs : List ℕ) → test k ≡ true → k ≡ x → kept ≡ xs → cond (test k) (k ∷ kept) kept ≡ x ∷ xs
first_kept test k x kept xs t same e = rw (t, same, e) refl

first_lost : (test : ℕ → Bool) (k : ℕ) (kept xs : List ℕ) → test k ≡ false → kept ≡ xs → cond (test k) (k ∷ kept) kept ≡ xs
first_lost test k kept xs t e = rw (t, e) refl

-- the first is in the list
in_front : (n x : ℕ) (rest : Bool) → n ≡ x → (nat_eq n x || rest) ≡ true
in_front n x rest e = let here : nat_eq n x ≡ true = grind (arith, nat_tests) in rw here refl

-- what is kept from k on, by whether k is the first of the list
kept_by : (test : ℕ → Bool) (n k x : ℕ) (xs : List ℕ) (here : Bool) → nat_eq k x ≡ here → Rises k (x ∷ xs) → AreBelow (k + suc n) (x ∷ xs) →
    ((i : ℕ) → k ≤ i → test i ≡ list_any (nat_eq i) (x ∷ xs))
    → ((ys : List ℕ) → Rises (k + 1) ys → AreBelow (k + 1 + n) ys → ((i : ℕ) → k + 1 ≤ i → test i ≡ list_any (nat_eq i) ys) →
    filter test (range_with_len (k + 1) n) ≡ ys) → filter test (range_with_len k (suc n)) ≡ x ∷ xs
kept_by test n k x xs true e rise low same later =
    let at : k ≡ x = grind (arith, nat_tests) in
    let bound : k + suc n ≡ k + 1 + n = omega arith in
    let next : suc x ≡ k + 1 = omega arith in
    first_kept test k x _ xs (same k (omega arith) ∙ in_front k x _ at) at
    (later xs (rw next at rise.1) (subst (λ (b : ℕ). AreBelow b xs) bound low.1) (λ i high. same i (omega arith) ∙ beyond_step i x _ (omega arith)))
kept_by test n k x xs false e rise low same later =
    let from = rise.0 in
    let above : k < x = grind (arith, nat_tests) in
    let bound : k + suc n ≡ k + 1 + n = omega arith in
    first_lost test k _ (x ∷ xs) (same k (omega arith) ∙ not_among k (k + 1) (x ∷ xs) (omega arith) (omega arith, rise.1))
    (later (x ∷ xs) (omega arith, rise.1) (subst (λ (b : ℕ). AreBelow b (x ∷ xs)) bound low) (λ i high. same i (omega arith)))

-- of the numbers from k on, those are kept that the test finds in the list
kept_same : (test : ℕ → Bool) (n k : ℕ) (xs : List ℕ) → Rises k xs → AreBelow (k + n) xs → ((i : ℕ) → k ≤ i → test i ≡ list_any (nat_eq i) xs) →
    filter test (range_with_len k n) ≡ xs
kept_same test zero k [] rise low same = refl
kept_same test zero k (x ∷ xs) rise low same = let from = rise.0 in let below = low.0 in absurd (omega arith)
kept_same test (suc n) k [] rise low same = first_lost test k _ [] (same k (omega arith)) (kept_same test n (k + 1) [] tt tt (λ i high. same i (omega arith)))
kept_same test (suc n) k (x ∷ xs) rise low same = kept_by test n k x xs (nat_eq k x) refl rise low same
    (λ ys up down alike. kept_same test n (k + 1) ys up down alike)

-- ascending numbers below a bound are few
rises_few : (k bound : ℕ) (xs : List ℕ) → k ≤ bound → Rises k xs → AreBelow bound xs → length xs + k ≤ bound
rises_few k bound [] within rise low = omega arith
rises_few k bound (x ∷ xs) within rise low =
    let from = rise.0 in
    let below = low.0 in
    let rest = rises_few (suc x) bound xs (omega arith) rise.1 low.1 in
    omega arith

-- the numbers of a list, as integers that are requested
numbers_same : (i : ℕ) (stages : List ℕ) → list_any (is_integer i) (map (λ n. pos n) stages) ≡ list_any (nat_eq i) stages
numbers_same i [] = refl
numbers_same i (x ∷ xs) = ap (λ (b : Bool). nat_eq i x || b) (numbers_same i xs)

-- ascending stages from 1 to 32 are read as they were requested
pub ascending_same : (stages : List ℕ) → IsStrictlyIncreasing stages → All (λ i. 1 ≤ i) stages → All (λ i. i < 33) stages →
    ascending (map (λ n. pos n) stages) ≡ stages
unfolding ascending stage_numbers
ascending_same stages rise low high = kept_same (λ i. list_any (is_integer i) (map (λ n. pos n) stages)) 32 1 stages (rises_from 1 stages rise low)
    (below_from 33 stages high) (λ i from. numbers_same i stages)

-- there are at most 32 of them
pub few_stages : (stages : List ℕ) → IsStrictlyIncreasing stages → All (λ i. 1 ≤ i) stages → All (λ i. i < 33) stages → length stages ≤ 32
few_stages stages rise low high = let few = rises_few 1 33 stages (omega arith) (rises_from 1 stages rise low) (below_from 33 stages high) in omega arith

-- the indices of the classes that a test of indices keeps
kept_step : (kept : Bool) (c : Class) (cs : List Class) (rest : List ℕ) → map place_of cs ≡ rest →
    map place_of (cond kept (c ∷ cs) cs) ≡ cond kept (place_of c ∷ rest) rest
kept_step true c cs rest e = rw e refl
kept_step false c cs rest e = e

kept_places : (test : ℕ → Bool) (cs : List Class) → map place_of (filter (λ c. test (place_of c)) cs) ≡ filter test (map place_of cs)
kept_places test [] = refl
kept_places test (c ∷ cs) = kept_step (test (place_of c)) c (filter (λ d. test (place_of d)) cs) (filter test (map place_of cs)) (kept_places test cs)

-- a list of classes has one at an index
unfoldable pub has_place : List Class → ℕ → Bool
has_place classes n = list_any (λ d. nat_eq n (place_of d)) classes

pub places_same : (n : ℕ) (classes : List Class) → has_place classes n ≡ list_any (nat_eq n) (map place_of classes)
unfolding has_place
places_same n [] = refl
places_same n (c ∷ cs) = ap (λ (b : Bool). nat_eq n (place_of c) || b) (places_same n cs)

-- lists with the same indices are equal
one_place : (x y : ℕ) (xs ys : List ℕ) → x ∷ xs ≡ y ∷ ys → (x ≡ y) × (xs ≡ ys)
one_place x y xs ys e = (cc, cc)

same_places : (cs ds : List Class) → map place_of cs ≡ map place_of ds → cs ≡ ds
same_places [] [] e = refl
same_places [] (d ∷ ds) e = cc
same_places (c ∷ cs) [] e = cc
same_places (c ∷ cs) (d ∷ ds) e = let p = one_place (place_of c) (place_of d) (map place_of cs) (map place_of ds) e in
    rw (same_place c d p.0, same_places cs ds p.1) refl

-- ascending computed classes are read as they were requested
order_places : (classes : List Class) → map place_of (in_class_order classes) ≡ filter (has_place classes) (range_with_len 0 9)
unfolding in_class_order has_place
order_places classes = kept_places (λ n. list_any (λ d. nat_eq n (place_of d)) classes) computed_classes

pub in_order_same : (classes : List Class) → IsStrictlyIncreasing (map place_of classes) → All (λ c. place_of c < 9) classes → in_class_order classes ≡ classes
in_order_same classes rise small =
    same_places (in_class_order classes) classes
    (order_places classes ∙ kept_same (has_place classes) 9 0 (map place_of classes) (rises_from 0 (map place_of classes) rise (λ k d within. omega arith))
    (below_from 9 (map place_of classes) (All-map (λ n. n < 9) place_of classes small)) (λ i from. places_same i classes))

-- there are at most nine of them
pub few_classes : (classes : List Class) → IsStrictlyIncreasing (map place_of classes) → All (λ c. place_of c < 9) classes → length classes ≤ 9
few_classes classes rise small =
    let few = rises_few 0 9 (map place_of classes) (omega arith) (rises_from 0 (map place_of classes) rise (λ k d within. omega arith))
    (below_from 9 (map place_of classes) (All-map (λ n. n < 9) place_of classes small)) in
    omega (arith, length-map classes place_of)
