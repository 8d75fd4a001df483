-- The order of the search is a total order, and extending paths preserves it.
use Rattle.std.proofs.Common.{◌≡◌, ℕ, ◌+◌, ◌<◌, List, [], ◌∷◌, ◌++◌, length, refl, sym, ap, subst, ◌∙◌, arith, ◌⊎◌, inl, inr}
use Rattle.std.proofs.Math.Nat.{eq-or-lt_of_le}
use Rattle.std.proofs.lemmas.Bool.{cases_order}
use Rattle.std.proofs.lemmas.List.{length-append}
use Rattle.order_search.specs.SearchOrder.{IsLower, Precedes, IsNotAfter}

lower_trans : (a b c : List ℕ) → IsLower a b → IsLower b c → IsLower a c
unfolding IsLower
lower_trans [] b c h k = absurd h
lower_trans (x ∷ xs) [] c h k = absurd h
lower_trans (x ∷ xs) (y ∷ ys) [] h k = absurd k
lower_trans (x ∷ xs) (y ∷ ys) (z ∷ zs) h k = by (lower_trans xs ys zs) h k
  where
    by : (IsLower xs ys → IsLower ys zs → IsLower xs zs) → (x < y) ⊎ ((x ≡ y) × IsLower xs ys) → (y < z) ⊎ ((y ≡ z) × IsLower ys zs) → (x < z) ⊎
        ((x ≡ z) × IsLower xs zs)
    by rest (inl l) (inl m) = inl (omega (arith, l, m))
    by rest (inl l) (inr (e, m)) = inl (omega (arith, l, e))
    by rest (inr (e, l)) (inl m) = inl (omega (arith, e, m))
    by rest (inr (e, l)) (inr (f, m)) = inr (e ∙ f, rest l m)

lower_irreflexive : (a : List ℕ) → IsLower a a → ⊥
unfolding IsLower
lower_irreflexive [] h = h
lower_irreflexive (x ∷ xs) (inl l) = omega (arith, l)
lower_irreflexive (x ∷ xs) (inr (e, l)) = lower_irreflexive xs l

lower_append : (a b c d : List ℕ) → IsLower a b → IsLower (a ++ c) (b ++ d)
unfolding IsLower
lower_append [] b c d h = absurd h
lower_append (x ∷ xs) [] c d h = absurd h
lower_append (x ∷ xs) (y ∷ ys) c d (inl l) = inl l
lower_append (x ∷ xs) (y ∷ ys) c d (inr (e, l)) = inr (e, lower_append xs ys c d l)

lower_last : (a : List ℕ) (m k : ℕ) → m < k → IsLower (a ++ m ∷ []) (a ++ k ∷ [])
unfolding IsLower
lower_last [] m k h = inl h
lower_last (x ∷ xs) m k h = inr (refl, lower_last xs m k h)

-- of two lists of one length that differ, one is lower
lower_cases : (a b : List ℕ) → length a ≡ length b → (a ≡ b) ⊎ (IsLower a b ⊎ IsLower b a)
unfolding IsLower
lower_cases [] [] same = inl refl
lower_cases [] (y ∷ ys) same = absurd (omega (arith, same))
lower_cases (x ∷ xs) [] same = absurd (omega (arith, same))
lower_cases (x ∷ xs) (y ∷ ys) same = by (cases_order x y) (lower_cases xs ys (omega (arith, same)))
  where
    by : (x ≡ y) ⊎ ((x < y) ⊎ (y < x)) → (xs ≡ ys) ⊎ (IsLower xs ys ⊎ IsLower ys xs) →
        ((x ∷ xs) ≡ (y ∷ ys)) ⊎ (((x < y) ⊎ ((x ≡ y) × IsLower xs ys)) ⊎ ((y < x) ⊎ ((y ≡ x) × IsLower ys xs)))
    by (inr (inl l)) rest = inr (inl (inl l))
    by (inr (inr l)) rest = inr (inr (inl l))
    by (inl e) (inl f) = inl (cc)
    by (inl e) (inr (inl l)) = inr (inl (inr (e, l)))
    by (inl e) (inr (inr l)) = inr (inr (inr (sym e, l)))

pub precedes_trans : (a b c : List ℕ) → Precedes a b → Precedes b c → Precedes a c
unfolding Precedes
precedes_trans a b c (inl l) (inl m) = inl (omega (arith, l, m))
precedes_trans a b c (inl l) (inr (e, m)) = inl (omega (arith, l, e))
precedes_trans a b c (inr (e, l)) (inl m) = inl (omega (arith, e, m))
precedes_trans a b c (inr (e, l)) (inr (f, m)) = inr (e ∙ f, lower_trans a b c l m)

pub not_itself : (a : List ℕ) → Precedes a a → ⊥
unfolding Precedes
not_itself a (inl l) = omega (arith, l)
not_itself a (inr (e, l)) = lower_irreflexive a l

-- extensions of an earlier path are earlier
pub goes_on : (a b : List ℕ) (m k : ℕ) → Precedes a b → Precedes (a ++ m ∷ []) (b ++ k ∷ [])
unfolding Precedes
goes_on a b m k (inl l) = inl (omega (arith, l, length-append a (m ∷ []), length-append b (k ∷ [])))
goes_on a b m k (inr (e, l)) = inr (omega (arith, e, length-append a (m ∷ []), length-append b (k ∷ [])), lower_append a b (m ∷ []) (k ∷ []) l)

-- and so is an extension by an earlier edge
pub by_earlier_edge : (a : List ℕ) (m k : ℕ) → m < k → Precedes (a ++ m ∷ []) (a ++ k ∷ [])
unfolding Precedes
by_earlier_edge a m k h = inr (omega (arith, length-append a (m ∷ []), length-append a (k ∷ [])), lower_last a m k h)

-- a path is before its extensions
pub is_begun : (a : List ℕ) (m : ℕ) → Precedes a (a ++ m ∷ [])
unfolding Precedes
is_begun a m = inl (omega (arith, length-append a (m ∷ [])))

-- if a path comes before another, so do its prefixes
pub begins_before : (a : List ℕ) (k : ℕ) (more b : List ℕ) → Precedes (a ++ k ∷ more) b → Precedes (a ++ k ∷ []) b
unfolding Precedes
begins_before a k [] b h = h
begins_before a k (x ∷ more) b (inl l) = inl (omega (arith, l, length-append a (k ∷ x ∷ more), length-append a (k ∷ [])))
begins_before a k (x ∷ more) b (inr (e, l)) = inl (omega (arith, e, length-append a (k ∷ x ∷ more), length-append a (k ∷ [])))

precedes_with : (a b c : List ℕ) → Precedes a b → Precedes (a ++ c) (b ++ c)
unfolding Precedes
precedes_with a b c (inl l) = inl (omega (arith, l, length-append a c, length-append b c))
precedes_with a b c (inr (e, l)) = inr (omega (arith, e, length-append a c, length-append b c), lower_append a b c c l)

pub not_after_with : (a b c : List ℕ) → IsNotAfter a b → IsNotAfter (a ++ c) (b ++ c)
not_after_with a b c (inl e) = inl (ap (λ l. l ++ c) e)
not_after_with a b c (inr h) = inr (precedes_with a b c h)

pub not_after_precedes : (a b c : List ℕ) → IsNotAfter a b → Precedes b c → Precedes a c
not_after_precedes a b c (inl e) h = subst (λ l. Precedes l c) (sym e) h
not_after_precedes a b c (inr l) h = precedes_trans a b c l h

pub not_after_trans : (a b c : List ℕ) → IsNotAfter a b → IsNotAfter b c → IsNotAfter a c
not_after_trans a b c h (inl e) = subst (IsNotAfter a) e h
not_after_trans a b c h (inr l) = inr (not_after_precedes a b c h l)

pub precedes_not_after : (a b c : List ℕ) → Precedes a b → IsNotAfter b c → Precedes a c
precedes_not_after a b c h (inl e) = subst (Precedes a) e h
precedes_not_after a b c h (inr l) = precedes_trans a b c h l

-- of two paths, either the first is not after the second, or the second is before it
pub not_after_or : (a b : List ℕ) → IsNotAfter a b ⊎ Precedes b a
unfolding Precedes
not_after_or a b = by_length (cases_order (length a) (length b))
  where
    by_place : length a ≡ length b → (a ≡ b) ⊎ (IsLower a b ⊎ IsLower b a) → IsNotAfter a b ⊎ Precedes b a
    by_place same (inl e) = inl (inl e)
    by_place same (inr (inl l)) = inl (inr (inr (same, l)))
    by_place same (inr (inr l)) = inr (inr (sym same, l))

    by_length : (length a ≡ length b) ⊎ ((length a < length b) ⊎ (length b < length a)) → IsNotAfter a b ⊎ Precedes b a
    by_length (inl e) = by_place e (lower_cases a b e)
    by_length (inr (inl l)) = inl (inr (inl l))
    by_length (inr (inr l)) = inr (inl l)

lower_next : (p a : List ℕ) (m : ℕ) → length p ≡ length (a ++ (m + 1) ∷ []) → IsLower p (a ++ (m + 1) ∷ []) → (p ≡ a ++ m ∷ []) ⊎ IsLower p (a ++ m ∷ [])
unfolding IsLower
lower_next [] [] m same h = absurd h
lower_next [] (y ∷ ys) m same h = absurd h
lower_next (x ∷ []) [] m same (inl below) = by (eq-or-lt_of_le (omega (arith, below)))
  where
    by : (x ≡ m) ⊎ (x < m) → ((x ∷ []) ≡ (m ∷ [])) ⊎ ((x < m) ⊎ ((x ≡ m) × ⊥))
    by (inl e) = inl (ap (λ n. n ∷ []) e)
    by (inr l) = inr (inl l)
lower_next (x ∷ []) [] m same (inr (e, never)) = absurd never
lower_next (x ∷ z ∷ xs) [] m same h = absurd (omega (arith, same))
lower_next (x ∷ xs) (y ∷ ys) m same (inl below) = inr (inl below)
lower_next (x ∷ xs) (y ∷ ys) m same (inr (e, rest)) = by (lower_next xs ys m (omega (arith, same)) rest)
  where
    by : (xs ≡ ys ++ m ∷ []) ⊎ IsLower xs (ys ++ m ∷ []) → ((x ∷ xs) ≡ (y ∷ (ys ++ m ∷ []))) ⊎ ((x < y) ⊎ ((x ≡ y) × IsLower xs (ys ++ m ∷ [])))
    by (inl f) = inl (cc)
    by (inr l) = inr (inr (e, l))

-- between an edge and the next one of the same node there are only extensions of the first
pub next_edge : (p a : List ℕ) (m : ℕ) → Precedes p (a ++ (m + 1) ∷ []) → IsNotAfter p (a ++ m ∷ [])
unfolding Precedes
next_edge p a m (inl shorter) = inr (inl (omega (arith, shorter, length-append a (m ∷ []), length-append a ((m + 1) ∷ []))))
next_edge p a m (inr (same, lower)) = by (lower_next p a m same lower)
  where
    by : (p ≡ a ++ m ∷ []) ⊎ IsLower p (a ++ m ∷ []) → IsNotAfter p (a ++ m ∷ [])
    by (inl e) = inl e
    by (inr l) = inr (inr (omega (arith, same, length-append a (m ∷ []), length-append a ((m + 1) ∷ [])), l))
