-- The texts of the first of some things, one after another, and the text of the next one.
use Rattle.std.proofs.Common.{◌≡◌, ◌∙◌, ℕ, zero, suc, ◌+◌, ◌-◌, ◌<◌, ◌≤◌, List, [], ◌∷◌, ◌++◌, length, take, drop, Some, refl, ap, sym, arith}
use Rattle.std.specs.Prelude.{reverse, slice_get}
use Rattle.std.specs.List.{flat_map}
use Rattle.std.proofs.lemmas.List.{flat_map_more, reverse-append, take_all, take-append-drop}
use Rattle.std.proofs.lemmas.List.Concat.{flat_map-append}
use Rattle.cf_semantics.specs.moves.Candidates.{counted_from}
use Rattle.cli_time.proofs.Lists.{take-next}

-- with the text of the next one these are the texts of one more
pub texts-next : {A : Type 0} (f : A → List ℕ) (xs : List A) (i : ℕ) (x : A) → slice_get xs i ≡ Some x →
    flat_map f (take i xs) ++ f x ≡ flat_map f (take (i + 1) xs)
texts-next f xs i x e = flat_map_more f [] (take i xs) x ∙ ap (flat_map f) (sym (take-next xs i x e))

-- after it come those of the others
pub texts-after : {A : Type 0} (f : A → List ℕ) (xs : List A) (i : ℕ) (x : A) → slice_get xs i ≡ Some x →
    (rest : List ℕ) × ((flat_map f (take i xs) ++ f x) ++ rest ≡ flat_map f xs)
texts-after f xs i x e =
    let rest : List ℕ = flat_map f (drop (i + 1) xs) in (
      rest,
      ap (λ (text : List ℕ). text ++ rest) (texts-next f xs i x e)
          ∙ (sym (flat_map-append f (take (i + 1) xs) (drop (i + 1) xs)) ∙ ap (flat_map f) (take-append-drop (i + 1) xs)),
    )

-- after the last one, all texts are there
pub texts-all : {A : Type 0} (f : A → List ℕ) (xs : List A) (i : ℕ) → length xs ≤ i → flat_map f (take i xs) ≡ flat_map f xs
texts-all f xs i h = ap (flat_map f) (take_all i xs h)

-- numbers one after another
counted-at : (a n i : ℕ) → i < n → slice_get (counted_from a n) i ≡ Some (a + i)
counted-at a zero i h = absurd (omega (arith, h))
counted-at a (suc n) zero h = let e : a ≡ a + 0 = omega arith in ap Some e
counted-at a (suc n) (suc i) h =
    let e : suc a + i ≡ a + suc i = omega arith in
    counted-at (suc a) n i (omega (arith, h)) ∙ ap Some e

pub numbered-at : (n i : ℕ) → i < n → slice_get (counted_from 0 n) i ≡ Some i
numbered-at n i h =
    let e : 0 + i ≡ i = omega arith in
    counted-at 0 n i h ∙ ap Some e

pub length-counted : (a n : ℕ) → length (counted_from a n) ≡ n
length-counted a zero = refl
length-counted a (suc n) = ap suc (length-counted (suc a) n)

counted-last : (a n : ℕ) → counted_from a (suc n) ≡ counted_from a n ++ (a + n) ∷ []
counted-last a zero = let e : a ≡ a + zero = omega arith in ap (λ (k : ℕ). k ∷ []) e
counted-last a (suc n) =
    let e : suc a + n ≡ a + suc n = omega arith in
    ap (λ (ns : List ℕ). a ∷ ns) (counted-last (suc a) n ∙ ap (λ (k : ℕ). counted_from (suc a) n ++ k ∷ []) e)

-- the same, backwards from the last one
falling : (n : ℕ) → reverse (counted_from 1 (suc n)) ≡ suc n ∷ reverse (counted_from 1 n)
falling n =
    let e : 1 + n ≡ suc n = omega arith in
    ap reverse (counted-last 1 n) ∙ (reverse-append (counted_from 1 n) ((1 + n) ∷ [])
    ∙ ap (λ (k : ℕ). k ∷ reverse (counted_from 1 n)) e)

pub falling-at : (n i : ℕ) → i < n → slice_get (reverse (counted_from 1 n)) i ≡ Some (n - i)
falling-at zero i h = absurd (omega (arith, h))
falling-at (suc n) zero h =
    let e : suc n ≡ suc n - zero = omega arith in
    rw (falling n) (ap Some e)
falling-at (suc n) (suc i) h =
    let e : n - i ≡ suc n - suc i = omega arith in
    rw (falling n) (falling-at n i (omega (arith, h)) ∙ ap Some e)

pub length-falling : (n : ℕ) → length (reverse (counted_from 1 n)) ≡ n
length-falling zero = refl
length-falling (suc n) = rw (falling n) (ap suc (length-falling n))
