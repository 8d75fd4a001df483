-- The first elements of a list, and the next one.
use Rattle.std.proofs.Common.{◌≡◌, ℕ, zero, suc, ◌+◌, ◌<◌, List, [], ◌∷◌, ◌++◌, length, map, take, drop, refl, ap, sym, Some, arith}
use Rattle.std.specs.Prelude.{slice_get, slice_index_or, Bool, false, Result, Ok, Err, is_ok, is_err, if◌then◌else◌}

-- what is read at a place
pub there-at : {A : Type 0} (xs : List A) (i : ℕ) (x : A) → i < length xs → x ≡ slice_index_or xs i x → slice_get xs i ≡ Some x
there-at [] i x within e = absurd (omega (arith, within))
there-at (y ∷ xs) zero x within e = ap Some (sym e)
there-at (y ∷ xs) (suc i) x within e = there-at xs i x (omega (arith, within)) e

pub mapped-at : {A B : Type 0} (f : A → B) (xs : List A) (i : ℕ) (x : A) → slice_get xs i ≡ Some x → slice_get (map f xs) i ≡ Some (f x)
mapped-at f [] i x e = absurd (cc)
mapped-at f (y ∷ xs) zero x e = cc
mapped-at f (y ∷ xs) (suc i) x e = mapped-at f xs i x e

-- what was pushed comes after the others
pub pushed : {A E : Type 0} (r : Result (Unit {0}) E) (failed : Bool) (old new : List A) (x : A) →
    new ≡ (if is_ok r then old ++ x ∷ [] else old) → failed ≡ is_err r → failed ≡ false → new ≡ old ++ x ∷ []
pushed (Ok u) failed old new x h is none = h
pushed (Err e) failed old new x h is none = absurd (cc)

-- one more of the first
pub take-next : {A : Type 0} (xs : List A) (i : ℕ) (x : A) → slice_get xs i ≡ Some x → take (i + 1) xs ≡ take i xs ++ x ∷ []
take-next [] i x e = absurd (cc)
take-next (y ∷ xs) zero x e = cc
take-next (y ∷ xs) (suc i) x e =
    let n : suc i + 1 ≡ suc (i + 1) = omega arith in
    rw n (ap (λ (zs : List _). y ∷ zs) (take-next xs i x e))

-- after the first comes the next one
pub split-at : {A : Type 0} (xs : List A) (i : ℕ) (x : A) → slice_get xs i ≡ Some x → xs ≡ take i xs ++ x ∷ drop (i + 1) xs
split-at [] i x e = absurd (cc)
split-at (y ∷ xs) zero x e = cc
split-at (y ∷ xs) (suc i) x e =
    let n : suc i + 1 ≡ suc (i + 1) = omega arith in
    rw n (ap (λ (zs : List _). y ∷ zs) (split-at xs i x e))

pub map-next : {A B : Type 0} (f : A → B) (xs : List A) (x : A) → map f (xs ++ x ∷ []) ≡ map f xs ++ f x ∷ []
map-next f [] x = refl
map-next f (y ∷ xs) x = ap (λ (zs : List _). f y ∷ zs) (map-next f xs x)

pub length-mapped : {A B : Type 0} (f : A → B) (xs : List A) → length (map f xs) ≡ length xs
length-mapped f [] = refl
length-mapped f (y ∷ xs) = ap suc (length-mapped f xs)

pub got-within : {A : Type 0} (xs : List A) (i : ℕ) (x : A) → slice_get xs i ≡ Some x → i < length xs
got-within [] i x e = absurd (cc)
got-within (y ∷ xs) zero x e = omega arith
got-within (y ∷ xs) (suc i) x e = let h = got-within xs i x e in omega (arith, h)
