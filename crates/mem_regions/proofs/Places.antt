-- The index of the first element that passes a test, and what it says about the list.
use Rattle.std.proofs.Common.{◌≡◌, ◌∙◌, ℕ, ◌<◌, suc, List, [], ◌∷◌, Bool, true, false, Option, Some, None, length, find, slice_get, slice_set, unwrap_or, refl, ap, subst, cond, arith}
use Rattle.std.specs.Prelude.{position}
use Rattle.std.specs.List.{list_any}
use Rattle.std.specs.Option.{option_map}
use Rattle.mem_regions.specs.Writing.{first_changed}
use Rattle.mem_regions.proofs.Finding.{position-cons}

-- the index is that of the first element that passes: found there, and changed there
pub record IsPlace {A : Type 0} (p : A → Bool) (xs : List A) (i : ℕ) (d : A) : Type 0 where
  pub below : i < length xs
  pub passes : p (unwrap_or (slice_get xs i) d) ≡ true
  pub found : find p xs ≡ Some (unwrap_or (slice_get xs i) d)
  pub any : list_any p xs ≡ true
  pub changed : (f : A → A) → first_changed p f xs ≡ slice_set xs i (f (unwrap_or (slice_get xs i) d))

-- no element passes: none is found, and none changed
pub record HasNone {A : Type 0} (p : A → Bool) (xs : List A) : Type 0 where
  pub found : find p xs ≡ None
  pub any : list_any p xs ≡ false
  pub changed : (f : A → A) → first_changed p f xs ≡ xs

-- the first element passes
place_here : {A : Type 0} (p : A → Bool) (x : A) (xs : List A) (d : A) → p x ≡ true → IsPlace p (x ∷ xs) 0 d
place_here p x xs d e = record { below = omega arith; passes = e; found = rw e refl; any = rw e refl; changed = λ f. rw e refl }

-- the first element fails, and the index comes after it
place_after : {A : Type 0} (p : A → Bool) (x : A) (xs : List A) (i : ℕ) (d : A) → p x ≡ false → IsPlace p xs i d → IsPlace p (x ∷ xs) (suc i) d
place_after p x xs i d e r =
    record {
      below = let b = r.below in omega arith;
      passes = r.passes;
      found = rw e r.found;
      any = rw e r.any;
      changed =
          λ f. rw e (ap (λ ys. x ∷ ys) (r.changed f));
    }

-- the cases where the first element passes, or fails
place_step : {A : Type 0} (p : A → Bool) (x : A) (xs : List A) (i : ℕ) (d : A) (b : Bool) (rest : Option ℕ) → p x ≡ b →
    Some i ≡ cond b (Some 0) (option_map (λ n. suc n) rest) → ((j : ℕ) → Some j ≡ rest → IsPlace p xs j d) → IsPlace p (x ∷ xs) i d
place_step p x xs i d true rest e h k = let same : 0 ≡ i = cc in subst (λ (n : ℕ). IsPlace p (x ∷ xs) n d) same (place_here p x xs d e)
place_step p x xs i d false None e h k = cc
place_step p x xs i d false (Some j) e h k = let same : suc j ≡ i = cc in subst (λ (n : ℕ). IsPlace p (x ∷ xs) n d) same (place_after p x xs j d e (k j refl))

-- what the index of the first element that passes says
pub place_of : {A : Type 0} (p : A → Bool) (xs : List A) (i : ℕ) (d : A) → Some i ≡ position p xs → IsPlace p xs i d
place_of p [] i d h = cc
place_of p (x ∷ xs) i d h = place_step p x xs i d (p x) (position p xs) refl (h ∙ position-cons p x xs) (λ j. place_of p xs j d)

-- no element passes, so neither does the first
none_step : {A : Type 0} (p : A → Bool) (x : A) (xs : List A) (b : Bool) (rest : Option ℕ) → p x ≡ b → None ≡ cond b (Some 0) (option_map (λ n. suc n) rest) →
    (None ≡ rest → HasNone p xs) → HasNone p (x ∷ xs)
none_step p x xs true rest e h k = cc
none_step p x xs false None e h k = let r = k refl in record { found = rw e r.found; any = rw e r.any; changed = λ f. rw e (ap (λ ys. x ∷ ys) (r.changed f)) }
none_step p x xs false (Some j) e h k = cc

-- what it means that there is no such index
pub none_of : {A : Type 0} (p : A → Bool) (xs : List A) → None ≡ position p xs → HasNone p xs
none_of p [] h = record { found = refl; any = refl; changed = λ f. refl }
none_of p (x ∷ xs) h = none_step p x xs (p x) (position p xs) refl (h ∙ position-cons p x xs) (none_of p xs)
