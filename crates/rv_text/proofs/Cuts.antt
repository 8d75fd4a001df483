-- The pieces between commas, one after another.
use Rattle.std.proofs.Common.{◌≡◌, ℕ, ◌+◌, Bool, true, false, List, [], ◌∷◌, get_or, refl, sym, ◌∙◌, ap, arith, cond, suc, zero, take, drop}
use Rattle.std.specs.Prelude.{slice_index_or, not}
use Rattle.std.specs.List.{slice_split, onto_first, after_first, position_or_len}
use Rattle.std.proofs.lemmas.List.Splits.{length-slice_split}
use Rattle.std.proofs.lemmas.Grind.{common_steps}

-- the parts after the first are unchanged when an element is prepended to the first
onto_first-after : (x : ℕ) (parts : List (List ℕ)) (k : ℕ) → get_or (onto_first x parts) (suc k) [] ≡ get_or parts (suc k) []
onto_first-after x [] zero = refl
onto_first-after x [] (suc k) = refl
onto_first-after x (part ∷ parts) k = refl

onto_first-first : (x : ℕ) (parts : List (List ℕ)) → get_or (onto_first x parts) 0 [] ≡ x ∷ get_or parts 0 []
onto_first-first x [] = refl
onto_first-first x (part ∷ parts) = refl

drop_past : (n : ℕ) (x : ℕ) (xs : List ℕ) → drop (1 + n + 1) (x ∷ xs) ≡ drop (n + 1) xs
drop_past n x xs = grind (arith, common_steps)

take_past : (n : ℕ) (x : ℕ) (xs : List ℕ) → take (1 + n) (x ∷ xs) ≡ x ∷ take n xs
take_past n x xs = grind (arith, common_steps)

next_by : (b : Bool) (n k : ℕ) (x : ℕ) (xs : List ℕ) (parts : List (List ℕ)) (rest : List (List ℕ))
    → (f : List ℕ → List (List ℕ)) → f xs ≡ parts
    → get_or (f (drop (n + 1) xs)) k [] ≡ get_or parts (suc k) []
    → get_or (f (drop (cond (not b) (1 + n) 0 + 1) (x ∷ xs))) k [] ≡ get_or (cond b ([] ∷ parts) (onto_first x parts)) (suc k) []
next_by true n k x xs parts rest f e ih = ap (λ l. get_or l k []) e
next_by false n k x xs parts rest f e ih = rw drop_past (ih ∙ sym (onto_first-after x parts k))

-- the pieces after the first are those of what follows the first comma
next_suc : (p : ℕ → Bool) (xs : List ℕ) (k : ℕ) → get_or (slice_split p (after_first p xs)) k [] ≡ get_or (slice_split p xs) (suc k) []
next_suc p [] zero = refl
next_suc p [] (suc k) = refl
next_suc p (x ∷ xs) k = next_by (p x) (position_or_len p xs) k x xs (slice_split p xs) [] (slice_split p) refl (next_suc p xs k)

first_by : (b : Bool) (n : ℕ) (x : ℕ) (xs : List ℕ) (parts : List (List ℕ))
    → take n xs ≡ get_or parts 0 []
    → take (cond (not b) (1 + n) 0) (x ∷ xs) ≡ get_or (cond b ([] ∷ parts) (onto_first x parts)) 0 []
first_by true n x xs parts ih = refl
first_by false n x xs parts ih = rw (take_past, onto_first-first) (ap (λ l. x ∷ l) ih)

pub first_piece : (p : ℕ → Bool) (xs : List ℕ) → take (position_or_len p xs) xs ≡ slice_index_or (slice_split p xs) 0 []
first_piece p [] = refl
first_piece p (x ∷ xs) = first_by (p x) (position_or_len p xs) x xs (slice_split p xs) (first_piece p xs)

-- the same with the indices counted from some piece on
pub next_piece : (p : ℕ → Bool) (xs : List ℕ) (whole : List (List ℕ)) (n : ℕ)
    → ((k : ℕ) → slice_index_or (slice_split p xs) k [] ≡ slice_index_or whole (k + n) [])
    → (k : ℕ) → slice_index_or (slice_split p (after_first p xs)) k [] ≡ slice_index_or whole (k + (n + 1)) []
next_piece p xs whole n same k =
    let moved : suc k + n ≡ k + (n + 1) = omega arith in
    next_suc p xs k ∙ same (suc k) ∙ ap (λ j. slice_index_or whole j []) moved

pub ruleset cuts = (length-slice_split, first_piece)
