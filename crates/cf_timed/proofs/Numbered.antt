-- Lists of what a function gives for the numbers from 0 on.
use Rattle.std.proofs.Common.{◌≡◌, ◌∙◌, refl, sym, ap, ℕ, zero, suc, ◌+◌, ◌<◌, List, [], ◌∷◌, ◌++◌, length, map, take, arith}
use Rattle.std.specs.Prelude.{slice_set}
use Rattle.std.proofs.lemmas.List.{map-append}
use Rattle.cf_semantics.specs.moves.Candidates.{counted_from}
use Rattle.cf_index.proofs.Counted.{counted_split}
use Rattle.cf_timed.specs.Numbers.{number_at}

-- how many there are
pub numbered_length : {X : Type 0} (f : ℕ → X) (m n : ℕ) → length (map f (counted_from m n)) ≡ n
numbered_length f m zero = refl
numbered_length f m (suc n) = ap suc (numbered_length f (suc m) n)

-- the element at an index
numbered_from : (f : ℕ → ℕ) (m n i : ℕ) → i < n → number_at (map f (counted_from m n)) i ≡ f (m + i)
numbered_from f m zero i within = absurd (omega arith)
numbered_from f m (suc n) zero within = ap f (omega arith)
numbered_from f m (suc n) (suc i) within = numbered_from f (suc m) n i (omega arith) ∙ ap f (omega arith)

pub numbered_at : (f : ℕ → ℕ) (n i : ℕ) → i < n → number_at (map f (counted_from 0 n)) i ≡ f i
numbered_at f n i within = numbered_from f 0 n i within ∙ ap f (omega arith)

-- the length of a list in which one element is replaced
pub set_length : {X : Type 0} (xs : List X) (i : ℕ) (v : X) → length (slice_set xs i v) ≡ length xs
set_length [] i v = refl
set_length (x ∷ xs) zero v = refl
set_length (x ∷ xs) (suc i) v = ap suc (set_length xs i v)

-- one more element of an array that is filled from 0 on
take_set : {X : Type 0} (xs : List X) (i : ℕ) (v : X) → i < length xs → take (i + 1) (slice_set xs i v) ≡ take i xs ++ v ∷ []
take_set [] i v within = absurd (omega arith)
take_set (x ∷ xs) zero v within = refl
take_set {X} (x ∷ xs) (suc i) v within = let e : suc i + 1 ≡ suc (i + 1) = omega arith in rw e (ap (λ (l : List X). x ∷ l) (take_set xs i v (omega arith)))

pub filled_next : {X : Type 0} (f : ℕ → X) (xs : List X) (i : ℕ) (v : X) → take i xs ≡ map f (counted_from 0 i) → i < length xs → v ≡ f i →
    take (i + 1) (slice_set xs i v) ≡ map f (counted_from 0 (i + 1))
filled_next {X} f xs i v filled within is =
    take_set xs i v within
    ∙ ap (λ (l : List X). l ++ v ∷ []) filled
    ∙ ap (λ (n : X). map f (counted_from 0 i) ++ n ∷ []) (is ∙ ap f (omega arith))
    ∙ sym (ap (map f) (counted_split 0 i 1) ∙ map-append f (counted_from 0 i) (counted_from (0 + i) 1))
