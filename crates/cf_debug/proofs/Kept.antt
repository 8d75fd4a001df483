-- The records of a ring, seen as the values that they keep.
use Rattle.std.proofs.Common.{◌≡◌, ℕ, zero, suc, ◌-◌, ◌<◌, List, [], ◌∷◌, ◌++◌, length, map, take, drop, Option, Some, None, refl, ap, sym, ◌∙◌, arith}
use Rattle.std.specs.Prelude.{slice_get, MatchOption}
use Rattle.std.proofs.lemmas.List.{drop-map, length-map, map-append}
use Rattle.circular_buffer.specs.Buffer.{keep_last, last_item}
use Rattle.cf_semantics.specs.moves.Kept.{Kept}
use Rattle.cf_core.specs.declared.undo.Undo.{Undo}
use Rattle.cf_core.specs.Undo.{kept_by}
use Rattle.cf_debug.specs.Rings.{with_record}

map_last : {X Y : Type 0} (f : X → Y) (n : ℕ) (xs : List X) → map f (keep_last n xs) ≡ keep_last n (map f xs)
map_last f n xs = sym (drop-map f (length xs - n) xs) ∙ ap (λ (m : ℕ). drop (m - n) (map f xs)) (sym (length-map xs f))

-- one more record
pub kept_more : (n : ℕ) (records : List Undo) (undo : Undo) → n ≡ 1024 → map kept_by (keep_last n (records ++ undo ∷ []))
    ≡ with_record (map kept_by records) (kept_by undo)
kept_more n records undo is =
    map_last kept_by n (records ++ undo ∷ []) ∙ ap (keep_last n) (map-append kept_by records (undo ∷ []))
    ∙ ap (λ (k : ℕ). keep_last k (map kept_by records ++ kept_by undo ∷ [])) is

empty : {X : Type 0} (xs : List X) → length xs ≡ 0 → xs ≡ []
empty [] none = refl
empty (x ∷ xs) none = absurd (omega (arith, none))

-- a list up to its last one, and that
cut_at : {X : Type 0} (xs : List X) (n : ℕ) (x : X) → length xs ≡ suc n → slice_get xs n ≡ Some x → xs ≡ take n xs ++ x ∷ []
cut_at [] n x size h = absurd (omega (arith, size))
cut_at (y ∷ xs) zero x size h = rw (empty xs (omega (arith, size))) (cc)
cut_at (y ∷ xs) (suc n) x size h = ap (λ rest. y ∷ rest) (cut_at xs n x (omega (arith, size)) h)

-- there is an element at each index below the length
some_at : {X : Type 0} (xs : List X) (n : ℕ) → n < length xs → slice_get xs n ≡ None → ⊥
some_at [] n low none = absurd (omega (arith, low))
some_at (x ∷ xs) zero low none = cc
some_at (x ∷ xs) (suc n) low none = some_at xs n (omega (arith, low)) none

-- the last record, if there is one
pub kept-last : (records : List Undo) (last : Option Undo) → last ≡ last_item records → MatchOption last ((map kept_by records ≡ [])
    × (map kept_by (take (length records - 1) records) ≡ [])) (λ undo. map kept_by records ≡ map kept_by (take (length records - 1) records) ++ kept_by undo
    ∷ [])
kept-last [] last is = rw is (refl, refl)
kept-last (first ∷ records) None is = absurd (some_at (first ∷ records) (length (first ∷ records) - 1) (omega arith) (sym is))
kept-last (first ∷ records) (Some undo) is =
    let all : List Undo = first ∷ records in
    ap (map kept_by) (cut_at all (length all - 1) undo (omega arith) (sym is)) ∙ map-append kept_by (take (length all - 1) all) (undo ∷ [])

-- the same for the lists that are seen
pub popped : (records rest : List Undo) (old new : List Kept) (last : Option Undo) → last ≡ last_item records → rest ≡ take (length records - 1) records →
    map kept_by records ≡ old → new ≡ map kept_by rest → MatchOption last ((old ≡ []) × (new ≡ [])) (λ undo. old ≡ new ++ kept_by undo ∷ [])
popped records rest old new None is rest_is seen seen_rest =
    let none = kept-last records None is in
    (sym seen ∙ none.0, seen_rest ∙ ap (map kept_by) rest_is ∙ none.1)
popped records rest old new (Some undo) is rest_is seen seen_rest =
    sym seen ∙ kept-last records (Some undo) is ∙ ap (λ (ks : List Kept). ks ++ kept_by undo ∷ []) (sym (seen_rest ∙ ap (map kept_by) rest_is))
