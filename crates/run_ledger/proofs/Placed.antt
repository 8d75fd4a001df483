-- The sites of sidings, with one more siding.
use Rattle.std.proofs.Common.{◌≡◌, ◌∙◌, refl, sym, ap, ℕ, ◌+◌, List, [], ◌∷◌, ◌++◌, map, append_assoc, Bool, true, false, cond}
use Rattle.std.specs.Prelude.{filter}
use Rattle.std.proofs.lemmas.List.{map-append}
use Rattle.cf_semantics.specs.moves.Candidates.{counted_from}
use Rattle.cf_semantics.specs.moves.Sites.{Site}
use Rattle.cf_timed.proofs.SiteTimes.{numbers_more}
use Rattle.run_ledger.specs.Ledgers.{place_number}

-- the number of one more site, or none
pub places_more : (place : ℕ → Site) (test : ℕ → Bool) (k : ℕ) → map place_number (map place (filter test (counted_from 0 (k + 1))))
    ≡ map place_number (map place (filter test (counted_from 0 k))) ++ cond (test k) (place_number (place k) ∷ []) []
places_more place test k =
    ap (λ (ks : List ℕ). map place_number (map place ks)) (numbers_more test k)
    ∙ ap (map place_number) (map-append place (filter test (counted_from 0 k)) (cond (test k) (k ∷ []) []))
    ∙ map-append place_number (map place (filter test (counted_from 0 k))) (map place (cond (test k) (k ∷ []) []))
    ∙ ap (λ (ns : List ℕ). map place_number (map place (filter test (counted_from 0 k))) ++ ns) (by (test k))
  where
    by : (b : Bool) → map place_number (map place (cond b (k ∷ []) [])) ≡ cond b (place_number (place k) ∷ []) []
    by true = refl
    by false = refl

-- so some sites, and those of the sidings so far, with one more siding
pub places_next : (place : ℕ → Site) (test : ℕ → Bool) (k : ℕ) (first now next : List ℕ) (taken : Bool) (number : ℕ) →
    now ≡ first ++ map place_number (map place (filter test (counted_from 0 k))) → next ≡ now ++ cond taken (number ∷ []) [] → taken ≡ test k →
    number ≡ place_number (place k) → next ≡ first ++ map place_number (map place (filter test (counted_from 0 (k + 1))))
places_next place test k first now next taken number before pushed taken_is number_is =
    pushed
    ∙ ap (λ (ns : List ℕ). ns ++ cond taken (number ∷ []) []) before
    ∙ append_assoc first (map place_number (map place (filter test (counted_from 0 k)))) (cond taken (number ∷ []) [])
    ∙ ap (λ (b : Bool). first ++ (map place_number (map place (filter test (counted_from 0 k))) ++ cond b (number ∷ []) [])) taken_is
    ∙ ap (λ (n : ℕ). first ++ (map place_number (map place (filter test (counted_from 0 k))) ++ cond (test k) (n ∷ []) [])) number_is
    ∙ ap (λ (ns : List ℕ). first ++ ns) (sym (places_more place test k))
