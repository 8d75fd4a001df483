-- The kinds of moves and their numbers, one after another.
use Rattle.std.proofs.Common.{◌≡◌, ◌∙◌, ℕ, zero, suc, ◌+◌, ◌<◌, ◌≤◌, List, [], ◌∷◌, ◌++◌, length, take, get_or, Some, refl, ap, sym}
use Rattle.std.proofs.Common.{append_assoc, append-nil, arith}
use Rattle.std.specs.Prelude.{slice_get, unwrap_or}
use Rattle.std.specs.List.{filter, flat_map, zip}
use Rattle.std.proofs.lemmas.List.{take_all}
use Rattle.std.proofs.lemmas.Option.{slice_get-get_or}
use Rattle.std.proofs.lemmas.List.Concat.{flat_map-append}
use Rattle.std.proofs.lemmas.List.Elements.{filter-append}
use Rattle.run_scripts.specs.Kinds.{name_at, names}
use Rattle.cli_time.specs.SiteLines.{KindCount, count_text, counts_text, is_made}
use Rattle.cli_time.proofs.Lists.{take-next}

counts-append : (xs ys : List KindCount) → counts_text (xs ++ ys) ≡ counts_text xs ++ counts_text ys
unfolding counts_text
counts-append xs ys =
    ap (flat_map count_text) (filter-append is_made xs ys)
    ∙ flat_map-append count_text (filter is_made xs) (filter is_made ys)

there : {A : Type 0} (xs : List A) (i : ℕ) (none : A) → i < length xs → slice_get xs i ≡ Some (unwrap_or (slice_get xs i) none)
there [] i none h = absurd (omega (arith, h))
there (x ∷ xs) zero none h = refl
there (x ∷ xs) (suc i) none h = there xs i none (omega (arith, h))

zip-at : {A B : Type 0} (xs : List A) (ys : List B) (i : ℕ) (x : A) (y : B) → slice_get xs i ≡ Some x → slice_get ys i ≡ Some y →
    slice_get (zip xs ys) i ≡ Some (x, y)
zip-at [] ys i x y h k = absurd (cc)
zip-at (a ∷ xs) [] i x y h k = absurd (cc)
zip-at (a ∷ xs) (b ∷ ys) zero x y h k =
    let first : a ≡ x = cc in
    let second : b ≡ y = cc in
    rw (first, second) refl
zip-at (a ∷ xs) (b ∷ ys) (suc i) x y h k = zip-at xs ys i x y h k

zip-few : {A B : Type 0} (xs : List A) (ys : List B) → length (zip xs ys) ≤ length xs
zip-few [] ys = omega arith
zip-few (x ∷ xs) [] = omega arith
zip-few (x ∷ xs) (y ∷ ys) = let few = zip-few xs ys in omega (arith, few)

fourteen : length names ≡ 14
unfolding names
fourteen = refl

-- the next kind
count-at : (numbers : List ℕ) (i : ℕ) → i < 14 → i < length numbers →
    slice_get (zip names numbers) i ≡ Some (name_at i, get_or numbers i 0)
unfolding name_at
count-at numbers i kinds within =
    let size = fourteen in
    zip-at names numbers i (name_at i) (get_or numbers i 0) (there names i [] (omega (arith, kinds, size)))
    (slice_get-get_or numbers i 0 within)

-- after those so far
pub counts-next : (text numbers : List ℕ) (i : ℕ) → i < 14 → i < length numbers →
    (text ++ counts_text (take i (zip names numbers))) ++ counts_text ((name_at i, get_or numbers i 0) ∷ [])
    ≡ text ++ counts_text (take (i + 1) (zip names numbers))
counts-next text numbers i kinds within =
    let counts : List KindCount = zip names numbers in
    let next : KindCount = (name_at i, get_or numbers i 0) in
    append_assoc text (counts_text (take i counts)) (counts_text (next ∷ []))
    ∙ ap (λ (more : List ℕ). text ++ more) (sym (counts-append (take i counts) (next ∷ []))
    ∙ ap counts_text (sym (take-next counts i next (count-at numbers i kinds within))))

-- none
pub counts-none : (text numbers : List ℕ) → text ≡ text ++ counts_text (take 0 (zip names numbers))
unfolding counts_text
counts-none text numbers = sym (append-nil text)

-- and all
pub counts-all : (text numbers : List ℕ) (i : ℕ) → 14 ≤ i →
    text ++ counts_text (take i (zip names numbers)) ≡ text ++ counts_text (zip names numbers)
counts-all text numbers i h =
    let size = fourteen in
    let few = zip-few names numbers in
    ap (λ (counts : List KindCount). text ++ counts_text counts) (take_all i (zip names numbers) (omega (arith, h, size, few)))
