-- The first word is split off a text.
use Rattle.std.proofs.Common.{◌≡◌, ℕ, ◌+◌, ◌-◌, ◌<◌, ◌≤◌, Bool, true, false, List, [], ◌∷◌, ◌++◌, length, get_or, take, drop, refl, sym, ◌∙◌, ap, arith, cond, suc, zero}
use Rattle.std.specs.Prelude.{not, ◌==◌, slice_index_or}
use Rattle.std.specs.List.{filter, slice_split, onto_first, position_or_len, prefix_len, suffix_len}
use Rattle.std.proofs.Math.Seq.{take-length, take-suc}
use Rattle.std.proofs.lemmas.List.{append-nil}
use Rattle.std.proofs.lemmas.List.Elements.{filter-append}
use Rattle.std.proofs.lemmas.List.Splits.{length-slice_split}
use Rattle.std.proofs.lemmas.List.Folds.{length-prefix_len}
use Rattle.std.proofs.lemmas.List.Sums.{suffix_len-take_yes, suffix_len-take_no}
use Rattle.std.proofs.lemmas.Bool.Decides.{nat_tests}
use Rattle.rv_text.specs.Pieces.{is_blank, without_front, without_end, trimmed, name_part, operand_part}
use Rattle.rv_text.proofs.Cuts.{first_piece}
use Rattle.run_scripts.specs.Words.{is_word, words_of, first_word}

-- what is prepended to the first part stays there when more parts are added after it
onto_first-append : (x : ℕ) (parts more : List (List ℕ)) → 0 < length parts → onto_first x (parts ++ more) ≡ onto_first x parts ++ more
onto_first-append x [] more h = absurd (omega arith)
onto_first-append x (part ∷ parts) more h = refl

parts-some : (p : ℕ → Bool) (xs : List ℕ) → 0 < length (slice_split p xs)
parts-some p xs = omega (arith, length-slice_split p xs)

split_by : (b : Bool) (x : ℕ) (whole front back : List (List ℕ)) → whole ≡ front ++ back → 0 < length front
    → cond b ([] ∷ whole) (onto_first x whole) ≡ cond b ([] ∷ front) (onto_first x front) ++ back
split_by true x whole front back e some = ap (λ parts. [] ∷ parts) e
split_by false x whole front back e some = ap (onto_first x) e ∙ onto_first-append x front back some

-- a separator splits the text in two
split-at : (p : ℕ → Bool) (xs : List ℕ) (y : ℕ) (ys : List ℕ) → p y ≡ true
    → slice_split p (xs ++ y ∷ ys) ≡ slice_split p xs ++ slice_split p ys
split-at p [] y ys h = rw h refl
split-at p (x ∷ xs) y ys h =
    split_by (p x) x _ (slice_split p xs) (slice_split p ys) (split-at p xs y ys h) (parts-some p xs)

-- the words around a blank
pub words-at : (xs : List ℕ) (y : ℕ) (ys : List ℕ) → is_blank y ≡ true → words_of (xs ++ y ∷ ys) ≡ words_of xs ++ words_of ys
unfolding words_of
words-at xs y ys h =
    ap (filter is_word) (split-at is_blank xs y ys h) ∙ filter-append is_word (slice_split is_blank xs) (slice_split is_blank ys)

no_words : words_of [] ≡ []
unfolding words_of
no_words = refl

words-after : (y : ℕ) (ys : List ℕ) → is_blank y ≡ true → words_of (y ∷ ys) ≡ words_of ys
words-after y ys h = words-at [] y ys h ∙ ap (λ words. words ++ words_of ys) no_words

words-before : (xs : List ℕ) (y : ℕ) → is_blank y ≡ true → words_of (xs ++ y ∷ []) ≡ words_of xs
words-before xs y h = words-at xs y [] h ∙ ap (λ words. words_of xs ++ words) no_words ∙ append-nil (words_of xs)

front_by : (b : Bool) (x : ℕ) (xs : List ℕ) (n : ℕ) → is_blank x ≡ b → words_of (drop n xs) ≡ words_of xs
    → words_of (drop (cond b (1 + n) 0) (x ∷ xs)) ≡ words_of (x ∷ xs)
front_by true x xs n e ih =
    let next : 1 + n ≡ suc n = omega arith in
    rw next (ih ∙ sym (words-after x xs e))
front_by false x xs n e ih = refl

words-without_front : (text : List ℕ) → words_of (without_front text) ≡ words_of text
unfolding without_front
words-without_front [] = refl
words-without_front (x ∷ xs) = front_by (is_blank x) x xs (prefix_len is_blank xs) refl (words-without_front xs)

end_by : (b : Bool) (xs : List ℕ) (m : ℕ) → is_blank (get_or xs m 0) ≡ b → suc m ≤ length xs
    → words_of (take (m - suffix_len is_blank (take m xs)) xs) ≡ words_of (take m xs)
    → words_of (take (suc m - suffix_len is_blank (take (suc m) xs)) xs) ≡ words_of (take (suc m) xs)
end_by true xs m e within ih =
    let here : suc m - 1 ≡ m = omega arith in
    let more : suffix_len is_blank (take (suc m) xs) ≡ 1 + suffix_len is_blank (take (suc m - 1) xs) =
    suffix_len-take_yes is_blank xs (suc m) 0 (omega arith) within (rw here e) in
    let left : suc m - (1 + suffix_len is_blank (take m xs)) ≡ m - suffix_len is_blank (take m xs) = omega arith in
    let last : take (suc m) xs ≡ take m xs ++ get_or xs m 0 ∷ [] = take-suc xs m 0 within in
    rw (more, here, left) (ih ∙ sym (ap words_of last ∙ words-before (take m xs) (get_or xs m 0) e))
end_by false xs m e within ih =
    let here : suc m - 1 ≡ m = omega arith in
    let none : suffix_len is_blank (take (suc m) xs) ≡ 0 =
    suffix_len-take_no is_blank xs (suc m) 0 (omega arith) within (rw here e) in
    let whole : suc m - 0 ≡ suc m = omega arith in
    rw (none, whole) refl

words-end : (xs : List ℕ) (n : ℕ) → n ≤ length xs
    → words_of (take (n - suffix_len is_blank (take n xs)) xs) ≡ words_of (take n xs)
words-end xs zero h = refl
words-end xs (suc m) h = end_by (is_blank (get_or xs m 0)) xs m refl h (words-end xs m (omega arith))

words-without_end : (text : List ℕ) → words_of (without_end text) ≡ words_of text
unfolding without_end
words-without_end text = rw take-length at (words-end text (length text) (omega arith))

words-trimmed : (text : List ℕ) → words_of (trimmed text) ≡ words_of text
unfolding trimmed
words-trimmed text = words-without_end (without_front text) ∙ words-without_front text

-- a text that does not begin with a blank
abbrev IsBegun : List ℕ → Type 0
IsBegun [] = Unit {0}
IsBegun (x ∷ xs) = is_blank x ≡ false

begun_by : (b : Bool) (x : ℕ) (xs : List ℕ) (n : ℕ) → is_blank x ≡ b → IsBegun (drop n xs) → IsBegun (drop (cond b (1 + n) 0) (x ∷ xs))
begun_by true x xs n e ih = let next : 1 + n ≡ suc n = omega arith in rw next ih
begun_by false x xs n e ih = e

begun-front : (text : List ℕ) → IsBegun (without_front text)
unfolding without_front
begun-front [] = tt
begun-front (x ∷ xs) = begun_by (is_blank x) x xs (prefix_len is_blank xs) refl (begun-front xs)

begun-take : (n : ℕ) (text : List ℕ) → IsBegun text → IsBegun (take n text)
begun-take zero text h = tt
begun-take (suc n) [] h = tt
begun-take (suc n) (x ∷ xs) h = h

begun-trimmed : (text : List ℕ) → IsBegun (trimmed text)
unfolding trimmed without_end
begun-trimmed text = begun-take _ (without_front text) (begun-front text)

rest_by : (b : Bool) (x : ℕ) (xs : List ℕ) (n : ℕ) (parts : List (List ℕ)) → is_blank x ≡ b → words_of xs ≡ filter is_word parts
    → words_of (drop n xs) ≡ filter is_word (drop 1 parts)
    → words_of (drop (cond (not b) (1 + n) 0) (x ∷ xs)) ≡ filter is_word (drop 1 (cond b ([] ∷ parts) (onto_first x parts)))
rest_by true x xs n parts e same ih = words-after x xs e ∙ same
rest_by false x xs n [] e same ih = let next : 1 + n ≡ suc n = omega arith in rw next ih
rest_by false x xs n (part ∷ parts) e same ih = let next : 1 + n ≡ suc n = omega arith in rw next ih

words_are : (text : List ℕ) → words_of text ≡ filter is_word (slice_split is_blank text)
unfolding words_of
words_are text = refl

-- the words from the first blank on
words-rest : (text : List ℕ) → words_of (drop (position_or_len is_blank text) text) ≡ filter is_word (drop 1 (slice_split is_blank text))
words-rest [] = no_words
words-rest (x ∷ xs) =
    rest_by (is_blank x) x xs (position_or_len is_blank xs) (slice_split is_blank xs) refl (words_are xs) (words-rest xs)

first_of_parts : (x : ℕ) (parts : List (List ℕ)) → 0 < length parts
    → first_word (filter is_word (onto_first x parts)) ≡ x ∷ slice_index_or parts 0 []
first_of_parts x [] some = absurd (omega arith)
first_of_parts x (part ∷ parts) some = refl

others_of_parts : (x : ℕ) (parts : List (List ℕ)) → 0 < length parts
    → filter is_word (drop 1 (onto_first x parts)) ≡ drop 1 (filter is_word (onto_first x parts))
others_of_parts x [] some = absurd (omega arith)
others_of_parts x (part ∷ parts) some = refl

first_begun : (text : List ℕ) → IsBegun text → first_word (words_of text) ≡ take (position_or_len is_blank text) text
unfolding words_of
first_begun [] h = refl
first_begun (x ∷ xs) h =
    let next : 1 + position_or_len is_blank xs ≡ suc (position_or_len is_blank xs) = omega arith in
    rw (h, next) (first_of_parts x (slice_split is_blank xs) (parts-some is_blank xs) ∙ ap (λ l. x ∷ l) (sym (first_piece is_blank xs)))

others_begun : (text : List ℕ) → IsBegun text → words_of (drop (position_or_len is_blank text) text) ≡ drop 1 (words_of text)
others_begun [] h = no_words ∙ ap (drop 1) (sym no_words)
others_begun (x ∷ xs) h =
    let parted : slice_split is_blank (x ∷ xs) ≡ onto_first x (slice_split is_blank xs) = rw h refl in
    words-rest (x ∷ xs)
    ∙ ap (λ parts. filter is_word (drop 1 parts)) parted
    ∙ others_of_parts x (slice_split is_blank xs) (parts-some is_blank xs)
    ∙ ap (λ parts. drop 1 (filter is_word parts)) (sym parted)
    ∙ ap (drop 1) (sym (words_are (x ∷ xs)))

-- the name in a text is its first word
pub name-word : (text : List ℕ) → name_part text ≡ first_word (words_of text)
unfolding name_part
name-word text = sym (first_begun (trimmed text) (begun-trimmed text)) ∙ ap first_word (words-trimmed text)

-- and what comes after the name has the other words
pub operand-words : (text : List ℕ) → words_of (operand_part text) ≡ drop 1 (words_of text)
unfolding operand_part name_part
operand-words text =
    let size : length (take (position_or_len is_blank (trimmed text)) (trimmed text)) ≡ position_or_len is_blank (trimmed text) =
    length-prefix_len (λ byte. not (is_blank byte)) (trimmed text) in
    rw size (others_begun (trimmed text) (begun-trimmed text) ∙ ap (drop 1) (words-trimmed text))

some_of_parts : (x : ℕ) (parts : List (List ℕ)) → 0 < length parts → (length (filter is_word (onto_first x parts)) == 0) ≡ false
some_of_parts x [] some = absurd (omega arith)
some_of_parts x (part ∷ parts) some = grind (arith, nat_tests)

none_begun : (text : List ℕ) → IsBegun text → (length text == 0) ≡ (length (words_of text) == 0)
unfolding words_of
none_begun [] h = refl
none_begun (x ∷ xs) h =
    let some : (length (x ∷ xs) == 0) ≡ false = grind (arith, nat_tests) in
    rw h (some ∙ sym (some_of_parts x (slice_split is_blank xs) (parts-some is_blank xs)))

-- a text that consists only of blanks has no words
pub no-words : (text : List ℕ) → (length (trimmed text) == 0) ≡ (length (words_of text) == 0)
no-words text = none_begun (trimmed text) (begun-trimmed text) ∙ ap (λ words. length words == 0) (words-trimmed text)

pub ruleset cuts = (name-word, operand-words, no-words)
