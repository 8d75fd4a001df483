-- The words of two texts, one by one.
use Rattle.std.proofs.Common.{◌≡◌, ℕ, List, [], ◌∷◌, length, drop, true, false, refl, arith}
use Rattle.std.specs.Prelude.{◌==◌}
use Rattle.std.proofs.lemmas.Bool.Decides.{nat_tests}
use Rattle.run_scripts.specs.Words.{first_word}

-- if the first words are the same, and the other words too, all words are the same
pub words-next : (left right : List (List ℕ)) → (length left == 0) ≡ false → (length right == 0) ≡ false → first_word left ≡ first_word right →
    drop 1 left ≡ drop 1 right → left ≡ right
words-next [] right some other first rest = absurd (cc)
words-next (word ∷ left) [] some other first rest = absurd (cc)
words-next (word ∷ left) (same ∷ right) some other first rest = rw (first, rest) refl

-- two texts with no words have the same words
pub words-none : (left right : List (List ℕ)) → (length left == 0) ≡ true → (length right == 0) ≡ true → left ≡ right
words-none [] [] none other = refl
words-none [] (word ∷ right) none other = absurd (grind (arith, nat_tests))
words-none (word ∷ left) right none other = absurd (grind (arith, nat_tests))

-- if only one of two texts has words, they differ
pub words-apart : (left right : List (List ℕ)) → (length left == 0) ≡ true → (length right == 0) ≡ false → left ≡ right → ⊥
words-apart [] [] none some same = absurd (cc)
words-apart [] (word ∷ right) none some same = absurd (cc)
words-apart (word ∷ left) right none some same = absurd (grind (arith, nat_tests))

pub words-above : (left right : List (List ℕ)) → (length left == 0) ≡ false → (length right == 0) ≡ true → left ≡ right → ⊥
words-above [] right some none same = absurd (cc)
words-above (word ∷ left) [] some none same = absurd (cc)
words-above (word ∷ left) (other ∷ right) some none same = absurd (grind (arith, nat_tests))

pub ruleset word_pairs = (words-next, words-none, words-apart, words-above)
