-- Arguments that end with a letter.
use Rattle.std.proofs.Common.{◌≡◌, ◌≢◌, ◌<◌, ◌-◌, ◌+◌, ℕ, List, [], ◌∷◌, ◌++◌, length, take, drop, Bool, true, false, refl, arith, sym, ap}
use Rattle.std.proofs.Common.{◌∙◌, Option, Some, None, option_map, MatchOption}
use Rattle.std.specs.Prelude.{nat_eq}
use Rattle.std.specs.List.{ends_with}
use Rattle.std.specs.Str.Pattern.{FindsCharSuffix}
use lib.Pointwise.{bytes_decides}
use denote.Ref.{Bor}
use lib.Seq.{drop-length}
use Rattle.std.proofs.lemmas.List.{drop-append-le, length-append, take-append-drop, take-append-le}
use Rattle.std.proofs.lemmas.Str.Pattern.{strip_suffix_char}
use Rattle.std.proofs.Math.Seq.{take-length}
use Rattle.cli_arguments.specs.Values.{before_letter}

-- a letter after other bytes is the last
last-length : (front : List ℕ) (letter : ℕ) → length (front ++ letter ∷ []) - 1 ≡ length front
last-length front letter = omega (arith, length-append front (letter ∷ []))

ends-so : (front : List ℕ) (letter : ℕ) → ends_with nat_eq (front ++ letter ∷ []) (letter ∷ []) ≡ true
ends-so front letter =
    let dropped : drop (length (front ++ letter ∷ []) - 1) (front ++ letter ∷ []) ≡ letter ∷ [] =
    ap (λ (n : ℕ). drop n (front ++ letter ∷ [])) (last-length front letter)
    ∙ (drop-append-le (length front) front (letter ∷ []) (omega arith)
    ∙ ap (λ (xs : List ℕ). xs ++ letter ∷ []) (drop-length front)) in
    (bytes_decides (letter ∷ []) (drop (length (front ++ letter ∷ []) - 1) (front ++ letter ∷ []))).1 (sym dropped)

before-so : (front : List ℕ) (letter : ℕ) → take (length (front ++ letter ∷ []) - 1) (front ++ letter ∷ []) ≡ front
before-so front letter =
    ap (λ (n : ℕ). take n (front ++ letter ∷ [])) (last-length front letter)
    ∙ (take-append-le (length front) front (letter ∷ []) (omega arith) ∙ take-length front)

-- an argument ends with the letter only if the letter comes after other bytes
ends-not : (argument : List ℕ) (letter : ℕ) → ((front : List ℕ) → argument ≢ front ++ letter ∷ []) →
    ends_with nat_eq argument (letter ∷ []) ≡ false
ends-not argument letter other = by (ends_with nat_eq argument (letter ∷ [])) refl
  where
    by : (b : Bool) → ends_with nat_eq argument (letter ∷ []) ≡ b → b ≡ false
    by false is = refl
    by true is =
        let dropped : letter ∷ [] ≡ drop (length argument - 1) argument =
        (bytes_decides (letter ∷ []) (drop (length argument - 1) argument)).0 is in
        absurd (other (take (length argument - 1) argument)
        (sym (take-append-drop (length argument - 1) argument)
        ∙ ap (λ (xs : List ℕ). take (length argument - 1) argument ++ xs) (sym dropped)))

-- the part of an argument before its last letter
stripped-by : (letter : ℕ) (argument : List ℕ) (r : Option (Bor (List ℕ))) →
    MatchOption r ((front : List ℕ) → argument ≢ front ++ letter ∷ []) (λ x. argument ≡ x.now ++ letter ∷ []) →
    option_map (λ x. x.now) r ≡ before_letter letter argument
unfolding before_letter
stripped-by letter argument None h = rw (ends-not argument letter h) refl
stripped-by letter argument (Some x) h = rw (h, ends-so x.now letter, before-so x.now letter) refl

pub stripped : (letter : ℕ) (argument : List ℕ) (r : Option (Bor (List ℕ))) → letter < 128 →
    MatchOption r (FindsCharSuffix letter argument None) (λ x. (n : ℕ) × FindsCharSuffix letter argument (Some n)
    × (x.now ≡ take (length argument - n) argument) × (length x.now + n ≡ length argument)) →
    option_map (λ x. x.now) r ≡ before_letter letter argument
stripped letter argument r low h = stripped-by letter argument r (strip_suffix_char letter argument r h low)

pub ruleset letters = (stripped)
