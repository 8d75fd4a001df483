-- The elements of a list of parts, and how many there are.
use Rattle.std.proofs.Common.{◌≡◌, ◌∙◌, sym, refl, ap, ℕ, zero, suc, ◌+◌, ◌-◌, ◌<◌, ◌≤◌, List, [], ◌∷◌, ◌++◌, length, map, Bool, true, false, Option, Some, None, arith}
use Rattle.std.specs.Prelude.{slice_get}
use mir.Val.{bool_byte}
use Rattle.std.proofs.lemmas.List.{length-append, length-map}
use Rattle.std.proofs.lemmas.Option.{slice_get-map}
use Rattle.cf_bind.specs.declared.moves.Move.{Move}
use Rattle.cf_index.specs.Places.{set_places}
use Rattle.cf_index.specs.Listed.{flagged, at_word, slides_of, slide_at}
use Rattle.cf_index.proofs.Places.{places_zero}

-- how many moves a word lists
pub length-at_word : (kind : ℕ → Move) (w : ℕ) → length (at_word kind w) ≡ length (set_places 64 w)
unfolding at_word
length-at_word kind w = length-map (set_places 64 w) (λ k. kind (k + 1))

-- an element of the first part
pub here : {X : Type 0} (xs ys : List X) (i : ℕ) (x : X) → Some x ≡ slice_get xs i → Some x ≡ slice_get (xs ++ ys) i
here [] ys i x e = absurd (cc)
here (y ∷ xs) ys zero x e = e
here (y ∷ xs) ys (suc i) x e = here xs ys i x e

-- an element after the first part
beyond_by : {X : Type 0} (xs ys : List X) (j : ℕ) → slice_get ys j ≡ slice_get (xs ++ ys) (length xs + j)
beyond_by [] ys j = let e : 0 + j ≡ j = omega arith in rw e refl
beyond_by (x ∷ xs) ys j = let e : suc (length xs) + j ≡ suc (length xs + j) = omega arith in rw e (beyond_by xs ys j)

pub beyond : {X : Type 0} (xs ys : List X) (n i : ℕ) (x : X) → n ≡ length xs → n ≤ i → Some x ≡ slice_get ys (i - n) → Some x ≡ slice_get (xs ++ ys) i
beyond xs ys n i x e after at = at ∙ beyond_by xs ys (i - n) ∙ ap (λ (k : ℕ). slice_get (xs ++ ys) k) (omega (arith, e))

-- a move of a word
pub of_word : (kind : ℕ → Move) (w k i : ℕ) → Some k ≡ slice_get (set_places 64 w) i → Some (kind (k + 1)) ≡ slice_get (at_word kind w) i
unfolding at_word
of_word kind w k i e = rw (slice_get-map (λ k. kind (k + 1)) (set_places 64 w) i, ← e) refl

-- a move of a word before other moves
pub in_word : (kind : ℕ → Move) (w k i : ℕ) (ys : List Move) → Some k ≡ slice_get (set_places 64 w) i → Some (kind (k + 1)) ≡ slice_get (at_word kind w ++ ys) i
in_word kind w k i ys e = here (at_word kind w) ys i (kind (k + 1)) (of_word kind w k i e)

-- a move after those of a word
pub past_word : (kind : ℕ → Move) (w n i : ℕ) (x : Move) (ys : List Move) → n ≡ length (set_places 64 w) → n ≤ i → Some x ≡ slice_get ys (i - n) →
    Some x ≡ slice_get (at_word kind w ++ ys) i
past_word kind w n i x ys e after at = beyond (at_word kind w) ys n i x (e ∙ sym (length-at_word kind w)) after at

-- how many moves within the sidings there are
pub length-slides_of : (w : ℕ) → length (slides_of w) ≡ length (set_places 64 w)
unfolding slides_of
length-slides_of w = length-map (set_places 64 w) slide_at

-- a move within the sidings
pub of_slides : (w j i : ℕ) → Some j ≡ slice_get (set_places 64 w) i → Some (slide_at j) ≡ slice_get (slides_of w) i
unfolding slides_of
of_slides w j i e = rw (slice_get-map slide_at (set_places 64 w) i, ← e) refl

pub ruleset length_slides = (length-slides_of)

pub ruleset lengths = (length-append, length-at_word, length-slides_of)

-- a word without a bit lists no move
pub at_word-zero : (kind : ℕ → Move) → at_word kind 0 ≡ []
unfolding at_word
at_word-zero kind = rw (places_zero 64) refl

pub slides_of-zero : slides_of 0 ≡ []
unfolding slides_of
slides_of-zero = rw (places_zero 64) refl

pub ruleset nothing = (at_word-zero, slides_of-zero)

-- a flag lists one move or none
pub length_flag : (b : Bool) (mv : Move) → bool_byte b ≡ length (flagged b mv)
length_flag true mv = refl
length_flag false mv = refl

-- a move after that of a flag
pub past_flag : (b : Bool) (mv : Move) (i : ℕ) (x : Move) (ys : List Move) → bool_byte b ≤ i → Some x ≡ slice_get ys (i - bool_byte b) →
    Some x ≡ slice_get (flagged b mv ++ ys) i
past_flag b mv i x ys after at = beyond (flagged b mv) ys (bool_byte b) i x (length_flag b mv) after at

-- the move of a flag
pub at_flag : (b : Bool) (mv : Move) (i : ℕ) (ys : List Move) → i < bool_byte b → Some mv ≡ slice_get (flagged b mv ++ ys) i
at_flag true mv zero ys below = refl
at_flag true mv (suc i) ys below = absurd (omega arith)
at_flag false mv i ys below = absurd (omega arith)

-- and it is the only one if no move follows
pub only_flag : (b : Bool) (mv : Move) (i : ℕ) → i < length (flagged b mv) → Some mv ≡ slice_get (flagged b mv) i
only_flag true mv zero below = refl
only_flag true mv (suc i) below = absurd (omega arith)
only_flag false mv i below = absurd (omega arith)

-- the index of a move after the first part, less the length of that part
pub rest_below : {X : Type 0} (xs ys : List X) (n i : ℕ) → n ≡ length xs → n ≤ i → i < length (xs ++ ys) → i - n < length ys
rest_below xs ys n i e after below = let l = rw (length-append xs ys) at below in omega arith
