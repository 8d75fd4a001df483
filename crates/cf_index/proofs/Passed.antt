-- How many moves come before the first one after another move.
use Rattle.std.proofs.Common.{◌≡◌, ◌∙◌, refl, ℕ, zero, suc, ◌+◌, ◌<◌, ◌≤◌, List, [], ◌∷◌, ◌++◌, length, map, Bool, true, false, cond, nat_lt, arith}
use Rattle.std.specs.Prelude.{filter, not}
use Rattle.std.specs.List.{prefix_len}
use Rattle.std.proofs.lemmas.Bool.Decides.{nat_tests}
use Rattle.std.proofs.lemmas.List.{length-append, length-map}
use Rattle.cf_bind.specs.declared.moves.Move.{Move}
use Rattle.cf_layout.specs.Words.{has_bit}
use Rattle.cf_semantics.specs.moves.Candidates.{counted_from}
use Rattle.cf_index.specs.Places.{set_places}
use Rattle.cf_index.specs.Listed.{flagged, at_word}
use Rattle.cf_index.specs.Order.{kind_place, below_or, stands_after, passed_moves}

-- a move of an earlier kind does not come after the last move, and a move of a later kind does
pub earlier : (last mv : Move) → kind_place mv < kind_place last → stands_after last mv ≡ false
earlier last mv before = grind (arith, nat_tests)

pub later : (last mv : Move) → kind_place last < kind_place mv → stands_after last mv ≡ true
later last mv after = grind (arith, nat_tests)

-- one more move is passed, if all those after it in the first part are
all_step : (b : Bool) (m l n k : ℕ) → cond (not b) (1 + m) 0 ≡ suc l → (m ≡ l → n ≡ l + k) → cond (not b) (1 + n) 0 ≡ suc l + k
all_step true m l n k e more = absurd (omega arith)
all_step false m l n k e more = let h = more (omega arith) in omega arith

-- all of the first part are passed
pub passed_all : (last : Move) (xs ys : List Move) → passed_moves last xs ≡ length xs → passed_moves last (xs ++ ys) ≡ length xs + passed_moves last ys
unfolding passed_moves
passed_all last [] ys all = omega arith
passed_all last (x ∷ xs) ys all = all_step (stands_after last x) _ _ _ _ all (λ rest. passed_all last xs ys rest)

-- none of the second part is passed
pub passed_part : (last : Move) (xs ys : List Move) → passed_moves last ys ≡ 0 → passed_moves last (xs ++ ys) ≡ passed_moves last xs
unfolding passed_moves
passed_part last [] ys none = none
passed_part last (x ∷ xs) ys none = rw (passed_part last xs ys none) refl

-- the moves of a function: all come after, or none do
pub map_none : (last : Move) (f : ℕ → Move) (ks : List ℕ) → ((k : ℕ) → stands_after last (f k) ≡ true) → passed_moves last (map f ks) ≡ 0
unfolding passed_moves
map_none last f [] after = refl
map_none last f (k ∷ ks) after = rw (after k) refl

pub map_all : (last : Move) (f : ℕ → Move) (ks : List ℕ) → ((k : ℕ) → stands_after last (f k) ≡ false) → passed_moves last (map f ks) ≡ length (map f ks)
unfolding passed_moves
map_all last f [] before = refl
map_all last f (k ∷ ks) before = rw (before k, map_all last f ks before) (omega arith)

-- or those from some number on come after
pub map_part : (last : Move) (f : ℕ → Move) (i : ℕ) (ks : List ℕ) → ((k : ℕ) → not (stands_after last (f k)) ≡ nat_lt k i) →
    passed_moves last (map f ks) ≡ prefix_len (λ k. nat_lt k i) ks
unfolding passed_moves
map_part last f i [] part = refl
map_part last f i (k ∷ ks) part = rw (part k, map_part last f i ks part) refl

-- no number from i on is below i
none_choice : (b : Bool) (i a : ℕ) (xs : List ℕ) → nat_lt a i ≡ false → filter (λ k. nat_lt k i) xs ≡ [] → filter (λ k. nat_lt k i) (cond b (a ∷ xs) xs) ≡ []
none_choice true i a xs high none = rw high none
none_choice false i a xs high none = none

none_below : (p : ℕ → Bool) (i a n : ℕ) → i ≤ a → filter (λ k. nat_lt k i) (filter p (counted_from a n)) ≡ []
none_below p i a zero high = refl
none_below p i a (suc n) high = none_choice (p a) i a (filter p (counted_from (suc a) n)) (grind (arith, nat_tests)) (none_below p i (suc a) n (omega arith))

ascending_first : (b : Bool) (i a : ℕ) (xs : List ℕ) → nat_lt a i ≡ b → (nat_lt a i ≡ false → filter (λ k. nat_lt k i) xs ≡ []) →
    prefix_len (λ k. nat_lt k i) xs ≡ length (filter (λ k. nat_lt k i) xs) → cond (nat_lt a i) (1 + prefix_len (λ k. nat_lt k i) xs) 0
    ≡ length (cond (nat_lt a i) (a ∷ filter (λ k. nat_lt k i) xs) (filter (λ k. nat_lt k i) xs))
ascending_first true i a xs at high e = rw (at, e) (omega arith)
ascending_first false i a xs at high e = rw (at, high at) refl

ascending_choice : (b : Bool) (i a : ℕ) (xs : List ℕ) → (nat_lt a i ≡ false → filter (λ k. nat_lt k i) xs ≡ []) →
    prefix_len (λ k. nat_lt k i) xs ≡ length (filter (λ k. nat_lt k i) xs) → prefix_len (λ k. nat_lt k i) (cond b (a ∷ xs) xs)
    ≡ length (filter (λ k. nat_lt k i) (cond b (a ∷ xs) xs))
ascending_choice false i a xs high e = e
ascending_choice true i a xs high e = ascending_first (nat_lt a i) i a xs refl high e

-- ascending numbers: those below i are passed
pub ascending : (p : ℕ → Bool) (i a n : ℕ) → prefix_len (λ k. nat_lt k i) (filter p (counted_from a n))
    ≡ length (filter (λ k. nat_lt k i) (filter p (counted_from a n)))
ascending p i a zero = refl
ascending p i a (suc n) = ascending_choice (p a) i a (filter p (counted_from (suc a) n)) (λ off. none_below p i (suc a) n (grind (arith, nat_tests)))
    (ascending p i (suc a) n)

-- the moves of a word: all are passed, none are, or those at the stages up to one
pub step_all : (last : Move) (kind : ℕ → Move) (w : ℕ) (ys : List Move) → ((k : ℕ) → stands_after last (kind k) ≡ false) →
    passed_moves last (at_word kind w ++ ys) ≡ length (set_places 64 w) + passed_moves last ys
unfolding at_word
step_all last kind w ys before = passed_all last (map (λ k. kind (k + 1)) (set_places 64 w)) ys
    (map_all last (λ k. kind (k + 1)) (set_places 64 w) (λ k. before (k + 1))) ∙ rw (length-map (set_places 64 w) (λ k. kind (k + 1))) refl

pub word_all : (last : Move) (kind : ℕ → Move) (w : ℕ) → ((k : ℕ) → stands_after last (kind k) ≡ false) →
    passed_moves last (at_word kind w) ≡ length (at_word kind w)
unfolding at_word
word_all last kind w before = map_all last (λ k. kind (k + 1)) (set_places 64 w) (λ k. before (k + 1))

pub word_none : (last : Move) (kind : ℕ → Move) (w : ℕ) → ((k : ℕ) → stands_after last (kind k) ≡ true) → passed_moves last (at_word kind w) ≡ 0
unfolding at_word
word_none last kind w after = map_none last (λ k. kind (k + 1)) (set_places 64 w) (λ k. after (k + 1))

pub word_part : (last : Move) (kind : ℕ → Move) (i w : ℕ) → ((k : ℕ) → not (stands_after last (kind (k + 1))) ≡ nat_lt k i) →
    passed_moves last (at_word kind w) ≡ length (filter (λ k. nat_lt k i) (set_places 64 w))
unfolding at_word set_places
word_part last kind i w part = map_part last (λ k. kind (k + 1)) i (filter (has_bit w) (counted_from 0 64)) part ∙ ascending (has_bit w) i 0 64

-- two parts: all are passed, or none are
pub both_none : (last : Move) (xs ys : List Move) → passed_moves last xs ≡ 0 → passed_moves last ys ≡ 0 → passed_moves last (xs ++ ys) ≡ 0
both_none last xs ys e f = passed_part last xs ys f ∙ e

pub both_all : (last : Move) (xs ys : List Move) → passed_moves last xs ≡ length xs → passed_moves last ys ≡ length ys →
    passed_moves last (xs ++ ys) ≡ length (xs ++ ys)
both_all last xs ys e f = passed_all last xs ys e ∙ rw (f, length-append xs ys) refl

pub step_part : (last : Move) (kind : ℕ → Move) (i w : ℕ) (ys : List Move) → ((k : ℕ) → not (stands_after last (kind (k + 1))) ≡ nat_lt k i) →
    passed_moves last ys ≡ 0 → passed_moves last (at_word kind w ++ ys) ≡ length (filter (λ k. nat_lt k i) (set_places 64 w))
step_part last kind i w ys part none = passed_part last (at_word kind w) ys none ∙ word_part last kind i w part

-- a move at a stage up to i does not come after the one at i
pub up_to : (i k : ℕ) → not (below_or i (k + 1) false) ≡ nat_lt k i
up_to i k = grind (arith, nat_tests)

-- the move of a flag
pub flag_none : (last : Move) (b : Bool) (mv : Move) → stands_after last mv ≡ true → passed_moves last (flagged b mv) ≡ 0
unfolding passed_moves
flag_none last true mv after = rw after refl
flag_none last false mv after = refl

pub flag_all : (last : Move) (b : Bool) (mv : Move) → stands_after last mv ≡ false → passed_moves last (flagged b mv) ≡ length (flagged b mv)
unfolding passed_moves
flag_all last true mv before = rw before refl
flag_all last false mv before = refl
