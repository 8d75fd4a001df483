-- The first line is split off a text.
use Rattle.std.proofs.Common.{◌≡◌, ℕ, ◌+◌, ◌<◌, ◌≤◌, Bool, true, false, List, [], ◌∷◌, length, take, drop, refl, ◌∙◌, ap, arith, cond, suc}
use Rattle.std.specs.Prelude.{not}
use Rattle.std.specs.List.{slice_split, onto_first, position_or_len, before_first, after_first}
use Rattle.std.proofs.lemmas.List.Splits.{length-slice_split, slice_split_first}
use Rattle.rv_text.specs.Lines.{is_line_feed, without_return, lines_from, lines_of_pieces, text_lines}

uncut_by : (b : Bool) (n : ℕ) (x : ℕ) (xs : List ℕ) (parts : List (List ℕ))
    → (length xs ≤ n → parts ≡ xs ∷ []) → suc (length xs) ≤ cond (not b) (1 + n) 0
    → cond b ([] ∷ parts) (onto_first x parts) ≡ (x ∷ xs) ∷ []
uncut_by true n x xs parts ih h = absurd (omega arith)
uncut_by false n x xs parts ih h = ap (onto_first x) (ih (omega arith))

-- if no element is a separator, the list is the only piece
pub uncut : (p : ℕ → Bool) (xs : List ℕ) → length xs ≤ position_or_len p xs → slice_split p xs ≡ xs ∷ []
uncut p [] h = refl
uncut p (x ∷ xs) h = uncut_by (p x) (position_or_len p xs) x xs (slice_split p xs) (uncut p xs) h

-- a line before another piece
line_before : (piece : List ℕ) (pieces : List (List ℕ)) → 0 < length pieces → lines_from piece pieces ≡ without_return piece ∷ lines_of_pieces pieces
line_before piece [] h = absurd (omega arith)
line_before piece (next ∷ pieces) h = refl

first_line : (text : List ℕ) → position_or_len is_line_feed text < length text
    → text_lines text ≡ without_return (before_first is_line_feed text) ∷ text_lines (after_first is_line_feed text)
unfolding text_lines
first_line text h =
    ap lines_of_pieces (slice_split_first is_line_feed text 0 h)
    ∙ line_before (before_first is_line_feed text) (slice_split is_line_feed (after_first is_line_feed text))
    (omega (arith, length-slice_split is_line_feed (after_first is_line_feed text)))

last_by : (text : List ℕ) → 0 < length text → lines_from text [] ≡ text ∷ []
last_by [] h = absurd (omega arith)
last_by (byte ∷ text) h = refl

pub last_line : (text : List ℕ) → length text ≤ position_or_len is_line_feed text → 0 < length text
    → text_lines text ≡ text ∷ text_lines []
unfolding text_lines
last_line text h some = ap lines_of_pieces (uncut is_line_feed text h) ∙ last_by text some

pub first_line_at : (text : List ℕ) (end : ℕ) → end ≡ position_or_len is_line_feed text → end < length text
    → text_lines text ≡ without_return (take end text) ∷ text_lines (drop (end + 1) text)
first_line_at text end e h = rw e (first_line text (rw (← e) h))

pub no_lines : (text : List ℕ) → length text ≡ 0 → text_lines text ≡ []
unfolding text_lines
no_lines [] h = refl
no_lines (byte ∷ text) h = absurd (omega (arith, h))

pub ruleset lines = (first_line_at, last_line)
