-- What a text says if its first line is that of a move, as it is written.
use Rattle.std.proofs.Common.{◌≡◌, ◌∙◌, ap, ℕ, zero, suc, ◌+◌, ◌-◌, ◌<◌, ◌≤◌, ◌^◌, Bool, true, false, List, [], ◌∷◌, ◌++◌, length, get_or, drop, refl, sym, arith, All, Ok, Err, lit≤}
use Rattle.std.specs.Prelude.{codes, decimal, nat_eq, nat_lt, ◌==◌, if◌then◌else◌}
use Rattle.std.specs.List.{list_all, slice_split, starts_with}
use Rattle.std.specs.Char.{digit_value}
use Rattle.std.specs.Cmp.Lexicographic.{pointwise}
use Rattle.std.specs.Str.Parse.{AllDigits}
use Rattle.std.proofs.lemmas.Bool.Decides.{nat_tests}
use Rattle.std.proofs.lemmas.Fmt.{decimal_is_IsNumeral}
use Rattle.std.proofs.lemmas.List.{append-nil}
use Rattle.std.proofs.lemmas.List.Folds.{list_all-append}
use Rattle.std.proofs.lemmas.List.Splits.{length-slice_split, slice_split_at}
use Rattle.std.proofs.lemmas.List.Sums.{AllPass-from_list_all}
use Rattle.texts.specs.Bytes.{is_ascii}
use Rattle.texts.specs.Hexadecimal.{hex8}
use Rattle.rv_text.specs.Lines.{is_line_feed, without_return, lines_from, lines_of_pieces, text_lines}
use Rattle.rv_text.proofs.Written.{hex8_digits}
use Rattle.cf_bind.specs.declared.passenger.Guess.TheVariants as guess
use Rattle.cf_bind.specs.declared.moves.Move.{Move}
use Rattle.cf_bind.specs.declared.moves.Move.TheVariants.{Issue, Emit, Climb, Fall, Meet, Execute, Send, Launch, Slide, Access, Recover, Leave, Exit, Serve}
use Rattle.cf_bind.specs.MoveTexts.{text_at_stage, move_line}
use Rattle.run_scripts.specs.declared.refusal.ScriptKind.TheVariants.{NotAscii}
use Rattle.run_scripts.specs.Kinds.{kind_named}
use Rattle.run_scripts.specs.Words.{words_of}
use Rattle.run_scripts.specs.MoveLines.{NumbersBelow, move_in, move_read, words_read}
use Rattle.run_scripts.specs.Scripts.{is_skipped, told_by, told_from}
use Rattle.run_scripts.proofs.ReadBack.{read-back}

-- a byte other than a line feed
abbrev is_shown : ℕ → Bool
is_shown byte = nat_lt 31 byte

abbrev IsShown : List ℕ → Type 0
IsShown text = list_all is_shown text ≡ true

shown-append : (a b : List ℕ) → IsShown a → IsShown b → IsShown (a ++ b)
shown-append a b h k = rw (list_all-append is_shown a b, h) k

digit_shown : (byte : ℕ) → digit_value byte < 16 → is_shown byte ≡ true
digit_shown byte h = grind (arith, nat_tests)

digits-shown : (radix : ℕ) (ds : List ℕ) → radix ≤ 16 → AllDigits radix ds → IsShown ds
digits-shown radix [] low h = refl
digits-shown radix (d ∷ ds) low h =
    let first : digit_value d < radix = h.0 in
    rw (digit_shown d (omega arith)) (digits-shown radix ds low h.1)

decimal-shown : (n : ℕ) → n < 10 ^ 9 → IsShown (decimal n)
decimal-shown n h = digits-shown 10 (decimal n) (lit≤ tt) (decimal_is_IsNumeral n (omega arith)).0.1

staged-shown : (name : List ℕ) (i : ℕ) → IsShown name → i < 10 ^ 9 → IsShown (text_at_stage name i)
staged-shown name i h small = shown-append (name ++ codes " ") (decimal i) (shown-append name (codes " ") h refl) (decimal-shown i small)

line-shown : (mv : Move) → NumbersBelow (10 ^ 9) mv → IsShown (move_line mv)
unfolding move_line hex8
line-shown (Issue guess.Next) h = refl
line-shown (Issue guess.Taken) h = refl
line-shown (Issue guess.Wait) h = refl
line-shown (Issue (guess.To t)) h = shown-append (codes "issue to ") (hex8 t) refl (digits-shown 16 (hex8 t) (lit≤ tt) (hex8_digits t))
line-shown Emit h = refl
line-shown (Climb i) h = staged-shown (codes "climb") i refl h
line-shown (Fall i) h = staged-shown (codes "fall") i refl h
line-shown (Meet i) h = staged-shown (codes "meet") i refl h
line-shown (Execute i) h = staged-shown (codes "execute") i refl h
line-shown (Send i) h = staged-shown (codes "send") i refl h
line-shown (Launch i) h = staged-shown (codes "launch") i refl h
line-shown (Slide k c) h = staged-shown (codes "slide " ++ decimal k) c (shown-append (codes "slide ") (decimal k) refl (decimal-shown k h.0)) h.1
line-shown Access h = refl
line-shown (Recover i) h = staged-shown (codes "recover") i refl h
line-shown Leave h = refl
line-shown Exit h = refl
line-shown Serve h = refl

-- the line of a move is not a comment
no-comment : (mv : Move) → starts_with nat_eq (move_line mv) (codes "#") ≡ false
unfolding move_line
no-comment (Issue g) = refl
no-comment Emit = refl
no-comment (Climb i) = refl
no-comment (Fall i) = refl
no-comment (Meet i) = refl
no-comment (Execute i) = refl
no-comment (Send i) = refl
no-comment (Launch i) = refl
no-comment (Slide k c) = refl
no-comment Access = refl
no-comment (Recover i) = refl
no-comment Leave = refl
no-comment Exit = refl
no-comment Serve = refl

-- if words give a move, there are some
some-words : (words : List (List ℕ)) (mv : Move) → words_read words ≡ Ok mv → (length words == 0) ≡ false
unfolding words_read move_read kind_named
some-words [] mv e = absurd (cc)
some-words (word ∷ words) mv e = grind (arith, nat_tests)

-- and a line that gives a move has words
some-in : (line : List ℕ) (mv : Move) → move_in line ≡ Ok mv → (length (words_of line) == 0) ≡ false
unfolding move_in
some-in line mv e = by (is_ascii line) e
  where
    by : (b : Bool) → (if b then words_read (words_of line) else Err NotAscii) ≡ Ok mv → (length (words_of line) == 0) ≡ false
    by true e = some-words (words_of line) mv e
    by false e = absurd (cc)

line-kept : (mv : Move) → NumbersBelow (10 ^ 9) mv → is_skipped (move_line mv) ≡ false
unfolding is_skipped
line-kept mv h = rw (no-comment mv) (some-in (move_line mv) mv (read-back mv h))

-- a line of such bytes is the first line before a line feed
no_feed : (byte : ℕ) → is_shown byte ≡ true → is_line_feed byte ≡ false
no_feed byte h = grind (arith, nat_tests)

no_return : (byte : ℕ) → is_shown byte ≡ true → nat_eq 13 byte ≡ false
no_return byte h = grind (arith, nat_tests)

no_feeds : (text : List ℕ) → IsShown text → All (λ byte. is_line_feed byte ≡ false) text
no_feeds text h k d low = no_feed (get_or text k d) (AllPass-from_list_all is_shown text h k d low)

shown-drop : (k : ℕ) (text : List ℕ) → IsShown text → IsShown (drop k text)
shown-drop zero text h = h
shown-drop (suc k) [] h = refl
shown-drop (suc k) (byte ∷ text) h = shown-drop k text (grind (arith, h))

begins-other : (text : List ℕ) → IsShown text → pointwise nat_eq (13 ∷ []) text ≡ false
begins-other [] h = refl
begins-other (byte ∷ text) h = let first : is_shown byte ≡ true = grind (arith, h) in rw (no_return byte first) refl

return-kept : (text : List ℕ) → IsShown text → without_return text ≡ text
unfolding without_return
return-kept text h = rw (begins-other (drop (length text - 1) text) (shown-drop (length text - 1) text h)) refl

before-others : (piece : List ℕ) (pieces : List (List ℕ)) → 0 < length pieces → lines_from piece pieces ≡ without_return piece ∷ lines_of_pieces pieces
before-others piece [] h = absurd (omega arith)
before-others piece (next ∷ pieces) h = refl

first-shown : (text rest : List ℕ) → IsShown text → text_lines (text ++ 10 ∷ rest) ≡ text ∷ text_lines rest
unfolding text_lines
first-shown text rest h =
    ap lines_of_pieces (slice_split_at is_line_feed text 10 rest (no_feeds text h) refl)
    ∙ before-others text (slice_split is_line_feed rest) (omega (arith, length-slice_split is_line_feed rest))
    ∙ ap (λ (l : List ℕ). l ∷ lines_of_pieces (slice_split is_line_feed rest)) (return-kept text h)

-- a text that begins with the line of a move says this move, and then what follows the line
pub says-first : (mv : Move) (text rest after : List ℕ) → text ≡ move_line mv ++ rest → rest ≡ 10 ∷ after → NumbersBelow (10 ^ 9) mv →
    (above : ℕ) → told_from above (text_lines text) ≡ told_by (above + 1) (Ok mv) (told_from (above + 1) (text_lines after))
says-first mv text rest after e f small above =
    let lines : text_lines text ≡ move_line mv ∷ text_lines after = rw (e, f) (first-shown (move_line mv) after (line-shown mv small)) in
    rw (lines, line-kept mv small, read-back mv small) refl

-- and a line without anything after it gives this move
pub says-whole : (mv : Move) (line rest : List ℕ) → line ≡ move_line mv ++ rest → length rest < 1 → NumbersBelow (10 ^ 9) mv → Ok mv ≡ move_in line
says-whole mv line [] e none small = rw (e, append-nil (move_line mv)) (sym (read-back mv small))
says-whole mv line (byte ∷ rest) e none small = absurd (omega arith)
