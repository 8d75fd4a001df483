-- The lines of a text that consists of lines of printable bytes without `#`.
use Rattle.std.proofs.Common.{◌≡◌, ℕ, ◌-◌, ◌<◌, Bool, true, false, List, [], ◌∷◌, ◌++◌, length, get_or, drop, refl, sym, ◌∙◌, ap, arith, suc, zero, All, append_assoc}
use Rattle.std.specs.Prelude.{not, ◌&&◌, ◌==◌, nat_lt, nat_eq}
use Rattle.std.specs.List.{list_all, slice_split}
use Rattle.std.specs.Cmp.Lexicographic.{pointwise}
use Rattle.std.proofs.lemmas.List.Sums.{AllPass-from_list_all}
use Rattle.std.proofs.lemmas.List.Splits.{length-slice_split, slice_split_at}
use Rattle.std.proofs.lemmas.List.Folds.{list_all-append}
use Rattle.std.proofs.lemmas.Bool.{false≢true}
use Rattle.std.proofs.lemmas.Bool.Decides.{nat_tests}
use Rattle.texts.specs.Bytes.{is_ascii}
use Rattle.texts.specs.Lines.{line}
use Rattle.rv_text.specs.Lines.{is_line_feed, without_return, lines_from, lines_of_pieces, text_lines}

-- a byte that such a line may have
abbrev pub is_plain : ℕ → Bool
is_plain byte = nat_lt 31 byte && nat_lt byte 127 && not (byte == 35)

abbrev pub IsPlain : List ℕ → Type 0
IsPlain text = list_all is_plain text ≡ true

pub and-true : (a b : Bool) → (a && b) ≡ true → (a ≡ true) × (b ≡ true)
and-true true b h = (refl, h)
and-true false b h = absurd (false≢true h)

pub plain_first : (byte : ℕ) (text : List ℕ) → IsPlain (byte ∷ text) → is_plain byte ≡ true
plain_first byte text h = (and-true (is_plain byte) (list_all is_plain text) h).0

pub plain_rest : (byte : ℕ) (text : List ℕ) → IsPlain (byte ∷ text) → IsPlain text
plain_rest byte text h = (and-true (is_plain byte) (list_all is_plain text) h).1

pub plain-append : (front back : List ℕ) → IsPlain front → IsPlain back → IsPlain (front ++ back)
plain-append front back h k = rw (list_all-append is_plain front back, h) k

no_feed : (byte : ℕ) → is_plain byte ≡ true → is_line_feed byte ≡ false
no_feed byte h = grind (arith, nat_tests)

no_return : (byte : ℕ) → is_plain byte ≡ true → nat_eq 13 byte ≡ false
no_return byte h = grind (arith, nat_tests)

below_128 : (byte : ℕ) → is_plain byte ≡ true → nat_lt byte 128 ≡ true
below_128 byte h = grind (arith, nat_tests)

no_feeds : (text : List ℕ) → IsPlain text → All (λ byte. is_line_feed byte ≡ false) text
no_feeds text h k d low = no_feed (get_or text k d) (AllPass-from_list_all is_plain text h k d low)

-- such a line is ASCII
pub plain_ascii : (text : List ℕ) → IsPlain text → is_ascii text ≡ true
unfolding is_ascii
plain_ascii [] h = refl
plain_ascii (byte ∷ text) h =
    let rest : list_all (λ byte. nat_lt byte 128) text ≡ true = plain_ascii text (plain_rest byte text h) in
    rw (below_128 byte (plain_first byte text h), rest) refl

plain_drop : (k : ℕ) (text : List ℕ) → IsPlain text → IsPlain (drop k text)
plain_drop zero text h = h
plain_drop (suc k) [] h = refl
plain_drop (suc k) (byte ∷ text) h = plain_drop k text (plain_rest byte text h)

begins_with_none : (text : List ℕ) → IsPlain text → pointwise nat_eq (13 ∷ []) text ≡ false
begins_with_none [] h = refl
begins_with_none (byte ∷ text) h = rw (no_return byte (plain_first byte text h)) refl

without_return-plain : (text : List ℕ) → IsPlain text → without_return text ≡ text
unfolding without_return
without_return-plain text h = rw (begins_with_none (drop (length text - 1) text) (plain_drop (length text - 1) text h)) refl

before_others : (piece : List ℕ) (pieces : List (List ℕ)) → 0 < length pieces
    → lines_from piece pieces ≡ without_return piece ∷ lines_of_pieces pieces
before_others piece [] h = absurd (omega arith)
before_others piece (next ∷ pieces) h = refl

-- the first line is split off
pub first_line : (text rest : List ℕ) → IsPlain text → text_lines (text ++ 10 ∷ rest) ≡ text ∷ text_lines rest
unfolding text_lines
first_line text rest h =
    ap lines_of_pieces (slice_split_at is_line_feed text 10 rest (no_feeds text h) refl)
    ∙ before_others text (slice_split is_line_feed rest) (omega (arith, length-slice_split is_line_feed rest))
    ∙ ap (λ (l : List ℕ). l ∷ lines_of_pieces (slice_split is_line_feed rest)) (without_return-plain text h)

-- a text begins with these lines, whatever follows
abbrev pub AreLines : List ℕ → List (List ℕ) → Type 0
AreLines text lines = (rest : List ℕ) → text_lines (text ++ rest) ≡ lines ++ text_lines rest

pub no_line : AreLines [] []
no_line rest = refl

pub one_line : (text : List ℕ) → IsPlain text → AreLines (line text) (text ∷ [])
one_line text h rest = ap text_lines (append_assoc text (10 ∷ []) rest) ∙ first_line text rest h

pub more_lines : (front back : List ℕ) (lines others : List (List ℕ)) → AreLines front lines → AreLines back others
    → AreLines (front ++ back) (lines ++ others)
more_lines front back lines others h k rest =
    ap text_lines (append_assoc front back rest) ∙ h (back ++ rest)
    ∙ ap (λ (l : List (List ℕ)). lines ++ l) (k rest) ∙ sym (append_assoc lines others (text_lines rest))

-- the lines of a whole text
pub whole_text : (text : List ℕ) (lines : List (List ℕ)) → AreLines text lines → text_lines (text ++ []) ≡ lines ++ text_lines []
whole_text text lines h = h []
