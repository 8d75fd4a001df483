-- The words of a line that was written, and the numbers that they spell.
use Rattle.std.proofs.Common.{◌≡◌, ℕ, ◌<◌, ◌≤◌, ◌^◌, Bool, true, false, List, [], ◌∷◌, ◌++◌, length, refl, ◌∙◌, ap, arith, suc, zero, All, Some, lit<, lit≤, append_assoc}
use Rattle.std.specs.Prelude.{codes, decimal, nat_lt, ◌&&◌}
use Rattle.std.specs.Char.{digit_value}
use Rattle.std.specs.Str.Parse.{AllDigits}
use Rattle.std.specs.List.{list_all, filter}
use Rattle.std.proofs.lemmas.Bool.{false≢true}
use Rattle.std.proofs.lemmas.Bool.Decides.{nat_tests}
use Rattle.std.proofs.lemmas.Fmt.{decimal_is_IsNumeral}
use Rattle.std.proofs.lemmas.List.Folds.{list_all-append}
use Rattle.std.proofs.lemmas.List.Splits.{slice_split_none}
use Rattle.rv_text.specs.Pieces.{is_blank}
use Rattle.rv_text.specs.Numbers.{numeral}
use Rattle.texts.specs.Hexadecimal.{hex8}
use Rattle.rv_text.proofs.Written.{numeral-digits, decimal_read, hex8_digits, hex8_value}
use Rattle.run_scripts.specs.Words.{is_word, words_of, address_in}
use Rattle.texts.specs.Bytes.{is_ascii}
use Rattle.run_scripts.proofs.WordCuts.{words-at}

-- a byte that a word of a line may have: neither a blank nor above 127
abbrev pub is_letter : ℕ → Bool
is_letter byte = nat_lt 32 byte && nat_lt byte 128

-- a nonempty text of such bytes
pub record IsWord (text : List ℕ) : Type 0 where
  pub some : 0 < length text
  pub bytes : list_all is_letter text ≡ true

and-true : (a b : Bool) → (a && b) ≡ true → (a ≡ true) × (b ≡ true)
and-true true b h = (refl, h)
and-true false b h = absurd (false≢true h)

letter_no_blank : (byte : ℕ) → is_letter byte ≡ true → is_blank byte ≡ false
letter_no_blank byte h = grind (arith, nat_tests)

letter_ascii : (byte : ℕ) → is_letter byte ≡ true → nat_lt byte 128 ≡ true
letter_ascii byte h = grind (arith, nat_tests)

no_blanks : (text : List ℕ) → list_all is_letter text ≡ true → All (λ byte. is_blank byte ≡ false) text
no_blanks [] h k d inside = absurd (omega arith)
no_blanks (x ∷ xs) h zero d inside = letter_no_blank x (and-true (is_letter x) _ h).0
no_blanks (x ∷ xs) h (suc k) d inside = no_blanks xs (and-true (is_letter x) _ h).1 k d (omega arith)

all_ascii : (text : List ℕ) → list_all is_letter text ≡ true → list_all (λ byte. nat_lt byte 128) text ≡ true
all_ascii [] h = refl
all_ascii (x ∷ xs) h =
    let both = and-true (is_letter x) _ h in
    rw (letter_ascii x both.0) (all_ascii xs both.1)

one_by : (text : List ℕ) → 0 < length text → filter is_word (text ∷ []) ≡ text ∷ []
one_by [] h = absurd (omega arith)
one_by (x ∷ xs) h = refl

one-word : (text : List ℕ) → IsWord text → words_of text ≡ text ∷ []
unfolding words_of
one-word text h =
    ap (filter is_word) (slice_split_none is_blank text (no_blanks text h.bytes)) ∙ one_by text h.some

-- a line of ASCII, with its words
pub record Says (line : List ℕ) (words : List (List ℕ)) : Type 0 where
  pub ascii : is_ascii line ≡ true
  pub words_are : words_of line ≡ words

pub says-word : (text : List ℕ) → IsWord text → Says text (text ∷ [])
unfolding is_ascii
says-word text h = record { ascii = all_ascii text h.bytes; words_are = one-word text h }

-- a space between two lines
pub says-append : (a b : List ℕ) (xs ys : List (List ℕ)) → Says a xs → Says b ys → Says (a ++ codes " " ++ b) (xs ++ ys)
unfolding is_ascii
says-append a b xs ys ha hb =
    let whole : a ++ codes " " ++ b ≡ a ++ 32 ∷ b = simp append_assoc in
    record {
      ascii = rw (whole, list_all-append (λ byte. nat_lt byte 128) a (32 ∷ b), ha.ascii) hb.ascii;
      words_are = rw whole (words-at a 32 b refl ∙ ap (λ words. words ++ words_of b) ha.words_are ∙ ap (λ words. xs ++ words) hb.words_are);
    }

digit_letter : (byte : ℕ) → digit_value byte < 16 → is_letter byte ≡ true
digit_letter byte h = grind (arith, nat_tests)

digits_letters : (radix : ℕ) (ds : List ℕ) → radix ≤ 16 → AllDigits radix ds → list_all is_letter ds ≡ true
digits_letters radix [] low h = refl
digits_letters radix (d ∷ ds) low h =
    let first : digit_value d < radix = h.0 in
    rw (digit_letter d (omega arith)) (digits_letters radix ds low h.1)

-- a number in decimal is one word, which spells it
pub decimal-word : (n : ℕ) → n < 10 ^ 9 → IsWord (decimal n)
decimal-word n h =
    let digits = (decimal_is_IsNumeral n (omega arith)).0 in
    record { some = digits.0; bytes = digits_letters 10 (decimal n) (lit≤ tt) digits.1 }

pub decimal-spells : (n : ℕ) → n < 10 ^ 9 → numeral 10 9 (decimal n) ≡ Some n
decimal-spells n h = decimal_read 9 n (lit< tt) h (omega arith)

-- an address is one word, which spells it
pub address-word : (w : ℕ) → IsWord (hex8 w)
unfolding hex8
address-word w = record { some = lit< tt; bytes = digits_letters 16 (hex8 w) (lit≤ tt) (hex8_digits w) }

pub address-spells : (w : ℕ) → w < 2 ^ 32 → address_in (hex8 w) ≡ Some w
unfolding hex8
address-spells w h = numeral-digits 16 8 w (hex8 w) (hex8_digits w) (lit< tt) (lit≤ tt) (hex8_value w h)
