-- The line of a move is one line, and the first line of a text is one line.
use Rattle.std.proofs.Common.{◌≡◌, ℕ, zero, suc, ◌+◌, ◌%◌, ◌/◌, Bool, true, false, List, [], ◌∷◌, ◌++◌, refl, sym, ap, ◌∙◌, append_assoc, length-append, Option, Some, None, Ok, MatchOption, cond, length, take, ◌<◌, ◌≤◌, arith}
use Rattle.std.specs.Prelude.{codes, decimal, ◌||◌, ◌==◌, not, if◌then◌else◌}
use Rattle.std.specs.List.{position_or_len}
use Rattle.std.specs.Fmt.{digit_glyph, digits_onto, digits}
use Rattle.std.proofs.lemmas.Bool.Decides.{nat_tests}
use Rattle.std.proofs.lemmas.List.{append_cancel_left}
use Rattle.std.proofs.lemmas.List.Folds.{list_any-append}
use Rattle.rv_text.specs.Lines.{is_line_feed}
use Rattle.cf_bind.specs.declared.passenger.Guess.TheVariants as guess
use Rattle.cf_bind.specs.declared.moves.Move.{Move}
use Rattle.cf_bind.specs.declared.moves.Move.TheVariants.{Issue, Emit, Climb, Fall, Meet, Execute, Send, Launch, Slide, Access, Recover, Leave, Exit, Serve}
use Rattle.std.specs.Char.{digit_char}
use Rattle.texts.specs.Hexadecimal.{hex8}
use Rattle.cf_bind.specs.MoveTexts.{move_line}
use Rattle.cf_report.specs.Lines.{numbered_move}
use Rattle.run_scripts.specs.MoveLines.{move_in}
use Rattle.cf_audit.specs.Lines.{move_front, IsFirstLine, IsMoveLine}
use Rattle.cf_audit.specs.Traces.{BeginsWithMove, IsReadBack, has_line}

or_false : (a b : Bool) → a ≡ false → b ≡ false → (a || b) ≡ false
or_false true b e f = absurd (cc)
or_false false b e f = f

-- texts without a line feed
pub joined : (a b : List ℕ) → has_line a ≡ false → has_line b ≡ false → has_line (a ++ b) ≡ false
joined a b e f = list_any-append is_line_feed a b ∙ or_false (has_line a) (has_line b) e f

digit_no : (d : ℕ) → is_line_feed (digit_char d) ≡ false
digit_no d = grind (arith, nat_tests)

onto_no : (k n : ℕ) (text : List ℕ) → has_line text ≡ false → has_line (digits_onto k 10 false n text) ≡ false
onto_no zero n text e = e
onto_no (suc k) n text e =
    let longer : has_line (digit_glyph false (n % 10) ∷ text) ≡ false = or_false (is_line_feed (digit_glyph false (n % 10))) (has_line text)
    (digit_no (n % 10)) e in
    by (n / 10 == 0) longer (onto_no k (n / 10) (digit_glyph false (n % 10) ∷ text) longer)
  where
    by : (b : Bool) → has_line (digit_glyph false (n % 10) ∷ text) ≡ false → has_line (digits_onto k 10 false (n / 10) (digit_glyph false (n % 10) ∷ text))
        ≡ false
        → has_line (if b then digit_glyph false (n % 10) ∷ text else digits_onto k 10 false (n / 10) (digit_glyph false (n % 10) ∷ text)) ≡ false
    by true ends goes = ends
    by false ends goes = goes

pub decimal_no : (n : ℕ) → has_line (decimal n) ≡ false
unfolding digits
decimal_no n = onto_no 64 n [] refl

hex8_no : (w : ℕ) → has_line (hex8 w) ≡ false
unfolding hex8
hex8_no w =
    rw (
      digit_no (w / 0x10000000 % 16),
      digit_no (w / 0x1000000 % 16),
      digit_no (w / 0x100000 % 16),
      digit_no (w / 0x10000 % 16),
      digit_no (w / 0x1000 % 16),
      digit_no (w / 0x100 % 16),
      digit_no (w / 0x10 % 16),
      digit_no (w % 16),
    ) refl

staged_no : (name : List ℕ) (i : ℕ) → has_line name ≡ false → has_line (name ++ codes " " ++ decimal i) ≡ false
staged_no name i e = joined (name ++ codes " ") (decimal i) (joined name (codes " ") e refl) (decimal_no i)

-- the line of a move has no line feed
pub move_line_no : (mv : Move) → has_line (move_line mv) ≡ false
unfolding move_line
move_line_no (Issue guess.Next) = refl
move_line_no (Issue guess.Taken) = refl
move_line_no (Issue guess.Wait) = refl
move_line_no (Issue (guess.To t)) = joined (codes "issue ") (codes "to " ++ hex8 t) refl (joined (codes "to ") (hex8 t) refl (hex8_no t))
move_line_no Emit = refl
move_line_no (Climb i) = staged_no (codes "climb") i refl
move_line_no (Fall i) = staged_no (codes "fall") i refl
move_line_no (Meet i) = staged_no (codes "meet") i refl
move_line_no (Execute i) = staged_no (codes "execute") i refl
move_line_no (Send i) = staged_no (codes "send") i refl
move_line_no (Launch i) = staged_no (codes "launch") i refl
move_line_no (Slide k c) =
    joined (codes "slide " ++ decimal k ++ codes " ") (decimal c) (joined (codes "slide " ++ decimal k) (codes " ")
    (joined (codes "slide ") (decimal k) refl (decimal_no k)) refl) (decimal_no c)
move_line_no Access = refl
move_line_no (Recover i) = staged_no (codes "recover") i refl
move_line_no Leave = refl
move_line_no Exit = refl
move_line_no Serve = refl

feed_none : (byte : ℕ) (text : List ℕ) → byte ≡ 10 → has_line (byte ∷ text) ≡ false → ⊥
feed_none byte text feed none = let known : has_line (10 ∷ text) ≡ false = ap (λ (b : ℕ). has_line (b ∷ text)) (sym feed) ∙ none in absurd (cc)

tail_none : (byte : ℕ) (text : List ℕ) → has_line (byte ∷ text) ≡ false → has_line text ≡ false
tail_none byte text none = or_parts (is_line_feed byte) (has_line text) none
  where
    or_parts : (a b : Bool) → (a || b) ≡ false → b ≡ false
    or_parts true b e = absurd (cc)
    or_parts false b e = e

-- a text has one first line
pub one_first : (a b x y : List ℕ) → has_line a ≡ false → has_line b ≡ false → a ++ 10 ∷ x ≡ b ++ 10 ∷ y → (a ≡ b) × (x ≡ y)
one_first [] [] x y e f same = (refl, cc)
one_first [] (d ∷ b) x y e f same = let first : 10 ≡ d = cc in absurd (feed_none d b (sym first) f)
one_first (c ∷ a) [] x y e f same = let first : c ≡ 10 = cc in absurd (feed_none c a first e)
one_first (c ∷ a) (d ∷ b) x y e f same =
    let first : c ≡ d = cc in
    let rest : a ++ 10 ∷ x ≡ b ++ 10 ∷ y = cc in
    let both = one_first a b x y (tail_none c a e) (tail_none d b f) rest in
    (cc, both.1)

-- the line of a move, by its parts
front_of : (n : ℕ) (mv : Move) (after : List ℕ) → numbered_move n mv ++ after ≡ move_front n ++ (move_line mv ++ 10 ∷ after)
unfolding numbered_move
front_of n mv after = append_assoc (move_front n) (move_line mv ++ 10 ∷ []) after ∙ ap (λ (t : List ℕ). move_front n ++ t)
    (append_assoc (move_line mv) (10 ∷ []) after)

-- what comes after the number of a move's line
line_after : (text rest : List ℕ) (n : ℕ) (mv : Move) → text ≡ move_front n ++ rest → (b : BeginsWithMove text n mv) → rest ≡ move_line mv ++ 10 ∷ b.after
line_after text rest n mv is b = append_cancel_left (move_front n) rest (move_line mv ++ 10 ∷ b.after) (sym is ∙ b.is ∙ front_of n mv b.after)

-- a text does not begin with a move's line if it does not begin with the prefix of that line, if no line follows the
-- prefix, or if that line names no move
pub no_front : (text : List ℕ) (n : ℕ) → ((rest : List ℕ) → text ≡ move_front n ++ rest → ⊥) → (mv : Move) → BeginsWithMove text n mv → ⊥
no_front text n none mv b = none (move_line mv ++ 10 ∷ b.after) (b.is ∙ front_of n mv b.after)

pub no_line : (text rest : List ℕ) (n : ℕ) → text ≡ move_front n ++ rest → ((line : List ℕ) → IsFirstLine rest line → ⊥) → (mv : Move) →
    BeginsWithMove text n mv → ⊥
no_line text rest n is none mv b = none (move_line mv) (record { whole = move_line_no mv; after = b.after; is = line_after text rest n mv is b })

pub no_move : (text rest line : List ℕ) (n : ℕ) → text ≡ move_front n ++ rest → IsFirstLine rest line → ((mv : Move) → IsMoveLine line mv → ⊥) → (mv : Move) →
    BeginsWithMove text n mv → ⊥
no_move text rest line n is first none mv b =
    let same = one_first line (move_line mv) first.after b.after first.whole (move_line_no mv) (sym first.is ∙ line_after text rest n mv is b) in
    none mv (record { written = same.0; told = b.told })

-- it begins with a move's line if that line names the move
pub one_move : (text rest line : List ℕ) (n : ℕ) (mv : Move) → text ≡ move_front n ++ rest → IsFirstLine rest line → IsMoveLine line mv →
    BeginsWithMove text n mv
one_move text rest line n mv is first tells = record {
  told = tells.told;
  after = first.after;
  is = is ∙ ap (λ (t : List ℕ). move_front n ++ t) (first.is ∙ ap (λ (l : List ℕ). l ++ 10 ∷ first.after) tells.written) ∙ sym (front_of n mv first.after);
}

-- two equal texts that begin with lines of moves of the same number begin with the line of the same move
pub one_told : (n : ℕ) (a b : Move) (x y : List ℕ) → IsReadBack a → IsReadBack b → numbered_move n a ++ x ≡ numbered_move n b ++ y → (a ≡ b) × (x ≡ y)
one_told n a b x y reads tells same =
    let text : List ℕ = numbered_move n b ++ y in
    let here : BeginsWithMove text n a = record { told = reads; after = x; is = sym same } in
    let there : BeginsWithMove text n b = record { told = tells; after = y; is = refl } in
    let left : text ≡ move_front n ++ (move_line b ++ 10 ∷ y) = front_of n b y in
    let both = one_first (move_line a) (move_line b) x y (move_line_no a) (move_line_no b) (sym (line_after text (move_line b ++ 10 ∷ y) n a left here)) in
    let moves : Ok a ≡ Ok b = sym reads ∙ ap move_in both.0 ∙ tells in
    (cc, both.1)

-- the first line, by the index of the first line feed
feed_here : (byte : ℕ) → is_line_feed byte ≡ true → byte ≡ 10
feed_here byte e = grind (arith, nat_tests)

first_at : (text : List ℕ) → position_or_len is_line_feed text < length text → IsFirstLine text (take (position_or_len is_line_feed text) text)
first_at [] h = absurd (omega arith)
first_at (x ∷ text) h = by (is_line_feed x) refl (λ low. first_at text low) h
  where
    by : (b : Bool) → is_line_feed x ≡ b → (position_or_len is_line_feed text < length text → IsFirstLine text (take (position_or_len is_line_feed text) text))
        → cond (not b) (1 + position_or_len is_line_feed text) 0 < suc (length text) → IsFirstLine (x ∷ text)
        (take (cond (not b) (1 + position_or_len is_line_feed text) 0) (x ∷ text))
    by true e rest low = record { whole = refl; after = text; is = ap (λ (byte : ℕ). byte ∷ text) (feed_here x e) }
    by false e rest low =
        let one : 1 + position_or_len is_line_feed text ≡ suc (position_or_len is_line_feed text) = omega arith in
        let h : IsFirstLine text (take (position_or_len is_line_feed text) text) = rest (omega arith) in
        rw one (record {
          whole = or_false (is_line_feed x) (has_line (take (position_or_len is_line_feed text) text)) e h.whole;
          after = h.after;
          is =
              ap (λ (l : List ℕ). x ∷ l) h.is;
        })

no_first : (text line : List ℕ) → length text ≤ position_or_len is_line_feed text → IsFirstLine text line → ⊥
no_first [] line h f = absurd (let size : 0 ≡ length (line ++ 10 ∷ f.after) = ap length f.is in omega (arith, size, length-append line (10 ∷ f.after)))
no_first (x ∷ text) line h f = by (is_line_feed x) refl (λ rest high. no_first text rest high) h line f
  where
    by : (b : Bool) → is_line_feed x ≡ b → ((rest : List ℕ) → length text ≤ position_or_len is_line_feed text → IsFirstLine text rest → ⊥)
        → suc (length text) ≤ cond (not b) (1 + position_or_len is_line_feed text) 0 → (line : List ℕ) → IsFirstLine (x ∷ text) line → ⊥
    by true e go high line f = absurd (omega arith)
    by false e go high [] f = let same : x ≡ 10 = first_byte x text f.after f.is in absurd (let here : is_line_feed 10 ≡ false = ap is_line_feed (sym same)
        ∙ e in cc)
      where
        first_byte : (x : ℕ) (text after : List ℕ) → x ∷ text ≡ 10 ∷ after → x ≡ 10
        first_byte x text after e = cc
    by false e go high (y ∷ line) f =
        let rest : text ≡ line ++ 10 ∷ f.after = tail_of f.is in
        go line (omega arith) (record { whole = tail_none y line f.whole; after = f.after; is = rest })
      where
        tail_of : {y : ℕ} {more : List ℕ} → x ∷ text ≡ y ∷ more → text ≡ more
        tail_of e = cc

pub first_there : (text : List ℕ) (end : ℕ) → end ≡ position_or_len is_line_feed text → end < length text → IsFirstLine text (take end text)
first_there text end is low = rw is (first_at text (rw is at low))

pub first_not : (text : List ℕ) (end : ℕ) → end ≡ position_or_len is_line_feed text → length text ≤ end → (line : List ℕ) → IsFirstLine text line → ⊥
first_not text end is high line f = no_first text line (rw is at high) f

-- a text begins with a move's line if and only if the line after the prefix names the move
pub told_first : (text rest line : List ℕ) (n : ℕ) (told : Option Move) → text ≡ move_front n ++ rest → IsFirstLine rest line →
    MatchOption told ((mv : Move) → IsMoveLine line mv → ⊥) (λ mv. IsMoveLine line mv)
    → MatchOption told ((mv : Move) → BeginsWithMove text n mv → ⊥) (λ mv. BeginsWithMove text n mv)
told_first text rest line n None is first none = no_move text rest line n is first none
told_first text rest line n (Some mv) is first tells = one_move text rest line n mv is first tells
