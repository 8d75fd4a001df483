-- A line of a drawn program: its text, its label, and the item that its statement denotes, which is the same at each
-- address.
use Rattle.std.proofs.Common.{◌≡◌, ℕ, ◌<◌, Bool, true, false, List, [], ◌∷◌, ◌++◌, length, take, refl, ◌∙◌, ap, arith, Ok, map}
use Rattle.std.specs.Prelude.{Option, ◌&&◌, ◌==◌}
use Rattle.std.specs.List.{prefix_len}
use Rattle.std.proofs.Math.Seq.{take-length}
use Rattle.std.proofs.lemmas.List.Sums.{prefix_len_is}
use Rattle.std.proofs.lemmas.Bool.Decides.{nat_tests}
use Rattle.rv_text.specs.Pieces.{is_blank, trimmed, without_front, without_end}
use Rattle.rv_text.proofs.Solid.{IsBare, trimmed-bare, IsCut}
use Rattle.rv_asm.specs.declared.scanning.Quote.{Quote}
use Rattle.rv_asm.specs.declared.scanning.Quote.TheVariants.{Outside}
use Rattle.rv_asm.specs.Items.{SourceItem}
use Rattle.rv_asm.specs.Reading.{statement_read, named_read}
use Rattle.rv_asm.specs.Scanning.{is_outside, quote_after, comment_at, said, label_in, statement_in}
use Rattle.asm_drawn.proofs.Lines.{is_plain, IsPlain, plain_first, plain_rest}

pub record Entry : Type 0 where
  pub text : List ℕ
  pub label : Option (List ℕ)
  pub item : SourceItem

-- the text is read as this label and this item
pub record IsEntry (e : Entry) : Type 0 where
  pub plain : IsPlain e.text
  pub label : label_in (said e.text) ≡ e.label
  pub item : (pc : ℕ) → statement_read pc (statement_in (said e.text)) ≡ Ok e.item

abbrev pub AreEntries : List Entry → Type 0
AreEntries [] = Unit {0}
AreEntries (e ∷ es) = IsEntry e × AreEntries es

abbrev pub texts_of : List Entry → List (List ℕ)
texts_of es = map (λ e. e.text) es

pub entries-append : (front back : List Entry) → AreEntries front → AreEntries back → AreEntries (front ++ back)
entries-append [] back h k = k
entries-append (e ∷ front) back h k = (h.0, entries-append front back h.1 k)

pub texts-append : (front back : List Entry) → texts_of (front ++ back) ≡ texts_of front ++ texts_of back
texts-append [] back = refl
texts-append (e ∷ front) back = ap (λ (l : List (List ℕ)). e.text ∷ l) (texts-append front back)

and-none : (b : Bool) → (b && false) ≡ false
and-none true = refl
and-none false = refl

no_hash : (byte : ℕ) → is_plain byte ≡ true → (byte == 35) ≡ false
no_hash byte h = grind (arith, nat_tests)

-- no comment begins
pub uncommented : (quote : Quote) (text : List ℕ) → IsPlain text → comment_at quote text ≡ length text
uncommented quote [] h = refl
uncommented quote (byte ∷ text) h =
    let rest : comment_at (quote_after quote byte) text ≡ length text = uncommented (quote_after quote byte) text (plain_rest byte text h) in
    rw (no_hash byte (plain_first byte text h), and-none (is_outside quote), rest) (omega arith)

whole_line : (text : List ℕ) → IsPlain text → take (comment_at Outside text) text ≡ text
whole_line text h = rw (uncommented Outside text h) (take-length text)

-- a line without surrounding blanks
pub said-bare : (text : List ℕ) → IsPlain text → IsBare text → said text ≡ text
unfolding said
said-bare text h bare = ap trimmed (whole_line text h) ∙ trimmed-bare text bare

indented : List ℕ → List ℕ
indented text = 32 ∷ 32 ∷ 32 ∷ 32 ∷ text

four_blanks : (text : List ℕ) → IsBare text → trimmed (32 ∷ 32 ∷ 32 ∷ 32 ∷ text) ≡ text
unfolding trimmed without_front
four_blanks text h =
    let none : prefix_len is_blank text ≡ 0 = prefix_len_is is_blank text 0 0 (omega arith) (λ k low. absurd (omega arith)) (λ _. h.first) in
    let same : without_end text ≡ text = rw none at (trimmed-bare text h) in
    rw none same

-- a line after four blanks
pub said-indented : (text : List ℕ) → IsPlain text → IsBare text → said (32 ∷ 32 ∷ 32 ∷ 32 ∷ text) ≡ text
unfolding said
said-indented text h bare = ap trimmed (whole_line (32 ∷ 32 ∷ 32 ∷ 32 ∷ text) h) ∙ four_blanks text bare

-- a statement is read as its name and its operands
pub read_cut : (pc : ℕ) (text name after : List ℕ) → IsBare text → IsCut text name after
    → statement_read pc text ≡ named_read name pc after
unfolding statement_read
read_cut pc text name after bare cut =
    let some : 0 < length text = bare.some in
    let lacks_none : (length text == 0) ≡ false = grind (arith, nat_tests) in
    rw (trimmed-bare text bare, lacks_none, cut.name_is, cut.after_is) refl
