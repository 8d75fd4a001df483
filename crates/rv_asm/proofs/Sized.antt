-- The sizes of items are the lengths of their pieces.
use Rattle.std.proofs.Common.{◌≡◌, ℕ, suc, ◌+◌, ◌*◌, ◌<◌, ◌≤◌, Bool, true, false, List, [], ◌∷◌, ◌++◌, length, replicate, refl, sym, ◌∙◌, ap, cond, arith, length-append}
use Rattle.std.specs.Prelude.{Result, Ok, Err, ℤ, nat_lt, not, ◌&&◌, ◌||◌, ◌==◌, ◌%◌}
use Rattle.std.specs.Int.{bytes_low_first}
use Rattle.std.proofs.lemmas.List.{length-replicate}
use Rattle.std.proofs.lemmas.Bool.Decides.{nat_tests}
use Rattle.rv_inst.specs.declared.instruction.Instr.{Instr}
use Rattle.rv_inst.specs.Words.{word_difference}
use Rattle.rv_asm.specs.declared.refusal.AsmKind.{AsmKind}
use Rattle.rv_asm.specs.declared.refusal.AsmKind.TheVariants.{Misplaced, TooLarge}
use Rattle.rv_asm.specs.declared.refusal.AsmErr.{AsmErr}
use Rattle.rv_asm.specs.declared.operations.Width.{Width}
use Rattle.rv_asm.specs.declared.operations.Width.TheVariants as width
use Rattle.rv_asm.specs.declared.place.SectionPlace.{SectionPlace}
use Rattle.rv_asm.specs.declared.item.Far.{Far}
use Rattle.rv_asm.specs.declared.item.Far.TheVariants as far
use Rattle.texts.specs.Answers.{and_then}
use Rattle.rv_asm.specs.Operands.{bytes_of_width}
use Rattle.rv_asm.specs.Scanning.{said, statement_in}
use Rattle.rv_asm.specs.Items.{SourceItem, Nothing, Section, Export, Single, Double, Near, Distant, Numbers, Chars, Zeros, size_of, is_code}
use Rattle.rv_asm.specs.Pseudos.{word_modulo, reaching}
use Rattle.rv_asm.specs.Places.{IsPlaceInLimits, start_of_text, section_address, length_at, grown, place_after, fits_at, item_at}
use Rattle.rv_asm.specs.Labels.{LabelView}
use Rattle.rv_asm.specs.Pieces.{Piece, Word, Bytes, label_value, near_instr, operand_value, bytes_from, instruction_pieces, pieces_of}
use Rattle.rv_asm.specs.Spelling.{SpellsPiece, Spells}
use Rattle.rv_asm.specs.Sized.{piece_length, pieces_size, AreSized, IsSized}
use Rattle.rv_asm.specs.Reading.{statement_read}
use Rattle.rv_text.specs.Lines.{text_lines}
use Rattle.rv_asm.specs.Assembling.{Sections, sections_after_item, sections_after_line, at_line, are_ascii, draft_from, sections_from, empty_sections, sections_of, assembled}
use Rattle.rv_asm.proofs.Passing.{Passes, passes, passes_line}

pub size-append : (ps qs : List Piece) → pieces_size (ps ++ qs) ≡ pieces_size ps + pieces_size qs
size-append [] qs = omega arith
size-append (p ∷ ps) qs = omega (arith, size-append ps qs)

-- bytes are as long as the pieces that they spell
piece-length : (p : Piece) (bytes : List ℕ) → SpellsPiece p bytes → length bytes ≡ piece_length p
piece-length (Word i) bytes h = h.0
piece-length (Bytes own) bytes h = ap (λ (l : List ℕ). length l) h

pub spelt-length : (ps : List Piece) (bytes : List ℕ) → Spells ps bytes → length bytes ≡ pieces_size ps
spelt-length [] bytes h = ap (λ (l : List ℕ). length l) h
spelt-length (p ∷ ps) bytes h =
    ap (λ (l : List ℕ). length l) h.whole ∙ length-append h.front h.back
    ∙ ap (λ (n : ℕ). n + length h.back) (piece-length p h.front h.first) ∙ ap (λ (n : ℕ). piece_length p + n) (spelt-length ps h.back h.others)

length-low : (width : Width) (w : ℕ) → length (bytes_low_first 0 (bytes_of_width width) w) ≡ bytes_of_width width
length-low width.Byte w = refl
length-low width.Half w = refl
length-low width.Word w = refl

by-width : (width : Width) (n : ℕ) → bytes_of_width width * suc n ≡ bytes_of_width width + bytes_of_width width * n
by-width width.Byte n = omega arith
by-width width.Half n = omega arith
by-width width.Word n = omega arith

numbers-length : (labels : List LabelView) (width : Width) (bytes : List ℕ) (operands : List (List ℕ)) (all : List ℕ)
    → bytes_from labels width bytes operands ≡ Ok all → length all ≡ length bytes + bytes_of_width width * length operands
numbers-length labels width bytes [] all e = let same : bytes ≡ all = cc in omega (arith, ap (λ (l : List ℕ). length l) same)
numbers-length labels width bytes (o ∷ os) all e =
    let p = passes (operand_value labels width o) (λ (z : ℤ). bytes_from labels width (bytes ++ bytes_low_first 0 (bytes_of_width width) (word_modulo z)) os)
    all e in
    let low = bytes_low_first 0 (bytes_of_width width) (word_modulo p.first) in
    let rest = numbers-length labels width (bytes ++ low) os all p.goes in
    let more : bytes_of_width width * length (o ∷ os) ≡ bytes_of_width width + bytes_of_width width * length os = by-width width (length os) in
    omega (arith, rest, more, length-append bytes low, length-low width (word_modulo p.first))

-- two instructions reach any distance
code-size : (f : Far) (v : ℕ) → pieces_size (instruction_pieces (reaching f v)) ≡ 8
unfolding reaching
code-size (far.Address rd) v = refl
code-size far.Call v = refl

chars-size : (bytes : List ℕ) (zero : Bool) → pieces_size (Bytes (bytes ++ (cond zero (0 ∷ []) [])) ∷ []) ≡ length bytes + cond zero 1 0
chars-size bytes true = omega (arith, length-append bytes (0 ∷ []))
chars-size bytes false = omega (arith, length-append {A = ℕ} bytes [])

-- an item's size is that of its pieces
pub item-sized : (labels : List LabelView) (pc : ℕ) (item : SourceItem) (ps : List Piece) → pieces_of labels pc item ≡ Ok ps → pieces_size ps ≡ size_of item
unfolding pieces_of
item-sized labels pc Nothing ps e = let same : [] ≡ ps = cc in rw (← same) refl
item-sized labels pc (Section b) ps e = let same : [] ≡ ps = cc in rw (← same) refl
item-sized labels pc (Export name) ps e =
    let p = passes (label_value labels name) (λ (v : ℕ). Ok []) ps e in let same : [] ≡ ps = cc p.goes in rw (← same) refl
item-sized labels pc (Single i) ps e = let same : (Word i ∷ []) ≡ ps = cc in rw (← same) refl
item-sized labels pc (Double i j) ps e = let same : (Word i ∷ Word j ∷ []) ≡ ps = cc in rw (← same) refl
item-sized labels pc (Near jump label) ps e =
    let p = passes (near_instr labels pc jump label) (λ (i : Instr). Ok (Word i ∷ [])) ps e in
    let same : (Word p.first ∷ []) ≡ ps = cc p.goes in rw (← same) refl
item-sized labels pc (Distant f label) ps e =
    let p = passes (label_value labels label) (λ (v : ℕ). Ok (instruction_pieces (reaching f (word_difference v pc)))) ps e in
    let same : instruction_pieces (reaching f (word_difference p.first pc)) ≡ ps = cc p.goes in rw (← same) (code-size f (word_difference p.first pc))
item-sized labels pc (Numbers width operands) ps e =
    let p = passes (bytes_from labels width [] operands) (λ (bytes : List ℕ). Ok (Bytes bytes ∷ [])) ps e in
    let same : (Bytes p.first ∷ []) ≡ ps = cc p.goes in rw (← same) (omega (arith, numbers-length labels width [] operands p.first p.is))
item-sized labels pc (Chars bytes zero) ps e =
    let same : (Bytes (bytes ++ (cond zero (0 ∷ []) [])) ∷ []) ≡ ps = cc in rw (← same) (chars-size bytes zero)
item-sized labels pc (Zeros count) ps e =
    let same : (Bytes (replicate count 0) ∷ []) ≡ ps = cc in rw (← same) (omega (arith, length-replicate {A = ℕ} count 0))

-- how long the sections are after an item
grown-text : (b : Bool) (p : SectionPlace) (n : ℕ) → (cond b (record p { text_len = p.text_len + n }) (record p { data_len = p.data_len + n })).text_len
    ≡ p.text_len + cond b n 0
grown-text true p n = refl
grown-text false p n = omega arith

grown-data : (b : Bool) (p : SectionPlace) (n : ℕ) → (cond b (record p { text_len = p.text_len + n }) (record p { data_len = p.data_len + n })).data_len
    ≡ p.data_len + cond b 0 n
grown-data true p n = omega arith
grown-data false p n = refl

none : (b : Bool) (n : ℕ) → cond b n n ≡ n
none true n = refl
none false n = refl

pub text-after : (p : SectionPlace) (item : SourceItem) → (place_after p item).text_len ≡ p.text_len + cond p.in_text (size_of item) 0
unfolding place_after
text-after p Nothing = grown-text p.in_text p 0
text-after p (Section b) = omega (arith, none p.in_text 0)
text-after p (Export name) = grown-text p.in_text p 0
text-after p (Single i) = grown-text p.in_text p 4
text-after p (Double i j) = grown-text p.in_text p 8
text-after p (Near jump label) = grown-text p.in_text p 4
text-after p (Distant f label) = grown-text p.in_text p 8
text-after p (Numbers width operands) = grown-text p.in_text p (size_of (Numbers width operands))
text-after p (Chars bytes zero) = grown-text p.in_text p (size_of (Chars bytes zero))
text-after p (Zeros count) = grown-text p.in_text p count

pub data-after : (p : SectionPlace) (item : SourceItem) → (place_after p item).data_len ≡ p.data_len + cond p.in_text 0 (size_of item)
unfolding place_after
data-after p Nothing = grown-data p.in_text p 0
data-after p (Section b) = omega (arith, none p.in_text 0)
data-after p (Export name) = grown-data p.in_text p 0
data-after p (Single i) = grown-data p.in_text p 4
data-after p (Double i j) = grown-data p.in_text p 8
data-after p (Near jump label) = grown-data p.in_text p 4
data-after p (Distant f label) = grown-data p.in_text p 8
data-after p (Numbers width operands) = grown-data p.in_text p (size_of (Numbers width operands))
data-after p (Chars bytes zero) = grown-data p.in_text p (size_of (Chars bytes zero))
data-after p (Zeros count) = grown-data p.in_text p count

-- an item that fits makes no section longer than allowed
fits-by : (a b : Bool) (kind other : AsmKind) (answer : Result (Unit {0}) AsmKind)
    → answer ≡ cond a (Err kind) (cond b (Err other) (Ok tt)) → answer ≡ Ok tt → b ≡ false
fits-by true b kind other answer e h = absurd (cc)
fits-by false true kind other answer e h = absurd (cc)
fits-by false false kind other answer e h = refl

pub fits-within : (p : SectionPlace) (item : SourceItem) → fits_at p item ≡ Ok tt → length_at p + size_of item ≤ 1048576
unfolding fits_at
fits-within p item e =
    let test : nat_lt 1048576 (length_at p + size_of item) ≡ false = fits-by (is_code item && (not p.in_text || not (section_address p % 4 == 0)))
    (nat_lt 1048576 (length_at p + size_of item)) Misplaced (TooLarge (length_at p + size_of item)) (fits_at p item) refl e in
    grind (arith, nat_tests)

within-by : (b : Bool) (t d n : ℕ) → cond b t d + n ≤ 1048576 → t ≤ 1048576 → d ≤ 1048576 → (t + cond b n 0 ≤ 1048576) × (d + cond b 0 n ≤ 1048576)
within-by true t d n h k l = (h, omega arith)
within-by false t d n h k l = (omega arith, h)

pub place-after : (p : SectionPlace) (item : SourceItem) → IsPlaceInLimits p → fits_at p item ≡ Ok tt → IsPlaceInLimits (place_after p item)
place-after p item h e =
    let w = within-by p.in_text p.text_len p.data_len (size_of item) (fits-within p item e) h.text h.data_section in
    record { text = rw (text-after p item) w.0; data_section = rw (data-after p item) w.1 }

size-then : (b : Bool) (ps qs : List Piece) → pieces_size (cond b (ps ++ qs) ps) ≡ pieces_size ps + cond b (pieces_size qs) 0
size-then true ps qs = size-append ps qs
size-then false ps qs = omega arith

size-else : (b : Bool) (ps qs : List Piece) → pieces_size (cond b ps (ps ++ qs)) ≡ pieces_size ps + cond b 0 (pieces_size qs)
size-else true ps qs = omega arith
size-else false ps qs = size-append ps qs

pub placed-sized : (s : Sections) (item : SourceItem) (ps : List Piece) → AreSized s → fits_at s.place item ≡ Ok tt → pieces_size ps ≡ size_of item →
    AreSized (sections_after_item s item ps)
placed-sized s item ps h e n = record {
  text = size-then s.place.in_text s.text ps ∙ rw (h.text, n) (sym (text-after s.place item));
  data_section = size-else s.place.in_text s.data_pieces ps ∙ rw (h.data_section, n) (sym (data-after s.place item));
  place = place-after s.place item h.place e;
}

-- an item that was read fits at its position
pub item-fits : (p : SectionPlace) (text : List ℕ) (item : SourceItem) → item_at p text ≡ Ok item → fits_at p item ≡ Ok tt
unfolding item_at
item-fits p text item e =
    let r = passes (statement_read (section_address p) text) (λ (i : SourceItem). and_then (fits_at p i) (λ u. Ok i)) item e in
    let f = passes (fits_at p r.first) (λ (u : Unit {0}). Ok r.first) item r.goes in
    let same : r.first ≡ item = cc f.goes in
    rw (← same) f.is

filled-sized : (s t : Sections) (text : List ℕ) → AreSized s → sections_after_line s text ≡ Ok t → AreSized t
unfolding sections_after_line
filled-sized s t text h e =
    let r = passes (item_at s.place (statement_in text)) (λ (item : SourceItem). and_then (pieces_of s.labels (section_address s.place) item)
    (λ ps. Ok (sections_after_item s item ps))) t e in
    let p = passes (pieces_of s.labels (section_address s.place) r.first) (λ (ps : List Piece). Ok (sections_after_item s r.first ps)) t r.goes in
    let same : sections_after_item s r.first p.first ≡ t = cc p.goes in
    rw (← same) (placed-sized s r.first p.first h (item-fits s.place (statement_in text) r.first r.is)
    (item-sized s.labels (section_address s.place) r.first p.first p.is))

lines-sized : (above : ℕ) (s t : Sections) (lines : List (List ℕ)) → AreSized s → sections_from above s lines ≡ Ok t → AreSized t
lines-sized above s t [] h e = let same : s ≡ t = cc in rw (← same) h
lines-sized above s t (line ∷ lines) h e =
    let r = passes (at_line (above + 1) (sections_after_line s (said line))) (λ (next : Sections). sections_from (above + 1) next lines) t e in
    lines-sized (above + 1) r.first t lines
    (filled-sized s r.first (said line) h (passes_line (above + 1) (sections_after_line s (said line)) r.first r.is)) r.goes

-- what the first pass knows, and what the second pass produces from it
pub record Looks (lines : List (List ℕ)) (sections : Sections) : Type 0 where
  pub labels : List LabelView
  pub drafted : (place : SectionPlace) × (draft_from 0 (record { place = start_of_text; labels = [] }) lines ≡ Ok (record { place = place; labels = labels }))
  pub filled : sections_from 0 (empty_sections labels) lines ≡ Ok sections

pub looks : (lines : List (List ℕ)) (sections : Sections) → sections_of lines ≡ Ok sections → Looks lines sections
looks lines sections e =
    let a = passes (are_ascii 0 lines) (λ (u : Unit {0}). and_then (draft_from 0 (record { place = start_of_text; labels = [] }) lines)
    (λ draft. sections_from 0 (empty_sections draft.labels) lines)) sections e in
    let d = passes (draft_from 0 (record { place = start_of_text; labels = [] }) lines) (λ draft. sections_from 0 (empty_sections draft.labels) lines) sections
    a.goes in
    record { labels = d.first.labels; drafted = (d.first.place, d.is); filled = d.goes }

pub empty-sized : (labels : List LabelView) → AreSized (empty_sections labels)
empty-sized labels = record { text = refl; data_section = refl; place = record { text = omega arith; data_section = omega arith } }

pub sections-sized : (lines : List (List ℕ)) (sections : Sections) → sections_of lines ≡ Ok sections → AreSized sections
sections-sized lines sections e =
    let l = looks lines sections e in
    lines-sized 0 (empty_sections l.labels) sections lines (empty-sized l.labels) l.filled

sized-by : (answer : Result Sections AsmErr) → ((sections : Sections) → answer ≡ Ok sections → AreSized sections) → IsSized answer
sized-by (Ok sections) h = h sections refl
sized-by (Err e) h = tt

either-sized : (b : Bool) (e : AsmErr) (answer : Result Sections AsmErr) → IsSized answer → IsSized (cond b (Err e) answer)
either-sized true e answer h = tt
either-sized false e answer h = h

-- the sizes and the bytes of a source agree
pub assembled-sized : (source : List ℕ) → IsSized (assembled source)
unfolding assembled
assembled-sized source = either-sized (nat_lt 1048576 (length source)) _ (sections_of (text_lines source))
    (sized-by (sections_of (text_lines source)) (sections-sized (text_lines source)))

pub ruleset sized = (assembled-sized)
