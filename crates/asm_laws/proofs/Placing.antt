-- The pieces of placed items are one after another in their sections.
use Rattle.std.proofs.Common.{◌≡◌, ℕ, ◌+◌, ◌≤◌, Bool, true, false, List, [], ◌∷◌, ◌++◌, length, take, drop, refl, sym, ◌∙◌, ap, subst, cond, arith, append_assoc, append-nil, length-append}
use Rattle.std.proofs.Math.Seq.{drop-append_seam, take-append_seam}
use Rattle.std.specs.Prelude.{Ok}
use Rattle.rv_asm.specs.declared.object.Object.{Object}
use Rattle.rv_asm.specs.declared.place.SectionPlace.{SectionPlace}
use Rattle.rv_asm.specs.Items.{SourceItem, size_of}
use Rattle.rv_asm.specs.Labels.{LabelView}
use Rattle.rv_asm.specs.Places.{section_address, length_at, place_after, item_at}
use Rattle.rv_asm.specs.Pieces.{Piece, pieces_of}
use Rattle.rv_asm.specs.Scanning.{said, statement_in}
use Rattle.rv_asm.specs.Spelling.{Spells, Begins}
use Rattle.rv_asm.specs.Sized.{piece_length, pieces_size}
use Rattle.rv_asm.proofs.Sized.{size-append, spelt-length, item-sized, text-after, data-after}
use Rattle.asm_laws.specs.Programs.{Placed, LineStandsFor, AllStand, placed_section, IsThere, AreThere}

-- the pieces of those items that are in the text, or in the data
abbrev pub text_pieces : List Placed → List Piece
text_pieces [] = []
text_pieces (p ∷ ps) = cond p.place.in_text p.pieces [] ++ text_pieces ps

abbrev pub data_pieces : List Placed → List Piece
data_pieces [] = []
data_pieces (p ∷ ps) = cond p.place.in_text [] p.pieces ++ data_pieces ps

-- bytes that spell two lists of pieces are those of the first, and after them those of the second
record SpellsBoth (ps qs : List Piece) (bytes : List ℕ) : Type 0 where
  front : List ℕ
  back : List ℕ
  whole : bytes ≡ front ++ back
  first : Spells ps front
  others : Spells qs back

split : (ps qs : List Piece) (bytes : List ℕ) → Spells (ps ++ qs) bytes → SpellsBoth ps qs bytes
split [] qs bytes h = record { front = []; back = bytes; whole = refl; first = refl; others = h }
split (p ∷ ps) qs bytes h =
    let rest = split ps qs h.back h.others in
    record {
      front = h.front ++ rest.front;
      back = rest.back;
      whole = h.whole ∙ ap (λ (l : List ℕ). h.front ++ l) rest.whole ∙ sym (append_assoc h.front rest.front rest.back);
      first = record { front = h.front; back = rest.front; whole = refl; first = h.first; others = rest.first };
      others = rest.others;
    }

-- pieces in the middle are spelt after those before them
pub middle : (front ps after : List Piece) (bytes : List ℕ) (at : ℕ) → Spells (front ++ (ps ++ after)) bytes → pieces_size front ≡ at
    → Spells ps (take (pieces_size ps) (drop at bytes))
middle front ps after bytes at h e =
    let outer = split front (ps ++ after) bytes h in
    let inner = split ps after outer.back outer.others in
    let before : at ≡ length outer.front = sym e ∙ sym (spelt-length front outer.front outer.first) in
    let long : pieces_size ps ≡ length inner.front = sym (spelt-length ps inner.front inner.first) in
    let dropped : drop at bytes ≡ inner.front ++ inner.back =
    ap (λ (n : ℕ). drop n bytes) before ∙ ap (λ (l : List ℕ). drop (length outer.front) l) outer.whole ∙ drop-append_seam outer.front outer.back
    ∙ inner.whole in
    let taken : take (pieces_size ps) (drop at bytes) ≡ inner.front =
    ap (λ (l : List ℕ). take (pieces_size ps) l) dropped ∙ ap (λ (n : ℕ). take n (inner.front ++ inner.back)) long ∙ take-append_seam inner.front inner.back in
    subst (λ (l : List ℕ). Spells ps l) (sym taken) inner.first

-- the contents of the sections before an item: the pieces of the earlier items, which have as many bytes as the
-- position says
pub record AreAbove (place : SectionPlace) (text_front data_front : List Piece) : Type 0 where
  pub text : pieces_size text_front ≡ place.text_len
  pub data_section : pieces_size data_front ≡ place.data_len

size-of-either : (b : Bool) (ps : List Piece) → pieces_size (cond b ps []) ≡ cond b (pieces_size ps) 0
size-of-either true ps = refl
size-of-either false ps = refl

size-of-other : (b : Bool) (ps : List Piece) → pieces_size (cond b [] ps) ≡ cond b 0 (pieces_size ps)
size-of-other true ps = refl
size-of-other false ps = refl

pub above-next : (labels : List LabelView) (line : List ℕ) (p : Placed) (text_front data_front : List Piece) (place : SectionPlace) →
    LineStandsFor labels place line p → AreAbove place text_front data_front
    → AreAbove (place_after place p.item) (text_front ++ cond p.place.in_text p.pieces []) (data_front ++ cond p.place.in_text [] p.pieces)
above-next labels line p text_front data_front place s a =
    let size : pieces_size p.pieces ≡ size_of p.item = item-sized labels (section_address place) p.item p.pieces s.pieces in
    let same : p.place.in_text ≡ place.in_text = ap (λ (q : SectionPlace). q.in_text) s.place in
    let text : cond p.place.in_text (pieces_size p.pieces) 0 ≡ cond place.in_text (size_of p.item) 0 = rw (same, size) refl in
    let others : cond p.place.in_text 0 (pieces_size p.pieces) ≡ cond place.in_text 0 (size_of p.item) = rw (same, size) refl in
    record {
      text = omega (
        arith,
        size-append text_front (cond p.place.in_text p.pieces []),
        size-of-either p.place.in_text p.pieces,
        text,
        a.text,
        text-after place p.item,
      );
      data_section = omega (
        arith,
        size-append data_front (cond p.place.in_text [] p.pieces),
        size-of-other p.place.in_text p.pieces,
        others,
        a.data_section,
        data-after place p.item,
      );
    }

-- an item is in its place
there-by : (b : Bool) (object : Object) (p : Placed) (text_front text_after data_front data_after : List Piece) → p.place.in_text ≡ b
    → Spells (text_front ++ (cond b p.pieces [] ++ text_after)) object.text_bytes
    → Spells (data_front ++ (cond b [] p.pieces ++ data_after)) object.data_bytes
    → AreAbove p.place text_front data_front → IsThere object p
there-by true object p tf tb df db e t d a = rw e (middle tf p.pieces tb object.text_bytes p.place.text_len t a.text)
there-by false object p tf tb df db e t d a = rw e (middle df p.pieces db object.data_bytes p.place.data_len d a.data_section)

-- all items are in their places
pub all-there : (object : Object) (labels : List LabelView) (place end : SectionPlace) (lines : List (List ℕ)) (items : List Placed)
    (text_front data_front : List Piece)
    → AllStand labels place lines items end → AreAbove place text_front data_front
    → Spells (text_front ++ text_pieces items) object.text_bytes → Spells (data_front ++ data_pieces items) object.data_bytes
    → AreThere object items
all-there object labels place end lines [] tf df s a t d = tt
all-there object labels place end [] (p ∷ ps) tf df s a t d = absurd s
all-there object labels place end (line ∷ lines) (p ∷ ps) tf df s a t d =
    let b = p.place.in_text in
    let here : AreAbove p.place tf df = subst (λ (q : SectionPlace). AreAbove q tf df) (sym s.0.place) a in
    let first = there-by b object p tf (text_pieces ps) df (data_pieces ps) refl t d here in
    let next = above-next labels line p tf df place s.0 a in
    let text = subst (λ (ps : List Piece). Spells ps object.text_bytes) (sym (append_assoc tf (cond b p.pieces []) (text_pieces ps))) t in
    let others = subst (λ (ps : List Piece). Spells ps object.data_bytes) (sym (append_assoc df (cond b [] p.pieces) (data_pieces ps))) d in
    (first, all-there object labels (place_after place p.item) end lines ps (tf ++ cond b p.pieces []) (df ++ cond b [] p.pieces) s.1 next text others)
