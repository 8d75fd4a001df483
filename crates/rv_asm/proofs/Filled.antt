-- The sections grow line by line, and so do the bytes.
use Rattle.std.proofs.Common.{◌≡◌, ℕ, ◌+◌, Bool, true, false, List, [], ◌∷◌, ◌++◌, refl, sym, ◌∙◌, ap, subst, append_assoc, inl, inr}
use Rattle.std.specs.Prelude.{Result, Ok, Err, ◌⊎◌, if◌then◌else◌}
use Rattle.rv_asm.specs.declared.refusal.AsmKind.{AsmKind}
use Rattle.rv_asm.specs.declared.refusal.AsmKind.TheVariants.{NoMemory}
use Rattle.rv_asm.specs.declared.refusal.AsmErr.{AsmErr}
use Rattle.rv_asm.specs.declared.place.SectionPlace.{SectionPlace}
use Rattle.rv_asm.specs.declared.sections.Output.{Output}
use Rattle.texts.specs.Answers.{and_then}
use Rattle.rv_asm.specs.Scanning.{said, statement_in}
use Rattle.rv_asm.specs.Places.{section_address, place_after, item_at}
use Rattle.rv_asm.specs.Labels.{LabelView}
use Rattle.rv_asm.specs.Pieces.{Piece, pieces_of}
use Rattle.rv_asm.specs.Spelling.{Spells, GivesBytes, IsRefusal}
use Rattle.rv_asm.specs.Assembling.{Sections, with_export, sections_after_item, sections_after_line, sections_from}
use Rattle.rv_asm.specs.Filling.{line_pieces, IsFilled, HoldsSections, Outputs}

spells-append : (ps qs : List Piece) (bs cs : List ℕ) → Spells ps bs → Spells qs cs → Spells (ps ++ qs) (bs ++ cs)
spells-append [] qs bs cs h k = rw h k
spells-append (p ∷ ps) qs bs cs h k = record {
  front = h.front;
  back = h.back ++ cs;
  whole = ap (λ b. b ++ cs) h.whole ∙ append_assoc h.front h.back cs;
  first = h.first;
  others = spells-append ps qs h.back cs h.others k;
}

spells-then : (b : Bool) (ps qs : List Piece) (bs cs : List ℕ) → Spells ps bs → Spells qs cs
    → Spells (if b then ps ++ qs else ps) (if b then bs ++ cs else bs)
spells-then true ps qs bs cs h k = spells-append ps qs bs cs h k
spells-then false ps qs bs cs h k = h

spells-else : (b : Bool) (ps qs : List Piece) (bs cs : List ℕ) → Spells ps bs → Spells qs cs
    → Spells (if b then ps else ps ++ qs) (if b then bs else bs ++ cs)
spells-else true ps qs bs cs h k = h
spells-else false ps qs bs cs h k = spells-append ps qs bs cs h k

-- an answer with bytes has pieces
record HasPieces (bytes : List ℕ) (answer : Result (List Piece) AsmKind) : Type 0 where
  pieces : List Piece
  is : answer ≡ Ok pieces
  spells : Spells pieces bytes

has_pieces : (bytes : List ℕ) (answer : Result (List Piece) AsmKind) → GivesBytes bytes answer → HasPieces bytes answer
has_pieces bytes (Ok pieces) h = record { pieces = pieces; is = refl; spells = h }
has_pieces bytes (Err kind) h = absurd h

-- the sections after a line
record GoesOn (sections : Sections) (text : List ℕ) (new : Output) : Type 0 where
  next : Sections
  goes : sections_after_line sections text ≡ Ok next
  shows : HoldsSections next new

goes_on : (s : Sections) (out new : Output) (text : List ℕ) → HoldsSections s out → IsFilled out text new → GoesOn s text new
unfolding sections_after_line
goes_on s out new text h f =
    let p = has_pieces f.bytes (pieces_of out.labels (section_address out.place) f.item) f.gives in
    let read : item_at s.place (statement_in text) ≡ Ok f.item = subst (λ place. item_at place (statement_in text) ≡ Ok f.item) h.place f.read in
    let at_place : pieces_of out.labels (section_address s.place) f.item ≡ Ok p.pieces = subst (λ place. pieces_of out.labels (section_address place) f.item
    ≡ Ok p.pieces) h.place p.is in
    let pieces : pieces_of s.labels (section_address s.place) f.item ≡ Ok p.pieces = subst (λ labels. pieces_of labels (section_address s.place) f.item
    ≡ Ok p.pieces) h.labels at_place in
    let text_is : new.text.items ≡ (if s.place.in_text then out.text.items ++ f.bytes else out.text.items)
    = f.text_bytes ∙ ap (λ (place : SectionPlace). if place.in_text then out.text.items ++ f.bytes else out.text.items) h.place in
    let data_is : new.data.items ≡ (if s.place.in_text then out.data.items else out.data.items ++ f.bytes)
    = f.data_bytes ∙ ap (λ (place : SectionPlace). if place.in_text then out.data.items else out.data.items ++ f.bytes) h.place in
    record {
      next = sections_after_item s f.item p.pieces;
      goes = rw (read, pieces) refl;
      shows = record {
        place = f.place ∙ ap (λ (place : SectionPlace). place_after place f.item) h.place;
        labels = f.labels ∙ ap (λ (labels : List LabelView). with_export labels f.item) h.labels;
        text_bytes = rw text_is (spells-then s.place.in_text s.text p.pieces out.text.items f.bytes h.text_bytes p.spells);
        data_bytes = rw data_is (spells-else s.place.in_text s.data_pieces p.pieces out.data.items f.bytes h.data_bytes p.spells);
      };
    }

-- the sections hold the earlier lines, and the answer is that of the remaining lines, continued from there
pub record IsReached (above : ℕ) (out : Output) (lines : List (List ℕ)) (answer : Result Sections AsmErr) : Type 0 where
  pub sections : Sections
  pub shows : HoldsSections sections out
  pub same : sections_from above sections lines ≡ answer

pub next-reached : (above : ℕ) (out new : Output) (line : List ℕ) (lines : List (List ℕ)) (answer : Result Sections AsmErr)
    → IsReached above out (line ∷ lines) answer → IsFilled out (said line) new → IsReached (above + 1) new lines answer
next-reached above out new line lines answer r f =
    let g = goes_on r.sections out new (said line) r.shows f in
    record { sections = g.next; shows = g.shows; same = rw g.goes at r.same }

step-refused : {A B C K : Type 0} (x : Result A K) (f : A → Result B K) (g : A → B → C) (k : K)
    → and_then x f ≡ Err k → and_then x (λ a. and_then (f a) (λ b. Ok (g a b))) ≡ Err k
step-refused (Ok a) f g k e = rw e refl
step-refused (Err j) f g k e = let same : j ≡ k = cc in ap Err same

filled-refused : (s : Sections) (out : Output) (text : List ℕ) (kind : AsmKind) → HoldsSections s out
    → line_pieces out.labels out.place text ≡ Err kind → sections_after_line s text ≡ Err kind
unfolding sections_after_line line_pieces
filled-refused s out text kind h e =
    let at_place : and_then (item_at s.place (statement_in text)) (λ item. pieces_of out.labels (section_address s.place) item) ≡ Err kind
    = subst (λ (place : SectionPlace). and_then (item_at place (statement_in text)) (λ item. pieces_of out.labels (section_address place) item)
    ≡ Err kind) h.place e in
    let refused : and_then (item_at s.place (statement_in text)) (λ item. pieces_of s.labels (section_address s.place) item) ≡ Err kind
    = subst (λ (labels : List LabelView). and_then (item_at s.place (statement_in text)) (λ item. pieces_of labels (section_address s.place) item)
    ≡ Err kind) h.labels at_place in
    step-refused (item_at s.place (statement_in text)) (λ item. pieces_of s.labels (section_address s.place) item)
    (λ item pieces. sections_after_item s item pieces) kind refused

pub refused : (above : ℕ) (out : Output) (line : List ℕ) (lines : List (List ℕ)) (answer : Result Sections AsmErr) (kind : AsmKind)
    → IsReached above out (line ∷ lines) answer → IsRefusal kind (line_pieces out.labels out.place (said line))
    → (kind ≡ NoMemory) ⊎ (answer ≡ Err (record { line = above + 1; kind = kind }))
refused above out line lines answer kind r (inl none) = inl none
refused above out line lines answer kind r (inr e) =
    let stops = filled-refused r.sections out (said line) kind r.shows e in
    inr (sym (rw stops at r.same))

pub reached-end : (above : ℕ) (out : Output) (lines : List (List ℕ)) (answer : Result Sections AsmErr) → lines ≡ []
    → IsReached above out lines answer → Outputs out answer
reached-end above out lines answer e r =
    let same : sections_from above r.sections [] ≡ answer = subst (λ l. sections_from above r.sections l ≡ answer) e r.same in
    subst (λ a. Outputs out a) same r.shows
