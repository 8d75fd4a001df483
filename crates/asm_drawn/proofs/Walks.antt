-- Both passes of the assembler over entries, from the first on.
use Rattle.std.proofs.Common.{◌≡◌, ℕ, ◌+◌, List, [], ◌∷◌, refl, ◌∙◌, ap, Ok}
use Rattle.std.specs.Prelude.{Option}
use Rattle.rv_asm.specs.declared.place.SectionPlace.{SectionPlace}
use Rattle.rv_asm.specs.Scanning.{said, statement_in}
use Rattle.rv_asm.specs.Items.{SourceItem, Nothing, Section, Export, Single, Double, Near, Distant, Numbers, Chars, Zeros}
use Rattle.rv_asm.specs.Places.{section_address, place_after, fits_at, item_at}
use Rattle.rv_asm.specs.Labels.{LabelView, value_of_label}
use Rattle.rv_asm.specs.Pieces.{Piece, pieces_of}
use Rattle.rv_asm.specs.Assembling.{are_ascii, with_label, drafted, draft_from, Sections, with_export, sections_after_item, sections_after_line, sections_from}
use Rattle.asm_drawn.proofs.Lines.{plain_ascii}
use Rattle.asm_drawn.proofs.Entries.{Entry, IsEntry, AreEntries, texts_of}
use Rattle.asm_drawn.proofs.Values.{value-exported}

abbrev pub Values : Type 0
Values = List ℕ → Option ℕ

-- the labels have these values
abbrev pub HaveValues : Values → List LabelView → Type 0
HaveValues values labels = (name : List ℕ) → value_of_label labels name ≡ values name

-- an item places pieces, whatever else is known about the labels
pub record HasPieces (values : Values) (pc : ℕ) (item : SourceItem) : Type 0 where
  pub pieces : List Piece
  pub placed : (labels : List LabelView) → HaveValues values labels → pieces_of labels pc item ≡ Ok pieces

-- the first pass from here ends with these labels
pub record Drafts (es : List Entry) (place : SectionPlace) (labels final : List LabelView) : Type 0 where
  pub end : SectionPlace
  pub passes : (above : ℕ) → draft_from above (record { place = place; labels = labels }) (texts_of es) ≡ Ok (record { place = end; labels = final })

-- the second pass from here refuses nothing
pub record Fills (es : List Entry) (above : ℕ) (sections : Sections) : Type 0 where
  pub end : Sections
  pub passes : sections_from above sections (texts_of es) ≡ Ok end

-- both, if the labels that the first pass ends with have these values
pub record Goes (values : Values) (final : List LabelView) (es : List Entry) (place : SectionPlace) (labels : List LabelView) : Type 0 where
  pub first : Drafts es place labels final
  pub second : (above : ℕ) (sections : Sections) → sections.place ≡ place → HaveValues values sections.labels → Fills es above sections

pub goes_end : (values : Values) (final : List LabelView) (place : SectionPlace) → Goes values final [] place final
goes_end values final place = record {
  first = record { end = place; passes = λ above. refl };
  second = λ above sections at same. record { end = sections; passes = refl };
}

-- the meaning of a line, if its item fits
abbrev pub IsItem : SectionPlace → Entry → Type 0
IsItem place e = item_at place (statement_in (said e.text)) ≡ Ok e.item

pub is_item : (place : SectionPlace) (e : Entry) → IsEntry e → fits_at place e.item ≡ Ok tt → IsItem place e
unfolding item_at
is_item place e h fits = rw (h.item (section_address place), fits) refl

draft_line : (place : SectionPlace) (labels next : List LabelView) (e : Entry) → IsEntry e → with_label labels place e.label ≡ Ok next
    → IsItem place e → drafted (record { place = place; labels = labels }) (said e.text) ≡ Ok (record { place = place_after place e.item; labels = next })
unfolding drafted
draft_line place labels next e h named item = rw (h.label, named, item) refl

first_step : (e : Entry) (es : List Entry) (place : SectionPlace) (labels next final : List LabelView) → IsEntry e
    → with_label labels place e.label ≡ Ok next → IsItem place e → Drafts es (place_after place e.item) next final
    → Drafts (e ∷ es) place labels final
first_step e es place labels next final h named item rest = record {
  end = rest.end;
  passes = λ above. rw (draft_line place labels next e h named item) (rest.passes (above + 1));
}

exported_values : (values : Values) (labels : List LabelView) (item : SourceItem) → HaveValues values labels → HaveValues values (with_export labels item)
exported_values values labels Nothing h = h
exported_values values labels (Section t) h = h
exported_values values labels (Export exports) h = λ name. value-exported labels exports name ∙ h name
exported_values values labels (Single i) h = h
exported_values values labels (Double i j) h = h
exported_values values labels (Near j l) h = h
exported_values values labels (Distant f l) h = h
exported_values values labels (Numbers w os) h = h
exported_values values labels (Chars b z) h = h
exported_values values labels (Zeros n) h = h

fill_line : (sections : Sections) (e : Entry) (pieces : List Piece) → IsItem sections.place e
    → pieces_of sections.labels (section_address sections.place) e.item ≡ Ok pieces
    → sections_after_line sections (said e.text) ≡ Ok (sections_after_item sections e.item pieces)
unfolding sections_after_line
fill_line sections e pieces item placed = rw (item, placed) refl

second_step : (values : Values) (e : Entry) (es : List Entry) (place : SectionPlace) → IsItem place e → HasPieces values (section_address place) e.item
    → ((above : ℕ) (sections : Sections) → sections.place ≡ place_after place e.item → HaveValues values sections.labels → Fills es above sections)
    → (above : ℕ) (sections : Sections) → sections.place ≡ place → HaveValues values sections.labels → Fills (e ∷ es) above sections
second_step values e es place item has rest above sections at same =
    let here : IsItem sections.place e = rw at item in
    let placed : pieces_of sections.labels (section_address sections.place) e.item ≡ Ok has.pieces =
    ap (λ (p : SectionPlace). pieces_of sections.labels (section_address p) e.item) at ∙ has.placed sections.labels same in
    let next : Sections = sections_after_item sections e.item has.pieces in
    let after = rest (above + 1) next (ap (λ (p : SectionPlace). place_after p e.item) at) (exported_values values sections.labels e.item same) in
    record { end = after.end; passes = rw (fill_line sections e has.pieces here placed) after.passes }

-- one line, and those after it
pub goes_on : (values : Values) (final : List LabelView) (e : Entry) (es : List Entry) (place : SectionPlace) (labels next : List LabelView)
    → IsEntry e → with_label labels place e.label ≡ Ok next → fits_at place e.item ≡ Ok tt → HasPieces values (section_address place) e.item
    → Goes values final es (place_after place e.item) next → Goes values final (e ∷ es) place labels
goes_on values final e es place labels next h named fits has rest =
    let item = is_item place e h fits in
    record {
      first = first_step e es place labels next final h named item rest.first;
      second = second_step values e es place item has rest.second;
    }

-- every line is ASCII
pub entries_ascii : (above : ℕ) (es : List Entry) → AreEntries es → are_ascii above (texts_of es) ≡ Ok tt
entries_ascii above [] h = refl
entries_ascii above (e ∷ es) h = rw (plain_ascii e.text h.0.plain) (entries_ascii (above + 1) es h.1)
