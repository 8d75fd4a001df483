-- The result of the two passes through the lines is the program of the lines.
use Rattle.std.proofs.Common.{◌≡◌, ℕ, ◌+◌, ◌<◌, ◌≤◌, Bool, true, false, List, [], ◌∷◌, ◌++◌, length, map, refl, sym, ◌∙◌, ap, subst, cond, arith, append_assoc, append-nil, Option, Some, None}
use Rattle.std.proofs.lemmas.List.{map-append}
use Rattle.std.specs.Prelude.{Result, Ok, Err, is_some, nat_lt}
use Rattle.rv_asm.specs.declared.object.Object.{Object}
use Rattle.rv_asm.specs.declared.place.SectionPlace.{SectionPlace}
use Rattle.rv_asm.specs.declared.draft.Draft.{Draft}
use Rattle.rv_asm.specs.declared.refusal.AsmKind.{AsmKind}
use Rattle.rv_asm.specs.declared.refusal.AsmKind.TheVariants.{LabelTwice, TooLarge}
use Rattle.rv_asm.specs.declared.refusal.AsmErr.{AsmErr}
use Rattle.texts.specs.Answers.{and_then}
use Rattle.rv_text.specs.Lines.{text_lines}
use Rattle.rv_asm.specs.Scanning.{said, label_in, statement_in}
use Rattle.rv_asm.specs.Items.{SourceItem}
use Rattle.rv_asm.specs.Labels.{LabelView, value_of_label}
use Rattle.rv_asm.specs.Places.{start_of_text, section_address, length_at, place_after, item_at}
use Rattle.rv_asm.specs.Pieces.{Piece, pieces_of}
use Rattle.rv_asm.specs.Spelling.{Spells}
use Rattle.rv_asm.specs.Assembling.{Sections, at_line, with_label, drafted, draft_from, with_export, sections_after_item as placed_at, sections_after_line, sections_from, empty_sections, sections_of, assembled}
use Rattle.rv_asm.specs.Objects.{IsObject, Objects}
use Rattle.rv_asm.proofs.Passing.{Passes, passes, passes_line}
use Rattle.rv_asm.proofs.Sized.{Looks, looks, spelt-length, sections-sized}
use Rattle.asm_laws.specs.Programs.{Placed, LineStandsFor, AllStand, label_of, labels_of, unexported, AreThere, IsProgram}
use Rattle.asm_laws.proofs.Values.{SameValues, same-values, then-same, marked-same, pieces-same}
use Rattle.asm_laws.proofs.Placing.{text_pieces, data_pieces, AreAbove, all-there}

-- the items of lines, added to sections that already hold some
record ItemsOf (s t : Sections) (lines : List (List ℕ)) : Type 0 where
  items : List Placed
  stand : AllStand t.labels s.place lines items t.place
  text : t.text ≡ s.text ++ text_pieces items
  data_section : t.data_pieces ≡ s.data_pieces ++ data_pieces items
  labels : SameValues t.labels s.labels

text-by : (b : Bool) (ts ps rest : List Piece) → (cond b (ts ++ ps) ts) ++ rest ≡ ts ++ (cond b ps [] ++ rest)
text-by true ts ps rest = append_assoc ts ps rest
text-by false ts ps rest = refl

data-by : (b : Bool) (ts ps rest : List Piece) → (cond b ts (ts ++ ps)) ++ rest ≡ ts ++ (cond b [] ps ++ rest)
data-by true ts ps rest = refl
data-by false ts ps rest = append_assoc ts ps rest

items-of : (above : ℕ) (s t : Sections) (lines : List (List ℕ)) → sections_from above s lines ≡ Ok t → ItemsOf s t lines
unfolding sections_after_line
items-of above s t [] e =
    let same : s ≡ t = cc in
    subst (λ (u : Sections). ItemsOf s u []) same (record {
      items = [];
      stand = refl;
      text = sym (append-nil s.text);
      data_section = sym (append-nil s.data_pieces);
      labels = same-values s.labels;
    })
items-of above s t (line ∷ lines) e =
    let text = said line in
    let r = passes (at_line (above + 1) (sections_after_line s text)) (λ (next : Sections). sections_from (above + 1) next lines) t e in
    let f = passes_line (above + 1) (sections_after_line s text) r.first r.is in
    let i = passes (item_at s.place (statement_in text)) (λ (item : SourceItem). and_then (pieces_of s.labels (section_address s.place) item)
    (λ ps. Ok (placed_at s item ps))) r.first f in
    let p = passes (pieces_of s.labels (section_address s.place) i.first) (λ (ps : List Piece). Ok (placed_at s i.first ps)) r.first i.goes in
    let next : placed_at s i.first p.first ≡ r.first = cc p.goes in
    let rest = subst (λ (u : Sections). ItemsOf u t lines) (sym next) (items-of (above + 1) r.first t lines r.goes) in
    let labels = then-same t.labels (with_export s.labels i.first) s.labels rest.labels (marked-same s.labels i.first) in
    record {
      items = record { place = s.place; item = i.first; pieces = p.first } ∷ rest.items;
      stand = (record { place = refl; item = i.is; pieces = pieces-same t.labels s.labels (section_address s.place) i.first labels ∙ p.is }, rest.stand);
      text = rest.text ∙ text-by s.place.in_text s.text p.first (text_pieces rest.items);
      data_section = rest.data_section ∙ data-by s.place.in_text s.data_pieces p.first (data_pieces rest.items);
      labels = labels;
    }

-- the label of a line is appended to the others
labelled-by : (twice : Bool) (more next : List LabelView) (answer : Result (List LabelView) AsmKind)
    → answer ≡ cond twice (Err LabelTwice) (Ok more) → answer ≡ Ok next → next ≡ more
labelled-by true more next answer e h = absurd (cc)
labelled-by false more next answer e h = cc

labelled : (labels next : List LabelView) (place : SectionPlace) (label : Option (List ℕ)) → with_label labels place label ≡ Ok next →
    next ≡ labels ++ label_of label place
labelled labels next place None e = let same : labels ≡ next = cc in sym same ∙ sym (append-nil labels)
labelled labels next place (Some name) e =
    labelled-by (is_some (value_of_label labels name)) (labels ++ label_of (Some name) place) next (with_label labels place (Some name)) refl e

same-item : (answer : Result SourceItem AsmKind) (i j : SourceItem) → answer ≡ Ok i → answer ≡ Ok j → i ≡ j
same-item answer i j e h = cc

-- the labels of the first pass are those of the items
labels-are : (above : ℕ) (labels marks : List LabelView) (place end : SectionPlace) (last : Draft) (lines : List (List ℕ)) (items : List Placed)
    → draft_from above (record { place = place; labels = labels }) lines ≡ Ok last → AllStand marks place lines items end
    → last.labels ≡ labels ++ labels_of lines items
unfolding drafted
labels-are above labels marks place end last [] items e s =
    let same : (record { place = place; labels = labels }) ≡ last = cc in
    ap (λ (d : Draft). d.labels) (sym same) ∙ sym (append-nil labels)
labels-are above labels marks place end last (line ∷ lines) [] e s = absurd s
labels-are above labels marks place end last (line ∷ lines) (p ∷ ps) e s =
    let text = said line in
    let draft : Draft = record { place = place; labels = labels } in
    let r = passes (at_line (above + 1) (drafted draft text)) (λ (next : Draft). draft_from (above + 1) next lines) last e in
    let f = passes_line (above + 1) (drafted draft text) r.first r.is in
    let l = passes (with_label labels place (label_in text)) (λ (more : List LabelView). and_then (item_at place (statement_in text))
    (λ item. Ok (record { place = place_after place item; labels = more }))) r.first f in
    let i = passes (item_at place (statement_in text)) (λ (item : SourceItem). Ok (record { place = place_after place item; labels = l.first })) r.first l.goes
    in
    let item : i.first ≡ p.item = same-item (item_at place (statement_in text)) i.first p.item i.is s.0.item in
    let next : (record { place = place_after place i.first; labels = l.first }) ≡ r.first = cc i.goes in
    let here : (record { place = place_after place p.item; labels = l.first }) ≡ r.first =
    ap (λ (x : SourceItem). record { place = place_after place x; labels = l.first }) (sym item) ∙ next in
    let goes : draft_from (above + 1) (record { place = place_after place p.item; labels = l.first }) lines ≡ Ok last =
    subst (λ (d : Draft). draft_from (above + 1) d lines ≡ Ok last) (sym here) r.goes in
    let rest = labels-are (above + 1) l.first marks (place_after place p.item) end last lines ps goes s.1 in
    let label : l.first ≡ labels ++ label_of (label_in text) p.place = labelled labels l.first place (label_in text) l.is
    ∙ ap (λ (q : SectionPlace). labels ++ label_of (label_in text) q) (sym s.0.place) in
    rest ∙ ap (λ (ls : List LabelView). ls ++ labels_of lines ps) label ∙ append_assoc labels (label_of (label_in text) p.place) (labels_of lines ps)

-- they are not exported yet
bare-label : (label : Option (List ℕ)) (place : SectionPlace) → map unexported (label_of label place) ≡ label_of label place
bare-label None place = refl
bare-label (Some name) place = refl

bare-labels : (lines : List (List ℕ)) (items : List Placed) → map unexported (labels_of lines items) ≡ labels_of lines items
bare-labels [] items = refl
bare-labels (line ∷ lines) [] = refl
bare-labels (line ∷ lines) (p ∷ ps) =
    map-append unexported (label_of (label_in (said line)) p.place) (labels_of lines ps)
    ∙ ap (λ (l : List LabelView). l ++ map unexported (labels_of lines ps)) (bare-label (label_in (said line)) p.place)
    ∙ ap (λ (ls : List LabelView). label_of (label_in (said line)) p.place ++ ls) (bare-labels lines ps)

program-of : (lines : List (List ℕ)) (sections : Sections) (object : Object) → sections_of lines ≡ Ok sections → IsObject sections object →
    IsProgram lines object
program-of lines sections object e is =
    let l = looks lines sections e in
    let o = items-of 0 (empty_sections l.labels) sections lines l.filled in
    let sized = sections-sized lines sections e in
    let stand = subst (λ (labels : List LabelView). AllStand labels start_of_text lines o.items sections.place) (sym is.labels) o.stand in
    let text = subst (λ (ps : List Piece). Spells ps object.text_bytes) o.text is.text_bytes in
    let others = subst (λ (ps : List Piece). Spells ps object.data_bytes) o.data_section is.data_bytes in
    let labels = labels-are 0 [] sections.labels start_of_text sections.place
    (record { place = l.drafted.0; labels = l.labels }) lines o.items l.drafted.1 o.stand in
    record {
      items = o.items;
      end = sections.place;
      stand = stand;
      there = all-there object object.labels start_of_text sections.place lines o.items [] [] stand (record { text = refl; data_section = refl }) text others;
      text = spelt-length sections.text object.text_bytes is.text_bytes ∙ sized.text;
      data_section = spelt-length sections.data_pieces object.data_bytes is.data_bytes ∙ sized.data_section;
      labels = ap (λ (ls : List LabelView). map unexported ls) is.labels ∙ o.labels.bare ∙ ap (λ (ls : List LabelView). map unexported ls) labels
          ∙ bare-labels lines o.items;
    }

program-by : (answer : Result Sections AsmErr) (lines : List (List ℕ)) (object : Object) → sections_of lines ≡ answer → Objects object answer →
    IsProgram lines object
program-by (Ok sections) lines object e is = program-of lines sections object e is
program-by (Err kind) lines object e is = absurd is

program-either : (b : Bool) (e : AsmErr) (lines : List (List ℕ)) (object : Object) → Objects object (cond b (Err e) (sections_of lines)) →
    IsProgram lines object
program-either true e lines object is = absurd is
program-either false e lines object is = program-by (sections_of lines) lines object refl is

pub assembled-program : (source : List ℕ) (object : Object) → Objects object (assembled source) → IsProgram (text_lines source) object
unfolding assembled
assembled-program source object is =
    program-either (nat_lt 1048576 (length source)) (record { line = 0; kind = TooLarge (length source) }) (text_lines source) object is

pub ruleset programs = (assembled-program)
