-- The program that a source represents, or the first refusal. The tests are: the source's length, bytes that are not
-- ASCII, each line by itself, and each line with all labels known.
use Rattle.std.specs.Prelude.{ℕ, ◌+◌, false, nat_lt, Option, Some, None, Result, Ok, Err, List, [], ◌∷◌, ◌++◌, length, is_some, if◌then◌else◌}
use Rattle.texts.specs.Bytes.{is_ascii}
use Rattle.rv_asm.specs.declared.refusal.AsmKind.{AsmKind}
use Rattle.rv_asm.specs.declared.refusal.AsmKind.TheVariants.{LabelTwice, TooLarge, NotAscii}
use Rattle.rv_asm.specs.declared.refusal.AsmErr.{AsmErr}
use Rattle.rv_asm.specs.declared.place.SectionPlace.{SectionPlace}
use Rattle.rv_asm.specs.declared.draft.Draft.{Draft}
use Rattle.texts.specs.Answers.{and_then}
use Rattle.rv_text.specs.Lines.{text_lines}
use Rattle.rv_asm.specs.Scanning.{said, label_in, statement_in}
use Rattle.rv_asm.specs.Items.{SourceItem, Export}
use Rattle.rv_asm.specs.Places.{start_of_text, section_address, place_after, item_at}
use Rattle.rv_asm.specs.Labels.{LabelView, value_of_label, exported}
use Rattle.rv_asm.specs.Pieces.{Piece, pieces_of}

-- a refusal with its line number
abbrev pub at_line : {A : Type 0} → ℕ → Result A AsmKind → Result A AsmErr
at_line line (Ok a) = Ok a
at_line line (Err kind) = Err (record { line = line; kind = kind })

-- the first line that is not ASCII is refused
abbrev pub are_ascii : ℕ → List (List ℕ) → Result (Unit {0}) AsmErr
are_ascii above [] = Ok tt
are_ascii above (line ∷ lines) =
    if is_ascii line then are_ascii (above + 1) lines
    else Err (record { line = above + 1; kind = NotAscii })

-- the labels and the label of a line, whose value is the line's address
abbrev pub with_label : List LabelView → SectionPlace → Option (List ℕ) → Result (List LabelView) AsmKind
with_label labels place None = Ok labels
with_label labels place (Some name) =
    if is_some (value_of_label labels name) then Err LabelTwice
    else Ok (labels ++ record { name = name; value = section_address place; in_text = place.in_text; global = false } ∷ [])

-- what is known after a line with this text: first its label is defined, then its statement is read
unfoldable pub drafted : Draft → List ℕ → Result Draft AsmKind
drafted draft text =
    and_then (with_label draft.labels draft.place (label_in text)) (λ labels.
    and_then (item_at draft.place (statement_in text)) (λ item.
    Ok (record { place = place_after draft.place item; labels = labels })))

-- what is known after all lines: the position after them, and the labels
abbrev pub draft_from : ℕ → Draft → List (List ℕ) → Result Draft AsmErr
draft_from above draft [] = Ok draft
draft_from above draft (line ∷ lines) =
    and_then (at_line (above + 1) (drafted draft (said line))) (λ next. draft_from (above + 1) next lines)

-- the contents of the sections before a line
pub record Sections : Type 0 where
  pub place : SectionPlace
  pub text : List Piece
  pub data_pieces : List Piece
  pub labels : List LabelView

-- an export marks its label
abbrev pub with_export : List LabelView → SourceItem → List LabelView
with_export labels (Export name) = exported labels name
with_export labels item = labels

-- the contents of the sections after an item, whose pieces are appended to its section
abbrev pub sections_after_item : Sections → SourceItem → List Piece → Sections
sections_after_item sections item pieces = record {
  place = place_after sections.place item;
  text = if sections.place.in_text then sections.text ++ pieces else sections.text;
  data_pieces = if sections.place.in_text then sections.data_pieces else sections.data_pieces ++ pieces;
  labels = with_export sections.labels item;
}

-- the contents of the sections after a line with this text
unfoldable pub sections_after_line : Sections → List ℕ → Result Sections AsmKind
sections_after_line sections text =
    and_then (item_at sections.place (statement_in text)) (λ item.
    and_then (pieces_of sections.labels (section_address sections.place) item) (λ pieces.
    Ok (sections_after_item sections item pieces)))

-- the contents of the sections after all lines
abbrev pub sections_from : ℕ → Sections → List (List ℕ) → Result Sections AsmErr
sections_from above sections [] = Ok sections
sections_from above sections (line ∷ lines) =
    and_then (at_line (above + 1) (sections_after_line sections (said line))) (λ next. sections_from (above + 1) next lines)

-- empty sections
abbrev pub empty_sections : List LabelView → Sections
empty_sections labels = record { place = start_of_text; text = []; data_pieces = []; labels = labels }

-- the sections of the lines, in which every label has its value
abbrev pub sections_of : List (List ℕ) → Result Sections AsmErr
sections_of lines =
    and_then (are_ascii 0 lines) (λ u.
    and_then (draft_from 0 (record { place = start_of_text; labels = [] }) lines) (λ draft.
    sections_from 0 (empty_sections draft.labels) lines))

-- the program that a source represents
unfoldable pub assembled : List ℕ → Result Sections AsmErr
assembled source =
    if nat_lt 1048576 (length source) then Err (record { line = 0; kind = TooLarge (length source) })
    else sections_of (text_lines source)
