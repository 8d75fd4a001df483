-- The bytes of the sections, related to the program.
use Rattle.std.specs.Prelude.{◌≡◌, ℕ, Result, Ok, Err, List, ◌++◌, if◌then◌else◌}
use Rattle.rv_asm.specs.declared.refusal.AsmKind.{AsmKind}
use Rattle.rv_asm.specs.declared.refusal.AsmErr.{AsmErr}
use Rattle.rv_asm.specs.declared.place.SectionPlace.{SectionPlace}
use Rattle.rv_asm.specs.declared.sections.Output.{Output}
use Rattle.texts.specs.Answers.{and_then}
use Rattle.rv_asm.specs.Scanning.{statement_in}
use Rattle.rv_asm.specs.Items.{SourceItem}
use Rattle.rv_asm.specs.Places.{section_address, place_after, item_at}
use Rattle.rv_asm.specs.Labels.{LabelView}
use Rattle.rv_asm.specs.Pieces.{Piece, pieces_of}
use Rattle.rv_asm.specs.Spelling.{Spells, GivesBytes}
use Rattle.rv_asm.specs.Assembling.{Sections, with_export}

-- the pieces that a line with this text places
unfoldable pub line_pieces : List LabelView → SectionPlace → List ℕ → Result (List Piece) AsmKind
line_pieces labels place text =
    and_then (item_at place (statement_in text)) (λ item. pieces_of labels (section_address place) item)

-- the line places these bytes of this item
pub record IsFilled (old : Output) (text : List ℕ) (new : Output) : Type 0 where
  pub item : SourceItem
  pub bytes : List ℕ
  pub read : item_at old.place (statement_in text) ≡ Ok item
  pub gives : GivesBytes bytes (pieces_of old.labels (section_address old.place) item)
  pub place : new.place ≡ place_after old.place item
  pub labels : new.labels ≡ with_export old.labels item
  pub text_bytes : new.text.items ≡ (if old.place.in_text then old.text.items ++ bytes else old.text.items)
  pub data_bytes : new.data.items ≡ (if old.place.in_text then old.data.items else old.data.items ++ bytes)

-- the bytes are those of the sections
pub record HoldsSections (sections : Sections) (out : Output) : Type 0 where
  pub place : out.place ≡ sections.place
  pub labels : out.labels ≡ sections.labels
  pub text_bytes : Spells sections.text out.text.items
  pub data_bytes : Spells sections.data_pieces out.data.items

-- the bytes are those of the answer
abbrev pub Outputs : Output → Result Sections AsmErr → Type 0
Outputs out (Ok sections) = HoldsSections sections out
Outputs out (Err e) = ⊥
