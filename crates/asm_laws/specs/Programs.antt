-- The program that lines of assembly represent: a list of placed items (GNU as, "Sections and Relocation"; RISC-V
-- Assembly Programmer's Manual).
use Rattle.std.specs.Prelude.{◌≡◌, ℕ, Bool, false, List, [], ◌∷◌, ◌++◌, length, take, drop, map, Option, Some, None, Result, Ok, if◌then◌else◌}
use Rattle.rv_asm.specs.declared.object.Object.{Object}
use Rattle.rv_asm.specs.declared.place.SectionPlace.{SectionPlace}
use Rattle.rv_asm.specs.Scanning.{said, label_in, statement_in}
use Rattle.rv_asm.specs.Items.{SourceItem}
use Rattle.rv_asm.specs.Places.{start_of_text, section_address, length_at, place_after, item_at}
use Rattle.rv_asm.specs.Labels.{LabelView}
use Rattle.rv_asm.specs.Pieces.{Piece, pieces_of}
use Rattle.rv_asm.specs.Sized.{pieces_size}
use Rattle.rv_asm.specs.Spelling.{Spells}

-- a placed item: its position, the item, and the instructions and bytes that it places
pub record Placed : Type 0 where
  pub place : SectionPlace
  pub item : SourceItem
  pub pieces : List Piece

-- given the labels' values, the line denotes this item at the position
pub record LineStandsFor (labels : List LabelView) (here : SectionPlace) (line : List ℕ) (placed : Placed) : Type 0 where
  pub place : placed.place ≡ here
  pub item : item_at here (statement_in (said line)) ≡ Ok placed.item
  pub pieces : pieces_of labels (section_address here) placed.item ≡ Ok placed.pieces

-- each line denotes its item, which is placed after the item before it; the last item ends at this position
abbrev pub AllStand : List LabelView → SectionPlace → List (List ℕ) → List Placed → SectionPlace → Type 0
AllStand labels place [] [] end = place ≡ end
AllStand labels place [] (p ∷ ps) end = ⊥
AllStand labels place (line ∷ lines) [] end = ⊥
AllStand labels place (line ∷ lines) (p ∷ ps) end =
    LineStandsFor labels place line p × AllStand labels (place_after place p.item) lines ps end

-- the section of a position
abbrev pub placed_section : Object → SectionPlace → List ℕ
placed_section object place = if place.in_text then object.text_bytes else object.data_bytes

-- the item's instructions and bytes are in its section at the item's position: a word there decodes to its instruction,
-- and bytes are unchanged
abbrev pub IsThere : Object → Placed → Type 0
IsThere object p =
    Spells p.pieces (take (pieces_size p.pieces) (drop (length_at p.place) (placed_section object p.place)))

abbrev pub AreThere : Object → List Placed → Type 0
AreThere object [] = Unit {0}
AreThere object (p ∷ ps) = IsThere object p × AreThere object ps

-- the label of a line, which has the address of the line
abbrev pub label_of : Option (List ℕ) → SectionPlace → List LabelView
label_of None place = []
label_of (Some name) place =
    record { name = name; value = section_address place; in_text = place.in_text; global = false } ∷ []

-- the labels of lines, each at the position of its line's item
abbrev pub labels_of : List (List ℕ) → List Placed → List LabelView
labels_of [] ps = []
labels_of (line ∷ lines) [] = []
labels_of (line ∷ lines) (p ∷ ps) = label_of (label_in (said line)) p.place ++ labels_of lines ps

-- a label, whether or not it is exported
abbrev pub unexported : LabelView → LabelView
unexported label = record label { global = false }

-- the object is the program of the lines
pub record IsProgram (lines : List (List ℕ)) (object : Object) : Type 0 where
  pub items : List Placed
  pub end : SectionPlace
  pub stand : AllStand object.labels start_of_text lines items end
  pub there : AreThere object items
  pub text : length object.text_bytes ≡ end.text_len
  pub data_section : length object.data_bytes ≡ end.data_len
  pub labels : map unexported object.labels ≡ labels_of lines items
