-- The position of a line: in the text or in the data, after the earlier lines.
use Rattle.std.specs.Prelude.{ℕ, ◌≤◌, ◌+◌, ◌%◌, ◌==◌, ◌&&◌, ◌||◌, not, nat_lt, true, Result, Ok, Err, List, if◌then◌else◌}
use Rattle.rv_asm.specs.declared.refusal.AsmKind.{AsmKind}
use Rattle.rv_asm.specs.declared.refusal.AsmKind.TheVariants.{Misplaced, TooLarge}
use Rattle.rv_asm.specs.declared.place.SectionPlace.{SectionPlace}
use Rattle.texts.specs.Answers.{and_then}
use Rattle.rv_asm.specs.Items.{SourceItem, Section, size_of, is_code}
use Rattle.rv_asm.specs.Reading.{statement_read}

-- the beginning of an empty text
abbrev pub start_of_text : SectionPlace
start_of_text = record { in_text = true; text_len = 0; data_len = 0 }

-- the text starts at 0x10000, the data at 0x200000
unfoldable pub section_address : SectionPlace → ℕ
section_address place = if place.in_text then 0x10000 + place.text_len else 0x200000 + place.data_len

-- the length of the section of a position
abbrev pub length_at : SectionPlace → ℕ
length_at place = if place.in_text then place.text_len else place.data_len

-- this many bytes further
abbrev pub grown : SectionPlace → ℕ → SectionPlace
grown place size =
    if place.in_text then record place { text_len = place.text_len + size }
    else record place { data_len = place.data_len + size }

-- the position after an item
unfoldable pub place_after : SectionPlace → SourceItem → SectionPlace
place_after place (Section in_text) = record place { in_text = in_text }
place_after place item = grown place (size_of item)

-- the item may be placed there: instructions only in the text at a multiple of 4; and with the item the section is at
-- most 1,048,576 bytes long
unfoldable pub fits_at : SectionPlace → SourceItem → Result (Unit {0}) AsmKind
fits_at place item =
    if is_code item && (not place.in_text || not (section_address place % 4 == 0)) then Err Misplaced
    else if nat_lt 1048576 (length_at place + size_of item) then Err (TooLarge (length_at place + size_of item))
    else Ok tt

-- the item of a statement at a position
unfoldable pub item_at : SectionPlace → List ℕ → Result SourceItem AsmKind
item_at place text =
    and_then (statement_read (section_address place) text) (λ item. and_then (fits_at place item) (λ u. Ok item))

-- both sections are at most 1,048,576 bytes long
pub record IsPlaceInLimits (place : SectionPlace) : Type 0 where
  pub text : place.text_len ≤ 1048576
  pub data_section : place.data_len ≤ 1048576
