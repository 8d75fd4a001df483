-- The operands of directives and pseudo-instructions (RISC-V Assembly Programmer's Manual).
use Rattle.std.specs.Prelude.{ℕ, ◌+◌, Option, Some, None, ◌==◌, Bool, false, ℤ, pos, negsuc, Result, Ok, Err, List, [], ◌∷◌, length, map, if◌then◌else◌}
use Rattle.rv_text.specs.declared.text_err.TextErr.{TextErr}
use Rattle.rv_text.specs.declared.text_err.TextErr.TheVariants.{WrongCount}
use Rattle.rv_text.specs.Pieces.{trimmed, pieces, operand_count}
use Rattle.rv_text.specs.Fields.{number_operand}
use Rattle.rv_text.specs.Reading.{capped_count}
use Rattle.rv_asm.specs.declared.operations.Width.{Width}
use Rattle.rv_asm.specs.declared.operations.Width.TheVariants.{Byte, Half, Word}
use Rattle.texts.specs.Answers.{and_then}
use Rattle.rv_asm.specs.Scanning.{begins_name}

-- a text has this many operands
unfoldable pub count_is : ℕ → List ℕ → Result (Unit {0}) TextErr
count_is wanted text =
    if operand_count text == wanted then Ok tt else Err (WrongCount (capped_count (operand_count text)) wanted)

-- the operands of a text that has some: the pieces between its commas, without surrounding blanks
abbrev pub operand_texts : List ℕ → List (List ℕ)
operand_texts text = map trimmed (pieces text)

-- the remaining operands, if any text is left
abbrev pub operands_left : Option (List ℕ) → List (List ℕ)
operands_left None = []
operands_left (Some text) = operand_texts text

-- the length of the remaining text, including the comma before it
abbrev pub left_length : Option (List ℕ) → ℕ
left_length None = 0
left_length (Some text) = length text + 1

-- how many bytes a number takes
abbrev pub bytes_of_width : Width → ℕ
bytes_of_width Byte = 1
bytes_of_width Half = 2
bytes_of_width Word = 4

-- a number that fits the width, signed or unsigned
abbrev pub number_of_width : Width → List ℕ → Result ℤ TextErr
number_of_width Byte text = number_operand (negsuc 0x7f) (pos 0xff) text
number_of_width Half text = number_operand (negsuc 0x7fff) (pos 0xffff) text
number_of_width Word text = number_operand (negsuc 0x7fffffff) (pos 0xffffffff) text

-- an operand that names a label: an operand for a word that begins like a name
abbrev pub names_label : Width → List ℕ → Bool
names_label Byte text = false
names_label Half text = false
names_label Word text = begins_name text

-- an operand of a directive that places numbers: a label for a word, or a number that fits the width
unfoldable pub is_placeable : Width → List ℕ → Result (Unit {0}) TextErr
is_placeable width text =
    if names_label width text then Ok tt else and_then (number_of_width width text) (λ z. Ok tt)

-- the first refusal of the operands from left to right
abbrev pub are_placeable : Width → List (List ℕ) → Result (Unit {0}) TextErr
are_placeable width [] = Ok tt
are_placeable width (operand ∷ operands) = and_then (is_placeable width operand) (λ u. are_placeable width operands)
