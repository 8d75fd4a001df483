-- What an item places when the labels' values are known: instructions, and bytes.
use Rattle.std.specs.Prelude.{ℕ, ℤ, pos, Result, Ok, Err, List, [], ◌∷◌, ◌++◌, replicate, if◌then◌else◌}
use Rattle.std.specs.Int.{bytes_low_first}
use Rattle.rv_inst.specs.Words.{word_difference}
use Rattle.rv_inst.specs.declared.instruction.Instr.{Instr}
use Rattle.rv_text.specs.declared.text_err.TextErr.{TextErr}
use Rattle.rv_text.specs.declared.text_err.TextErr.TheVariants.{OutOfRange}
use Rattle.rv_text.specs.declared.statement.Jump.{Jump}
use Rattle.rv_text.specs.Reading.{aimed, distance_of}
use Rattle.rv_asm.specs.declared.refusal.AsmKind.{AsmKind}
use Rattle.rv_asm.specs.declared.refusal.AsmKind.TheVariants.{Text, NoLabel, TooFar}
use Rattle.rv_asm.specs.declared.operations.Width.{Width}
use Rattle.texts.specs.Answers.{and_then, needed}
use Rattle.rv_asm.specs.Answers.{as_text}
use Rattle.rv_asm.specs.Operands.{names_label, number_of_width, bytes_of_width}
use Rattle.rv_asm.specs.Items.{SourceItem, Nothing, Section, Export, Single, Double, Near, Distant, Numbers, Chars, Zeros}
use Rattle.rv_asm.specs.Pseudos.{word_modulo, reaching}
use Rattle.rv_asm.specs.Labels.{LabelView, value_of_label}

-- a part of a section: the word of an instruction, or bytes
pub data Piece : Type 0 where
  Word : Instr → Piece
  Bytes : List ℕ → Piece

-- the value of a label, or a refusal if it is not defined
abbrev pub label_value : List LabelView → List ℕ → Result ℕ AsmKind
label_value labels name = needed NoLabel (value_of_label labels name)

-- the instruction over a distance, or a refusal if the distance is too far
abbrev pub nearby : Result Instr TextErr → Result Instr AsmKind
nearby (Ok i) = Ok i
nearby (Err (OutOfRange z)) = Err (TooFar z)
nearby (Err e) = Err (Text e)

-- the jump or the branch at an address to a label
unfoldable pub near_instr : List LabelView → ℕ → Jump → List ℕ → Result Instr AsmKind
near_instr labels pc jump label =
    and_then (label_value labels label) (λ v. nearby (aimed jump (distance_of (pos v) pc)))

-- the number that an operand denotes
unfoldable pub operand_value : List LabelView → Width → List ℕ → Result ℤ AsmKind
operand_value labels width operand =
    if names_label width operand then and_then (label_value labels operand) (λ v. Ok (pos v))
    else as_text (number_of_width width operand)

-- the bytes so far, and after them those of the operands, the low byte of each first
abbrev pub bytes_from : List LabelView → Width → List ℕ → List (List ℕ) → Result (List ℕ) AsmKind
bytes_from labels width bytes [] = Ok bytes
bytes_from labels width bytes (operand ∷ operands) =
    and_then (operand_value labels width operand)
    (λ z. bytes_from labels width (bytes ++ bytes_low_first 0 (bytes_of_width width) (word_modulo z)) operands)

-- the instructions of an item
abbrev pub instruction_pieces : SourceItem → List Piece
instruction_pieces (Single i) = Word i ∷ []
instruction_pieces (Double i j) = Word i ∷ Word j ∷ []
instruction_pieces _ = []

-- what an item places at an address
unfoldable pub pieces_of : List LabelView → ℕ → SourceItem → Result (List Piece) AsmKind
pieces_of labels pc Nothing = Ok []
pieces_of labels pc (Section in_text) = Ok []
pieces_of labels pc (Export name) = and_then (label_value labels name) (λ v. Ok [])
pieces_of labels pc (Single i) = Ok (Word i ∷ [])
pieces_of labels pc (Double i j) = Ok (Word i ∷ Word j ∷ [])
pieces_of labels pc (Near jump label) = and_then (near_instr labels pc jump label) (λ i. Ok (Word i ∷ []))
pieces_of labels pc (Distant far label) = and_then (label_value labels label) (λ v. Ok (instruction_pieces (reaching far (word_difference v pc))))
pieces_of labels pc (Numbers width operands) = and_then (bytes_from labels width [] operands) (λ bytes. Ok (Bytes bytes ∷ []))
pieces_of labels pc (Chars bytes zero) = Ok (Bytes (bytes ++ (if zero then 0 ∷ [] else [])) ∷ [])
pieces_of labels pc (Zeros count) = Ok (Bytes (replicate count 0) ∷ [])
