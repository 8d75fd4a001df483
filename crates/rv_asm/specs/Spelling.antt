-- The bytes of a section: each instruction is a word that decodes to it, the low byte first (RISC-V Unprivileged ISA
-- Manual, "RV32I Base Integer Instruction Set"), and other bytes are themselves.
use Rattle.std.specs.Prelude.{◌≡◌, ◌⊎◌, ℕ, Some, Result, Ok, Err, List, [], ◌∷◌, ◌++◌, length}
use Rattle.std.specs.Int.{w32, from_le_bytes}
use Rattle.rv_inst.specs.Decoding.{decoded_m}
use Rattle.rv_asm.specs.declared.refusal.AsmKind.{AsmKind}
use Rattle.rv_asm.specs.declared.refusal.AsmKind.TheVariants.{NoMemory}
use Rattle.rv_asm.specs.Pieces.{Piece, Word, Bytes}

-- the bytes are those of the piece: four bytes whose word decodes to the instruction, or the piece's own bytes
abbrev pub SpellsPiece : Piece → List ℕ → Type 0
SpellsPiece (Word i) bytes = (length bytes ≡ 4) × (decoded_m (from_le_bytes w32 bytes) ≡ Some i)
SpellsPiece (Bytes own) bytes = bytes ≡ own

-- the bytes begin with those of the piece, and the following ones are the rest
pub record Begins (piece : Piece) (Rest : List ℕ → Type 0) (bytes : List ℕ) : Type 0 where
  pub front : List ℕ
  pub back : List ℕ
  pub whole : bytes ≡ front ++ back
  pub first : SpellsPiece piece front
  pub others : Rest back

-- the bytes are those of the pieces, one after another
abbrev pub Spells : List Piece → List ℕ → Type 0
Spells [] bytes = bytes ≡ []
Spells (piece ∷ pieces) bytes = Begins piece (Spells pieces) bytes

-- the bytes are those of the answer
abbrev pub GivesBytes : List ℕ → Result (List Piece) AsmKind → Type 0
GivesBytes bytes (Ok pieces) = Spells pieces bytes
GivesBytes bytes (Err kind) = ⊥

-- the refusal is the answer, unless there was not enough memory
abbrev pub IsRefusal : {A : Type 0} → AsmKind → Result A AsmKind → Type 0
IsRefusal kind answer = (kind ≡ NoMemory) ⊎ (answer ≡ Err kind)
