-- Bytes that are the words of instructions.
use Rattle.std.proofs.Common.{◌≡◌, ℕ, ◌<◌, ◌^◌, List, [], ◌∷◌, ◌++◌, take, refl, sym, ◌∙◌, ap}
use Rattle.std.specs.Prelude.{Some}
use Rattle.std.specs.Int.{w32, to_le_bytes, bytes_low_first}
use Rattle.std.proofs.lemmas.Nat.{from_le_bytes-to_le_bytes_4}
use Rattle.std.proofs.lemmas.List.{append-nil}
use Rattle.rv_inst.specs.Decoding.{decoded_m}
use Rattle.rv_inst.specs.declared.instruction.Instr.{Instr}
use Rattle.rv_asm.specs.declared.operations.Width.{Width}
use Rattle.rv_asm.specs.declared.operations.Width.TheVariants as width
use Rattle.rv_asm.specs.Operands.{bytes_of_width}
use Rattle.rv_asm.specs.Pieces.{Piece, Word}
use Rattle.rv_asm.specs.Spelling.{SpellsPiece, Spells}

pub word-spelt : (i : Instr) (w : ℕ) → w < 2 ^ 32 → decoded_m w ≡ Some i → SpellsPiece (Word i) (to_le_bytes w32 w)
word-spelt i w small e = (refl, ap decoded_m (from_le_bytes-to_le_bytes_4 w small) ∙ e)

pub one-spelt : (piece : Piece) (bytes : List ℕ) → SpellsPiece piece bytes → Spells (piece ∷ []) bytes
one-spelt piece bytes h = record { front = bytes; back = []; whole = sym (append-nil bytes); first = h; others = refl }

pub two-spelt : (piece other : Piece) (bytes more : List ℕ) → SpellsPiece piece bytes → SpellsPiece other more → Spells (piece ∷ other ∷ []) (bytes ++ more)
two-spelt piece other bytes more h k = record { front = bytes; back = more; whole = refl; first = h; others = one-spelt other more k }

pub low-bytes : (width : Width) (w : ℕ) → take (bytes_of_width width) (to_le_bytes w32 w) ≡ bytes_low_first 0 (bytes_of_width width) w
low-bytes width.Byte w = refl
low-bytes width.Half w = refl
low-bytes width.Word w = refl

pub ruleset low = (low-bytes)

pub ruleset spelling = (word-spelt, one-spelt, two-spelt)
