-- The sizes by which the first pass places the lines are the lengths of what the second pass writes there.
use Rattle.std.specs.Prelude.{◌≡◌, ℕ, ◌+◌, List, [], ◌∷◌, length, Result, Ok, Err}
use Rattle.rv_asm.specs.declared.refusal.AsmErr.{AsmErr}
use Rattle.rv_asm.specs.Places.{IsPlaceInLimits}
use Rattle.rv_asm.specs.Pieces.{Piece, Word, Bytes}
use Rattle.rv_asm.specs.Assembling.{Sections}

-- how many bytes a piece has
abbrev pub piece_length : Piece → ℕ
piece_length (Word i) = 4
piece_length (Bytes bytes) = length bytes

abbrev pub pieces_size : List Piece → ℕ
pieces_size [] = 0
pieces_size (piece ∷ pieces) = piece_length piece + pieces_size pieces

-- each section is as long as the final position says, and at most 1,048,576 bytes long
pub record AreSized (sections : Sections) : Type 0 where
  pub text : pieces_size sections.text ≡ sections.place.text_len
  pub data_section : pieces_size sections.data_pieces ≡ sections.place.data_len
  pub place : IsPlaceInLimits sections.place

-- this holds for the sections that a source represents
abbrev pub IsSized : Result Sections AsmErr → Type 0
IsSized (Ok sections) = AreSized sections
IsSized (Err e) = Unit {0}
