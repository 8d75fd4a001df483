-- What the table of encodings says about a word, for the functions that read and write words.
use Rattle.std.proofs.Common.{◌≡◌, ◌^◌, ℕ, ◌<◌, Option, Some, None, subst}
use Rattle.std.specs.Prelude.{IfSome, IfNone, IsTrue}
use Rattle.rv_inst.specs.declared.instruction.Instr.{Instr}
use Rattle.rv_inst.specs.Encoding.{Encodes, is_base}
use Rattle.rv_inst.specs.Decoding.{decoded, decoded_m}
use Rattle.rv_inst.proofs.Table.{decoded_sound, decoded_base, decoded_complete, decoded_m_sound, decoded_m_complete}
use Rattle.rv_inst.proofs.Bounds.{decoded_fits, decoded_m_fits}
use Rattle.rv_inst.proofs.OneWord.{Encodes-inj}

-- if nothing is read, the word encodes no instruction
pub decoded_none : (w : ℕ) (r : Option Instr) → r ≡ decoded w → IfNone r ((i : Instr) → IsTrue (is_base i) → Encodes w i → ⊥)
decoded_none w (Some i) e = tt
decoded_none w None e = λ i b h. let f : decoded w ≡ Some i = decoded_complete w i b h in cc

pub decoded_m_none : (w : ℕ) (r : Option Instr) → r ≡ decoded_m w → IfNone r ((i : Instr) → Encodes w i → ⊥)
decoded_m_none w (Some i) e = tt
decoded_m_none w None e = λ i h. let f : decoded_m w ≡ Some i = decoded_m_complete w i h in cc

-- a fact about an option's value, if the value is known
of_some : {A : Type 0} (o : Option A) (x : A) (P : A → Type 0) → IfSome o P → o ≡ Some x → P x
of_some {A = A} o x P h e = let Q : Option A → Type 0 = λ u. IfSome u P in subst Q e h

-- a word that is read as an instruction encodes that instruction
pub decoded_m-encodes : (w : ℕ) (i : Instr) → decoded_m w ≡ Some i → Encodes w i
decoded_m-encodes w i e = of_some (decoded_m w) i (Encodes w) (decoded_m_sound w) e

pub decoded-encodes : (w : ℕ) (i : Instr) → decoded w ≡ Some i → Encodes w i
decoded-encodes w i e = of_some (decoded w) i (Encodes w) (decoded_sound w) e

pub decoded-is_base : (w : ℕ) (i : Instr) → decoded w ≡ Some i → IsTrue (is_base i)
decoded-is_base w i e = of_some (decoded w) i (λ j. IsTrue (is_base j)) (decoded_base w) e

-- a word encodes at most one instruction
pub Encodes-unique : (w : ℕ) (i j : Instr) → Encodes w i → Encodes w j → i ≡ j
Encodes-unique w i j g h =
    let a : decoded_m w ≡ Some i = decoded_m_complete w i g in
    let b : decoded_m w ≡ Some j = decoded_m_complete w j h in cc

-- a word that encodes an instruction is the only word that is read as that instruction
pub encoded_once : (v : ℕ) (i : Instr) → v < 2 ^ 32 → Encodes v i → (w : ℕ) → w < 2 ^ 32 → decoded_m w ≡ Some i → v ≡ w
encoded_once v i a h w b e = Encodes-inj v w i a b h (decoded_m-encodes w i e)

pub ruleset reading = (decoded_sound, decoded_base, decoded_fits, decoded_none)

pub ruleset reading_m = (decoded_m_sound, decoded_m_fits, decoded_m_none)

pub ruleset writing = (decoded_complete, decoded_m_complete)

pub ruleset laws = (decoded_complete, decoded_m_complete, decoded_m-encodes, decoded-encodes, decoded-is_base, Encodes-unique, Encodes-inj)
