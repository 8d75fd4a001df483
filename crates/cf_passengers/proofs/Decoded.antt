-- What is read from a word is an instruction of the set.
use Rattle.std.proofs.Common.{◌≡◌, ℕ, Option, Some, subst}
use Rattle.std.specs.Prelude.{IfSome}
use Rattle.rv_inst.specs.declared.instruction.Instr.{Instr}
use Rattle.rv_inst.specs.declared.isa.Isa.{Isa}
use Rattle.rv_inst.specs.declared.isa.Isa.TheVariants.{Rv32i, Rv32im}
use Rattle.rv_inst.specs.Ranges.{Fits}
use Rattle.rv_inst.specs.Decoding.{decoded, decoded_m, decoded_as}
use Rattle.rv_inst.proofs.Bounds.{decoded_fits, decoded_m_fits}
use Rattle.rv_inst.proofs.Reading.{decoded-is_base}
use Rattle.cf_passengers.specs.Facts.{IsInstruction}

-- a fact about the value of an option, if the value is known
of_value : {A : Type 0} (o : Option A) (x : A) (P : A → Type 0) → IfSome o P → o ≡ Some x → P x
of_value {A = A} o x P h e = let Q : Option A → Type 0 = λ u. IfSome u P in subst Q e h

-- a word of the set is read as one of its instructions
pub decoded-instruction : (isa : Isa) (w : ℕ) (i : Instr) → decoded_as isa w ≡ Some i → IsInstruction isa i
unfolding decoded_as
decoded-instruction Rv32i w i e = record { fits = of_value (decoded w) i Fits (decoded_fits w) e; base = λ s. decoded-is_base w i e }
decoded-instruction Rv32im w i e = record { fits = of_value (decoded_m w) i Fits (decoded_m_fits w) e; base = λ s. absurd (cc) }

pub ruleset decoding = (decoded-instruction)
