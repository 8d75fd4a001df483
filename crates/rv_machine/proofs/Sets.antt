-- The instructions of RV32IM that are also in RV32I.
use Rattle.std.proofs.Common.{◌≡◌, ◌∙◌, ℕ, Bool, true, false, IsTrue, Option, Some, None, if◌then◌else◌, sym, subst, refl, arith}
use Rattle.std.specs.Prelude.{IfSome}
use Rattle.rv_inst.specs.declared.isa.Isa.{Isa}
use Rattle.rv_inst.specs.declared.isa.Isa.TheVariants.{Rv32i, Rv32im}
use Rattle.rv_inst.specs.declared.instruction.Instr.{Instr}
use Rattle.rv_inst.specs.Decoding.{decoded, decoded_m, decoded_as}
use Rattle.rv_inst.specs.Encoding.{is_base}
use Rattle.rv_inst.specs.Ranges.{Fits}
use Rattle.rv_inst.proofs.Table.{decoded_complete, decoded_m_complete}
use Rattle.rv_inst.proofs.Reading.{decoded-encodes, decoded-is_base, decoded_m-encodes}
use Rattle.rv_inst.proofs.Bounds.{decoded_m_fits}
use Rattle.rv_machine.specs.Decoded.{in_set}

-- an instruction of RV32I is read in both sets
read-in-both : (w : ℕ) (i : Instr) → decoded w ≡ Some i → decoded_m w ≡ Some i
read-in-both w i e = decoded_m_complete w i (decoded-encodes w i e)

-- if the larger set has an instruction of the M extension, the smaller one has no instruction
lacking : (w : ℕ) (i : Instr) (o : Option Instr) → decoded w ≡ o → decoded_m w ≡ Some i → is_base i ≡ false → o ≡ None
lacking w i None d e base = refl
lacking w i (Some j) d e base =
    let f : decoded_m w ≡ Some j = read-in-both w j d in
    let b : IsTrue (is_base j) = decoded-is_base w j d in
    let same : j ≡ i = grind arith in cc

base-of : (w : ℕ) (i : Instr) (b : Bool) → is_base i ≡ b → decoded_m w ≡ Some i → (if b then Some i else None) ≡ decoded w
base-of w i true base e = sym (decoded_complete w i base (decoded_m-encodes w i e))
base-of w i false base e = sym (lacking w i (decoded w) refl e base)

all-of : (i : Instr) (b : Bool) → (if b then Some i else Some i) ≡ Some i
all-of i true = refl
all-of i false = refl

-- the instruction of the set is that of the larger set, if the set has it
pub set-read : (isa : Isa) (w : ℕ) (i : Instr) → decoded_m w ≡ Some i → in_set isa i ≡ decoded_as isa w
unfolding decoded_as in_set
set-read Rv32i w i e = base-of w i (is_base i) refl e
set-read Rv32im w i e = all-of i (is_base i) ∙ sym e

-- a word that encodes nothing in the larger set encodes nothing in either
unread : (w : ℕ) (o : Option Instr) → decoded w ≡ o → decoded_m w ≡ None → o ≡ None
unread w None d e = refl
unread w (Some j) d e = let f : decoded_m w ≡ Some j = read-in-both w j d in cc

pub set-unknown : (isa : Isa) (w : ℕ) → decoded_m w ≡ None → decoded_as isa w ≡ None
unfolding decoded_as
set-unknown Rv32i w e = unread w (decoded w) refl e
set-unknown Rv32im w e = e

-- the fields of an instruction that is read are in range
of_some : {A : Type 0} (o : Option A) (x : A) (P : A → Type 0) → IfSome o P → o ≡ Some x → P x
of_some {A = A} o x P h e = let Q : Option A → Type 0 = λ u. IfSome u P in subst Q e h

pub set-fits : (w : ℕ) (i : Instr) → decoded_m w ≡ Some i → Fits i
set-fits w i e = of_some (decoded_m w) i (λ j. Fits j) (decoded_m_fits w) e

part-fits : (i : Instr) (b : Bool) (o : Option Instr) → Fits i → IfSome o (λ j. Fits j) →
    IfSome (if b then Some i else o) (λ j. Fits j)
part-fits i true o fits other = fits
part-fits i false o fits other = other

pub set-fit : (isa : Isa) (w : ℕ) (i : Instr) → decoded_m w ≡ Some i → IfSome (in_set isa i) (λ j. Fits j)
unfolding in_set
set-fit Rv32i w i e = part-fits i (is_base i) None (set-fits w i e) tt
set-fit Rv32im w i e = part-fits i (is_base i) (Some i) (set-fits w i e) (set-fits w i e)

pub ruleset sets = (set-read, set-fit)
