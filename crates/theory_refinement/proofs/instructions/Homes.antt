-- A processor reads only instructions for which it has units or a siding.
use Rattle.std.proofs.Common.{◌≡◌, ℕ, Some, Bool, true, false, refl, sym, ap, ◌∙◌, arith, IsTrue}
use Rattle.std.specs.Prelude.{◌&&◌}
use Rattle.mem_regions.specs.Memory.{Memory}
use Rattle.rv_inst.specs.declared.classes.Class.{Class}
use Rattle.rv_inst.specs.declared.classes.Class.TheVariants.{Mul, Div}
use Rattle.rv_inst.specs.declared.instruction.Instr.{Instr}
use Rattle.rv_inst.specs.declared.isa.Isa.{Isa}
use Rattle.rv_inst.specs.declared.isa.Isa.TheVariants.{Rv32i}
use Rattle.rv_inst.specs.Decoding.{decoded_as}
use Rattle.rv_inst.specs.Encoding.{is_base}
use Rattle.rv_inst.proofs.Reading.{decoded-is_base}
use Rattle.cf_layout.specs.Layout.{Plan, has_mul, is_homed}
use Rattle.cf_semantics.specs.moves.Instructions.{kind_of, fetched, Got}
use Rattle.cf_semantics.specs.state.Layouts.{isa_of}
use Rattle.theory_refinement.proofs.invariant.Suited.{Suits, is_plain, is_extra}
use Rattle.theory_refinement.proofs.instructions.Steps.{fetched_is}

-- the base set has no instruction of the extension
base_plain : (i : Instr) → IsTrue (is_base i) → is_extra (kind_of i) ≡ false
unfolding kind_of
base_plain i b = grind arith

both : (a b : Bool) → (a && b) ≡ true → (a ≡ true) × (b ≡ true)
both true true e = (refl, refl)
both true false e = absurd (cc)
both false b e = absurd (cc)

-- a class of the extension has a home if the processor multiplies and divides
extra_homed : (l : Plan) (c : Class) → has_mul l ≡ true → is_extra c ≡ true → is_homed l c ≡ true
unfolding has_mul
extra_homed l Mul m e = (both (is_homed l Mul) (is_homed l Div) m).0
extra_homed l Div m e = (both (is_homed l Mul) (is_homed l Div) m).1
extra_homed l _ m e = absurd (cc)

read_base : (w : ℕ) (i : Instr) → decoded_as Rv32i w ≡ Some i → IsTrue (is_base i)
unfolding decoded_as
read_base w i e = decoded-is_base w i e

pub fetched_homed : (l : Plan) → Suits l → (mem : Memory) (pc : ℕ) (i : Instr) → fetched (isa_of l) mem pc ≡ Got i → is_plain (kind_of i) ≡ true →
    is_homed l (kind_of i) ≡ true
fetched_homed l acc mem pc i f p = go (has_mul l) (is_extra (kind_of i)) refl refl
  where
    go : (m e : Bool) → has_mul l ≡ m → is_extra (kind_of i) ≡ e → is_homed l (kind_of i) ≡ true
    go m false h k = acc.basic (kind_of i) p k
    go true true h k = extra_homed l (kind_of i) h k
    go false true h k =
        let q = fetched_is (isa_of l) mem pc i f in
        let base : isa_of l ≡ Rv32i = rw h refl in
        let r : decoded_as Rv32i q.word ≡ Some i = ap (λ (s : Isa). decoded_as s q.word) (sym base) ∙ q.read in
        absurd (let z = base_plain i (read_base q.word i r) in cc)
