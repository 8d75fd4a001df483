-- The fields of what is read are in range.
use Rattle.std.proofs.Common.{◌≡◌, ℕ, ◌<◌, ◌^◌, Bool, true, false, refl, subst, arith, lit<}
use Rattle.std.specs.Prelude.{ℤ, Result, Ok, Err, IfOk}
use Rattle.std.proofs.lemmas.Int.{ints}
use Rattle.std.proofs.lemmas.Bool.Decides.{nat_tests}
use Rattle.rv_inst.specs.Ranges.{Fits, IsWithin, IsEven}
use Rattle.rv_inst.specs.declared.instruction.Instr.{Instr}
use Rattle.rv_inst.specs.declared.instruction.Instr.TheVariants as instr
use Rattle.rv_text.specs.declared.statement.Jump.{Jump}
use Rattle.rv_text.specs.declared.statement.Jump.TheVariants as jump
use Rattle.rv_text.specs.declared.text_err.TextErr.{TextErr}
use Rattle.texts.specs.Answers.{and_then}
use Rattle.rv_text.specs.Reading.{aimed, is_distance, if_fits}
use Rattle.rv_asm.specs.Seen.{JumpFits}

-- a distance that fits
pub is_distance-fits : (half : ℕ) (z : ℤ) → 0 < half → is_distance half z ≡ true → IsWithin half z × IsEven z
unfolding is_distance
is_distance-fits half z h e = (grind (arith, ints, nat_tests), grind (arith, ints, nat_tests))

if_fits-fits : (b : Bool) (i j : Instr) (z : ℤ) → (b ≡ true → Fits i) → if_fits b i z ≡ Ok j → Fits j
if_fits-fits true i j z h e = let same : i ≡ j = cc in subst (λ k. Fits k) same (h refl)
if_fits-fits false i j z h e = absurd (cc)

pub aimed-fits : (j : Jump) (z : ℤ) (i : Instr) → aimed j z ≡ Ok i → JumpFits j → Fits i
unfolding aimed
aimed-fits (jump.Link rd) z i e h =
    if_fits-fits (is_distance (2 ^ 20) z) (instr.Jal rd z) i z (λ t. let f = is_distance-fits (2 ^ 20) z (lit< tt) t in (h, f.0, f.1)) e
aimed-fits (jump.Branch c rs1 rs2) z i e h =
    if_fits-fits (is_distance (2 ^ 12) z) (instr.Branch c rs1 rs2 z) i z (λ t. let f = is_distance-fits (2 ^ 12) z (lit< tt) t in (h.0, h.1, f.0, f.1)) e

pub ruleset jumps = (aimed-fits)

-- an answer computed in steps has the property that its last step ensures
pub ok_then : {A B : Type 0} (P : A → Type 0) (Q : B → Type 0) (x : Result A TextErr) (step : A → Result B TextErr)
    → IfOk x P → ((a : A) → P a → IfOk (step a) Q) → IfOk (and_then x step) Q
ok_then P Q (Ok a) step h k = k a h
ok_then P Q (Err e) step h k = tt
