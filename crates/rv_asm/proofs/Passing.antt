-- Steps, none of which was refused.
use Rattle.std.proofs.Common.{◌≡◌, ℕ, refl}
use Rattle.std.specs.Prelude.{Result, Ok, Err}
use Rattle.rv_asm.specs.declared.refusal.AsmKind.{AsmKind}
use Rattle.texts.specs.Answers.{and_then}
use Rattle.rv_asm.specs.Assembling.{at_line}

-- the answer of the first step, from which the second step computes the last answer
pub record Passes {A B E : Type 0} (x : Result A E) (step : A → Result B E) (last : B) : Type 0 where
  pub first : A
  pub is : x ≡ Ok first
  pub goes : step first ≡ Ok last

pub passes : {A B E : Type 0} (x : Result A E) (step : A → Result B E) (last : B) → and_then x step ≡ Ok last → Passes x step last
passes (Ok a) step last e = record { first = a; is = refl; goes = e }
passes (Err k) step last e = absurd (cc)

pub passes_line : {A : Type 0} (line : ℕ) (x : Result A AsmKind) (a : A) → at_line line x ≡ Ok a → x ≡ Ok a
passes_line line (Ok b) a e = let same : b ≡ a = cc in cc
passes_line line (Err k) a e = absurd (cc)
