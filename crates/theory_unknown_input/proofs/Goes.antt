-- Steps that each find some input: more of them.
use Rattle.std.proofs.Common.{◌≡◌, ℕ, zero, suc, ◌+◌, List, [], ◌++◌, Option, Some, None, refl, sym, ap, subst, ◌∙◌, arith, append_assoc, append-nil}
use Rattle.rv_inst.specs.declared.isa.Isa.{Isa}
use Rattle.rv_machine.specs.After.{SameButInput, after, next_machine, step_from}
use Rattle.rv_machine.specs.Machine.{Machine}
use Rattle.rv_machine.specs.Outcome as outcome
use Rattle.rv_machine.specs.Step.{step}
use Rattle.cf_semantics.specs.moves.Instructions.{Goes, step_at, step_here, stepped}
use Rattle.cf_semantics.specs.runs.Lines.{Line, lines_at, sequence}
use Rattle.cf_semantics.specs.state.Options.{on}
use Rattle.theory_unknown_input.specs.UnknownInput.{GoesTo}

-- a machine that has made no step
pub goes_nowhere : (isa : Isa) (x : Machine) → GoesTo isa x 0 x []
unfolding GoesTo
goes_nowhere isa x = (record { hart = refl; output = refl }, refl)

-- what the machine finds of the input is left open
pub goes_same : (isa : Isa) (x0 x y : Machine) (n : ℕ) (written : List Line) → SameButInput x y → GoesTo isa x0 n x written → GoesTo isa x0 n y written
unfolding GoesTo
goes_same isa x0 x y zero written s (same, is) = (record { hart = s.hart ∙ same.hart; output = s.output ∙ same.output }, is)
goes_same isa x0 x y (suc n) written s (before, next, earlier, goes, steps, same, is) =
    (before, next, earlier, goes, steps, record { hart = s.hart ∙ same.hart; output = s.output ∙ same.output }, is)

-- a machine's step goes on to the machine that comes next
goes_here : (isa : Isa) (x y : Machine) → next_machine (step isa x) ≡ Some y → step_here isa x ≡ Goes y
unfolding step_at
goes_here isa x y e = of (step isa x) e
  where
    of : (o : outcome.Outcome Machine) → next_machine o ≡ Some y → stepped o ≡ Goes y
    of (outcome.Next m line) e = let z : m ≡ y = cc in ap Goes z
    of (outcome.Trap cause pc detail) e = absurd (cc)
    of (outcome.Exit status) e = absurd (cc)

-- the machine's own steps, which find the actual input, are such steps
pub goes_on : (isa : Isa) (x0 x y : Machine) (n g : ℕ) (written : List Line) → GoesTo isa x0 n x written → after isa x g ≡ Some y →
    GoesTo isa x0 (g + n) y (written ++ sequence isa x g)
unfolding after sequence GoesTo
goes_on isa x0 x y n zero written goes e =
    let same : x ≡ y = cc in
    let number : n ≡ 0 + n = omega arith in
    subst (λ (k : ℕ). GoesTo isa x0 k y (written ++ [])) number (subst (λ (z : Machine). GoesTo isa x0 n z (written ++ [])) same
    (subst (λ (l : List Line). GoesTo isa x0 n x l) (sym (append-nil written)) goes))
goes_on isa x0 x y n (suc g) written goes e =
    let number : suc (g + n) ≡ suc g + n = omega arith in
    subst (λ (k : ℕ). GoesTo isa x0 k y (written ++ sequence isa x (suc g))) number (of (after isa x g) refl e (λ z f. goes_on isa x0 x z n g written goes f))
  where
    of : (o : Option Machine) → after isa x g ≡ o → step_from isa o ≡ Some y → ((z : Machine) → after isa x g ≡ Some z →
        GoesTo isa x0 (g + n) z (written ++ sequence isa x g))
        → GoesTo isa x0 (suc (g + n)) y (written ++ (sequence isa x g ++ on (after isa x g) [] (lines_at isa)))
    of None f e before = absurd (cc)
    of (Some z) f e before = (
      z,
      y,
      written ++ sequence isa x g,
      before z f,
      goes_here isa z y e,
      record { hart = refl; output = refl },
      rw f (sym (append_assoc written (sequence isa x g) (lines_at isa z))),
    )
