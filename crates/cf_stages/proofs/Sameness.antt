-- Two lists of stages are the same if each stage has the same contents in both.
use Rattle.std.proofs.Common.{◌≡◌, ◌∙◌, ℕ, suc, ◌+◌, ◌<◌, inl, inr, List, [], ◌∷◌, Some, length, refl, sym, ap, arith}
use Rattle.std.specs.Prelude.{slice_get}
use Rattle.std.proofs.Math.Nat.{eq-or-lt_of_le}
use Rattle.cf_bind.specs.declared.cell.Cell.{Cell}
use Rattle.cf_semantics.specs.state.State.{cell_at}

-- the lowest stages, this many, are the same
abbrev pub AreSame : List Cell → List Cell → ℕ → Type 0
AreSame cells other n = (k : ℕ) → k < n → slice_get cells k ≡ slice_get other k

pub none-same : (cells other : List Cell) → AreSame cells other 0
none-same cells other k h = absurd (omega arith)

pub more-same : (cells other : List Cell) (n : ℕ) (c d : Cell) → AreSame cells other n → Some c ≡ cell_at cells (n + 1) → Some d ≡ cell_at other (n + 1) →
    c ≡ d → AreSame cells other (n + 1)
more-same cells other n c d same e f is k h = elim (eq-or-lt_of_le {n = k} {m = n} (omega arith)) [
  | inl at ↦ rw at (here (sym e ∙ ap Some is ∙ f))
  | inr below ↦ same k below
]
  where
    here : cell_at cells (n + 1) ≡ cell_at other (n + 1) → slice_get cells n ≡ slice_get other n
    here e = let z : n + 1 ≡ suc n = omega arith in rw z at e

pub all-same : (cells other : List Cell) → length cells ≡ length other → AreSame cells other (length cells) → cells ≡ other
all-same [] [] e same = refl
all-same [] (d ∷ other) e same = absurd (cc)
all-same (c ∷ cells) [] e same = absurd (cc)
all-same (c ∷ cells) (d ∷ other) e same =
    let first : Some c ≡ Some d = same 0 (omega arith) in
    let head : c ≡ d = cc in
    rw head (ap (λ (l : List Cell). d ∷ l) (all-same cells other (omega arith) (λ k h. same (suc k) (omega arith))))
