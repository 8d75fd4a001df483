-- What holds of all stages is the same if it is the same of one stage with other contents.
use Rattle.std.proofs.Common.{◌≡◌, ◌≢◌, ◌∙◌, ℕ, Some, Bool, true, false, refl, sym, ap, arith}
use Rattle.std.specs.Prelude.{nat_eq}
use Rattle.std.proofs.lemmas.Bool.Decides.{nat_tests}
use Rattle.cf_bind.specs.declared.cell.Cell.{Cell}
use Rattle.cf_layout.specs.Layout.{Plan}
use Rattle.cf_semantics.specs.state.State.{State, cell_at, put_cell, with_cell}
use Rattle.cf_stages.proofs.Parts.{cell-put, stage-high, stage-low}
use Rattle.cf_core.specs.Marks.{mark_at}
use Rattle.cf_core.proofs.Bits.{SameBut}
use Rattle.cf_core.proofs.SameMarks.{beside, cell-but, mark_by, mark_is}

-- the same holds of each stage
abbrev pub Same : Plan → State → State → Type 0
Same plan s t = (k : ℕ) → mark_at plan t k ≡ mark_at plan s k

pub unchanged : (plan : Plan) (s : State) → Same plan s s
unchanged plan s k = refl

pub both : (plan : Plan) (s t u : State) → Same plan s t → Same plan t u → Same plan s u
both plan s t u one two k = two k ∙ one k

-- A stage with other contents --

pub one_stage : (plan : Plan) (s t : State) (i : ℕ) → SameBut plan s t i i → mark_at plan t i ≡ mark_at plan s i → Same plan s t
one_stage plan s t i but here k = by_stage (nat_eq k i) refl
  where
    by_stage : (b : Bool) → nat_eq k i ≡ b → mark_at plan t k ≡ mark_at plan s k
    by_stage true e = let z : k ≡ i = grind (arith, nat_tests) in rw z here
    by_stage false e = let off : k ≢ i = grind (arith, nat_tests) in but k off off

pub mark_put : (plan : Plan) (s : State) (i : ℕ) (b c : Cell) → cell_at s.cells i ≡ Some b → mark_at plan (with_cell s i c) i ≡ mark_by plan s i (Some c)
mark_put plan s i b c here =
    mark_is plan (with_cell s i c) i
    ∙ ap (mark_by plan (with_cell s i c) i) (cell-put s.cells i c (stage-low s.cells i b here) (stage-high s.cells i b here))
    ∙ beside plan s (put_cell s.cells i c) i (Some c)

pub put_same : (plan : Plan) (s : State) (i : ℕ) (b c : Cell) → cell_at s.cells i ≡ Some b → mark_by plan s i (Some c) ≡ mark_by plan s i (Some b) →
    Same plan s (with_cell s i c)
put_same plan s i b c here same =
    one_stage plan s (with_cell s i c) i (cell-but plan s i i c) (mark_put plan s i b c here ∙ same ∙ sym (mark_is plan s i ∙ ap (mark_by plan s i) here))
