-- The most cells of a siding, and the weight of the sidings, from one siding to the next.
use Rattle.std.proofs.Common.{◌≡◌, ℕ, zero, suc, ◌+◌, ◌<◌, ◌≤◌, List, [], ◌∷◌, All, Option, Some, length, map, drop, max, refl, sym, subst, ap, arith}
use Rattle.std.specs.Prelude.{slice_get, unwrap_or}
use Rattle.std.proofs.lemmas.Bool.Decides.{nat_tests}
use Rattle.std.proofs.lemmas.List.Elements.{All-tail}
use Rattle.cf_layout.specs.Layout.{Plan, SidingPlan, no_siding, cells_of}
use Rattle.cf_layout.specs.Accepted.{IsAccepted, IsSiding}
use Rattle.cf_bind.specs.declared.cell.Op.{Op}
use Rattle.cf_bind.specs.declared.cell.Cell.{Cell}
use Rattle.cf_semantics.specs.state.State.{State, cell_at}
use Rattle.cf_semantics.specs.claims.Weight.{cell_weight, cells_weight, larger, most_cells, siding_weight, sidings_weight}
use Rattle.cf_sidings.specs.Sidings.{cells_in}
use Rattle.cf_core.specs.Processors.{IsProcessor}
use Rattle.cf_core.proofs.Berths.{length-siding}

-- the maximum of two numbers, as it is computed
greater : (a b c : ℕ) → larger (max b a) c ≡ larger a (larger b c)
greater a b c = grind (arith, nat_tests)

-- the next siding is added to those before it
most_next : (sidings : List SidingPlan) (k most : ℕ) → k < length sidings →
    larger (max (unwrap_or (slice_get sidings k) no_siding).cells most) (most_cells (drop (suc k) sidings)) ≡ larger most (most_cells (drop k sidings))
unfolding most_cells
most_next [] k most h = absurd (omega arith)
most_next (siding ∷ sidings) zero most h = greater most siding.cells (most_cells sidings)
most_next (siding ∷ sidings) (suc k) most h = most_next sidings k most (omega arith)

pub most-next : (plan : Plan) (k most : ℕ) → k < length plan.sidings →
    larger (max (cells_of plan k) most) (most_cells (drop (k + 1) plan.sidings)) ≡ larger most (most_cells (drop k plan.sidings))
unfolding cells_of
most-next plan k most h = let next : k + 1 ≡ suc k = omega arith in rw (next) (most_next plan.sidings k most h)

-- after the last siding nothing is added
larger-none : (most : ℕ) → larger most 0 ≡ most
larger-none most = grind (arith, nat_tests)

pub most-last : (sidings : List SidingPlan) (k most : ℕ) → length sidings ≤ k → larger most (most_cells (drop k sidings)) ≡ most
unfolding most_cells
most-last [] zero most h = larger-none most
most-last [] (suc k) most h = larger-none most
most-last (siding ∷ sidings) zero most h = absurd (omega arith)
most-last (siding ∷ sidings) (suc k) most h = most-last sidings k most (omega arith)

pub ruleset greatest = (most-next, most-last)

weight_next : (sidings : List (List (Option Op))) (k : ℕ) → k < length sidings →
    sidings_weight (drop k sidings) ≡ siding_weight (length (cells_in sidings k)) 0 (cells_in sidings k) + sidings_weight (drop (suc k) sidings)
weight_next [] k h = absurd (omega arith)
weight_next (ops ∷ sidings) zero h = refl
weight_next (ops ∷ sidings) (suc k) h = weight_next sidings k (omega arith)

pub weight-next : (sidings : List (List (Option Op))) (k : ℕ) (ops : List (Option Op)) → k < length sidings → ops ≡ cells_in sidings k →
    sidings_weight (drop k sidings) ≡ siding_weight (length ops) 0 ops + sidings_weight (drop (k + 1) sidings)
weight-next sidings k ops h e = let next : k + 1 ≡ suc k = omega arith in rw (e, next) (weight_next sidings k h)

-- there are as many sidings as the layout says, and no siding has more than 8 cells
count : (sidings : List (List (Option Op))) (plans : List SidingPlan) → map length sidings ≡ map (λ siding. siding.cells) plans → length sidings ≡ length plans
count [] [] e = refl
count [] (p ∷ ps) e = absurd (cc)
count (o ∷ os) [] e = absurd (cc)
count (o ∷ os) (p ∷ ps) e = ap suc (count os ps (cc))

pub sidings-counted : (plan : Plan) (s : State) → IsProcessor plan s → length s.sidings ≡ length plan.sidings
sidings-counted plan s h = count s.sidings plan.sidings h.sidings

few : (plan : Plan) (sidings : List SidingPlan) (k : ℕ) → All (IsSiding plan) sidings → (unwrap_or (slice_get sidings k) no_siding).cells ≤ 8
few plan [] k h = omega arith
few plan (p ∷ ps) zero h = (h 0 p (omega arith)).cells.1
few plan (p ∷ ps) (suc k) h = few plan ps k (All-tail (IsSiding plan) p ps h)

pub few-cells : (plan : Plan) (k : ℕ) → IsAccepted plan → cells_of plan k ≤ 8
unfolding cells_of
few-cells plan k a = few plan plan.sidings k a.sidings

pub few-ops : (plan : Plan) (s : State) (k : ℕ) (ops : List (Option Op)) → IsProcessor plan s → ops ≡ cells_in s.sidings k → length ops ≤ 8
few-ops plan s k ops h e = rw (e, length-siding plan s k h) (few-cells plan k h.accepted)

pub ruleset weights = (weight-next, sidings-counted, few-cells, few-ops)

-- the next stage is added to those before it
stage_next : (n d i : ℕ) (cells : List Cell) (k : ℕ) (c : Cell) → slice_get cells k ≡ Some c →
    cells_weight n d i (drop k cells) ≡ cell_weight n d i c + cells_weight n d (suc i) (drop (suc k) cells)
stage_next n d i [] k c e = absurd (cc)
stage_next n d i (x ∷ cells) zero c e = let g : x ≡ c = cc in rw g refl
stage_next n d i (x ∷ cells) (suc k) c e = stage_next n d i cells k c e

pub stage-next : (n d : ℕ) (cells : List Cell) (k : ℕ) (c : Cell) → Some c ≡ cell_at cells (k + 1) →
    cells_weight n d (1 + k) (drop k cells) ≡ cell_weight n d (k + 1) c + cells_weight n d (1 + (k + 1)) (drop (k + 1) cells)
stage-next n d cells k c e =
    let z : k + 1 ≡ suc k = omega arith in
    let y : 1 + k ≡ suc k = omega arith in
    let x : 1 + suc k ≡ suc (suc k) = omega arith in
    rw (z, y, x) (stage_next n d (suc k) cells k c (sym (subst (λ (m : ℕ). Some c ≡ cell_at cells m) z e)))

-- after the last nothing is left
pub stage-last : (n d i : ℕ) (cells : List Cell) (k : ℕ) → length cells ≤ k → cells_weight n d i (drop k cells) ≡ 0
stage-last n d i [] zero h = refl
stage-last n d i [] (suc k) h = refl
stage-last n d i (c ∷ cells) zero h = absurd (omega arith)
stage-last n d i (c ∷ cells) (suc k) h = stage-last n d i cells k (omega arith)

pub ruleset stages = (stage-next, stage-last)
