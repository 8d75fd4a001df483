-- How many cells a siding has, and which cells exist.
use Rattle.std.proofs.Common.{get_or, None, ◌≡◌, ℕ, zero, suc, ◌-◌, ◌<◌, ◌≤◌, List, [], ◌∷◌, Option, Some, length, map, refl, ap, sym, subst, arith}
use Rattle.std.specs.Prelude.{IfSome, slice_get, unwrap_or}
use Rattle.std.proofs.lemmas.Option.{get_or_from_slice_get, slice_get_past, slice_get_within}
use Rattle.mem_regions.specs.Access.{Bounds}
use Rattle.cf_bind.specs.declared.cell.Op.{Op}
use Rattle.cf_layout.specs.Layout.{Plan, SidingPlan, no_siding, cells_of}
use Rattle.cf_semantics.specs.moves.Bars.{last_op}
use Rattle.cf_semantics.specs.state.Options.{on}
use Rattle.cf_semantics.specs.state.State.{State, siding_at}
use Rattle.cf_core.specs.Processors.{AreOps, IsOp, IsProcessor}

-- the siding of this number has as many cells as its plan says, and none if there is no such siding
counted : (sidings : List (List (Option Op))) (plans : List SidingPlan) (k : ℕ) → map length sidings ≡ map (λ siding. siding.cells) plans →
    length (on (slice_get sidings k) [] (λ ops. ops)) ≡ (unwrap_or (slice_get plans k) no_siding).cells
counted [] [] k e = refl
counted [] (p ∷ ps) k e = absurd (cc)
counted (o ∷ os) [] k e = absurd (cc)
counted (o ∷ os) (p ∷ ps) zero e = cc
counted (o ∷ os) (p ∷ ps) (suc k) e = counted os ps k (cc)

pub length-siding : (plan : Plan) (s : State) (k : ℕ) → IsProcessor plan s → length (siding_at s k) ≡ cells_of plan k
unfolding cells_of
length-siding plan s k h = counted s.sidings plan.sidings k h.sidings

-- there is no siding after the last
pub cells-none : (plan : Plan) (k : ℕ) → length plan.sidings ≤ k → cells_of plan k ≡ 0
unfolding cells_of
cells-none plan k h = ap (λ (o : Option SidingPlan). (unwrap_or o no_siding).cells) (slice_get_past plan.sidings k h)

-- the operation at the end is the one in the last cell
last_at : (cells : List (Option Op)) (n : ℕ) → length cells ≡ suc n → Some (last_op cells) ≡ slice_get cells n
last_at [] n e = absurd (omega arith)
last_at (o ∷ []) zero e = refl
last_at (o ∷ []) (suc n) e = absurd (omega arith)
last_at (o ∷ p ∷ cells) zero e = absurd (omega arith)
last_at (o ∷ p ∷ cells) (suc n) e = last_at (p ∷ cells) n (omega arith)

pub last-cell : (cells : List (Option Op)) → 0 < length cells → Some (last_op cells) ≡ slice_get cells (length cells - 1)
last-cell cells h = last_at cells (length cells - 1) (omega arith)

pub last-indexed : (cells : List (Option Op)) → 0 < length cells → get_or cells (length cells - 1) None ≡ last_op cells
last-indexed cells h = get_or_from_slice_get cells (length cells - 1) (last_op cells) None (sym (last-cell cells h))

pub ruleset berths = (length-siding, cells-none, last-cell)

-- what holds of each operation of a siding holds of the one in a cell
pub op-there : (plan : Plan) (bounds : List Bounds) (k c : ℕ) (ops : List (Option Op)) (o : Option Op) → AreOps plan bounds k ops → Some o ≡ slice_get ops c →
    IfSome o (IsOp plan bounds k)
op-there plan bounds k c ops o all e =
    let here : slice_get ops c ≡ Some o = sym e in
    subst (λ (q : Option Op). IfSome q (IsOp plan bounds k)) (get_or_from_slice_get ops c o o here) (all c o (slice_get_within ops c o here))

pub ruleset reading = (op-there)
