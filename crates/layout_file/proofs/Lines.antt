-- The lines of units and sidings, one after the other.
use Rattle.std.proofs.Common.{◌≡◌, ℕ, zero, suc, ◌+◌, ◌<◌, ◌≤◌, List, [], ◌∷◌, ◌++◌, length, map, drop, refl, arith, add-one}
use Rattle.std.specs.Prelude.{decimal, slice_get, unwrap_or}
use Rattle.std.proofs.lemmas.List.{drop_all}
use Rattle.rv_inst.specs.declared.classes.Class.{Class}
use Rattle.cf_layout.specs.Layout.{Plan, SidingPlan, no_siding, siding_plan_at}
use Rattle.layout_file.specs.Names.{class_name}
use Rattle.layout_file.specs.Text.{pair_line, array_text, unit_line, siding_text, siding_texts}

-- the line of a unit that has a stage
pub some_line : (c : Class) (stages : List ℕ) → 1 ≤ length stages → unit_line c stages ≡ pair_line (class_name c) (array_text (map decimal stages))
some_line c [] some = absurd (omega arith)
some_line c (stage ∷ stages) some = refl

-- the lines of the sidings from a given siding on
next_at : (sidings : List SidingPlan) (i : ℕ) → i < length sidings → siding_texts (drop i sidings) ≡ siding_text (unwrap_or (slice_get sidings i) no_siding)
    ++ siding_texts (drop (suc i) sidings)
next_at [] i within = absurd (omega arith)
next_at (s ∷ ss) zero within = refl
next_at (s ∷ ss) (suc i) within = next_at ss i (omega arith)

pub next_siding : (plan : Plan) (i : ℕ) → i < length plan.sidings → siding_texts (drop i plan.sidings) ≡ siding_text (siding_plan_at plan i)
    ++ siding_texts (drop (i + 1) plan.sidings)
next_siding plan i within = rw (add-one) (next_at plan.sidings i within)

-- after the last siding there are none
pub no_siding_left : (plan : Plan) (i : ℕ) → length plan.sidings ≤ i → siding_texts (drop i plan.sidings) ≡ []
no_siding_left plan i after = rw (drop_all i plan.sidings after) refl
