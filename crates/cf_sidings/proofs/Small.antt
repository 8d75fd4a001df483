-- How many sidings a layout has, and how many cells each of them.
use Rattle.std.proofs.Common.{◌≡◌, ◌∙◌, ℕ, ◌+◌, ◌/◌, ◌%◌, ◌<◌, ◌≤◌, Bool, true, false, nat_lt, length, get_or, refl, sym, ap, arith}
use Rattle.std.specs.Prelude.{◌&&◌}
use Rattle.std.proofs.lemmas.Bool.Decides.{nat_tests}
use Rattle.std.proofs.lemmas.Option.{slice_get_past, unwrap_or-slice_get}
use Rattle.cf_layout.specs.Accepted.{IsAccepted}
use Rattle.cf_layout.specs.Words.{has_bit}
use Rattle.cf_layout.proofs.Words.{no_bits}
use Rattle.cf_layout.specs.Layout.{SidingPlan, Plan, no_siding, siding_plan_at, cells_of}

within : (plan : Plan) (k : ℕ) → IsAccepted plan → k < length plan.sidings → (1 ≤ cells_of plan k) × (cells_of plan k ≤ 8)
unfolding cells_of
within plan k a low =
    let c = (a.sidings k no_siding low).cells in
    let e : siding_plan_at plan k ≡ get_or plan.sidings k no_siding = unwrap_or-slice_get plan.sidings k no_siding in
    let f = ap (λ (siding : SidingPlan). siding.cells) e in
    (omega (arith, f, c), omega (arith, f, c))

pub some-cells : (plan : Plan) (k : ℕ) → IsAccepted plan → k < length plan.sidings → 1 ≤ cells_of plan k
some-cells plan k a low = (within plan k a low).0

pub few-cells : (plan : Plan) (k : ℕ) → IsAccepted plan → k < length plan.sidings → cells_of plan k ≤ 8
few-cells plan k a low = (within plan k a low).1

pub few-sidings : (plan : Plan) (k : ℕ) → IsAccepted plan → k < length plan.sidings → k < 8
few-sidings plan k a low = omega (arith, a.few_sidings)

pub ruleset sized = (some-cells, few-cells, few-sidings)

-- before any siding was visited no cell was
pub inner_start : (plan : Plan) (j : ℕ) → has_bit 0 j ≡ (nat_lt (j / 8) 0 && nat_lt (j % 8 + 1) (cells_of plan (j / 8)))
inner_start plan j = let e : nat_lt (j / 8) 0 ≡ false = grind (arith, nat_tests) in rw (no_bits j, e) refl

-- after all of them all cells were: a siding that does not exist has none
past_none : (plan : Plan) (k c : ℕ) → length plan.sidings ≤ k → nat_lt (c + 1) (cells_of plan k) ≡ false
unfolding cells_of
past_none plan k c past = rw (cells_of, slice_get_past plan.sidings k past) (grind (arith, nat_tests))

all_case : (plan : Plan) (k n c : ℕ) (there : Bool) → nat_lt k n ≡ there → n ≡ length plan.sidings → (there && nat_lt (c + 1) (cells_of plan k))
    ≡ nat_lt (c + 1) (cells_of plan k)
all_case plan k n c true e all = refl
all_case plan k n c false e all = let past : length plan.sidings ≤ k = grind (arith, nat_tests) in sym (past_none plan k c past)

pub inner_all : (plan : Plan) (n word j : ℕ) → n ≡ length plan.sidings → has_bit word j ≡ (nat_lt (j / 8) n && nat_lt (j % 8 + 1) (cells_of plan (j / 8))) →
    has_bit word j ≡ nat_lt (j % 8 + 1) (cells_of plan (j / 8))
inner_all plan n word j all e = e ∙ all_case plan (j / 8) n (j % 8) (nat_lt (j / 8) n) refl all
