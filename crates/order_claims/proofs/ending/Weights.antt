-- How the weight of a state changes with one stage, one siding or the lane.
use Rattle.std.proofs.Common.{◌≡◌, ℕ, zero, suc, ◌+◌, ◌*◌, ◌<◌, ◌≤◌, List, [], ◌∷◌, ◌++◌, Option, Some, None, Bool, true, false, cond, refl, sym, ap, subst, ◌∙◌, arith, length}
use Rattle.std.specs.Prelude.{slice_get, slice_set, not, ◌==◌}
use Rattle.std.proofs.lemmas.List.{length-set}
use Rattle.cf_bind.specs.declared.cell.Cell.{Cell}
use Rattle.cf_bind.specs.declared.cell.Op.{Op}
use Rattle.cf_semantics.specs.claims.Weight.{counts}
use Rattle.cf_semantics.specs.moves.Bars.{last_op}
use Rattle.cf_semantics.specs.moves.Moves.{set_last}
use Rattle.cf_semantics.specs.state.Options.{on, is_some}
use Rattle.cf_semantics.specs.state.Passengers.{both}
use Rattle.cf_semantics.specs.state.State.{State, cell_at, put_cell, siding_at}
use Rattle.order_claims.proofs.ending.OrderWeight.{stage_weight, stages_weight, flight_weight, flights_weight, all_flights_weight, lane_weight, AreShort}

-- one stage
set_stage : (n d j : ℕ) (cells : List Cell) (k : ℕ) (c e : Cell) → slice_get cells k ≡ Some c →
    stages_weight n d j (slice_set cells k e) + stage_weight n d (j + k) c ≡ stages_weight n d j cells + stage_weight n d (j + k) e
set_stage n d j [] k c e there = absurd (cc)
set_stage n d j (b ∷ cells) zero c e there =
    let same : b ≡ c = cc in
    let at : j + 0 ≡ j = omega arith in
    subst (λ (i : ℕ). (stage_weight n d j e + stages_weight n d (suc j) cells) + stage_weight n d i c
    ≡ (stage_weight n d j b + stages_weight n d (suc j) cells) + stage_weight n d i e) (sym at)
    (subst (λ (x : Cell). (stage_weight n d j e + stages_weight n d (suc j) cells) + stage_weight n d j c
    ≡ (stage_weight n d j x + stages_weight n d (suc j) cells) + stage_weight n d j e) (sym same) (omega arith))
set_stage n d j (b ∷ cells) (suc k) c e there =
    let at : suc j + k ≡ j + suc k = omega arith in
    let later = set_stage n d (suc j) cells k c e there in
    let here : stages_weight n d (suc j) (slice_set cells k e) + stage_weight n d (j + suc k) c
    ≡ stages_weight n d (suc j) cells + stage_weight n d (j + suc k) e
    = subst (λ (i : ℕ). stages_weight n d (suc j) (slice_set cells k e) + stage_weight n d i c
    ≡ stages_weight n d (suc j) cells + stage_weight n d i e) at later in
    omega (arith, here)

pub put_stage : (n d : ℕ) (cells : List Cell) (i : ℕ) (c e : Cell) → cell_at cells i ≡ Some c →
    stages_weight n d 1 (put_cell cells i e) + stage_weight n d i c ≡ stages_weight n d 1 cells + stage_weight n d i e
put_stage n d cells zero c e there = absurd (cc)
put_stage n d cells (suc k) c e there =
    let at : 1 + k ≡ suc k = omega arith in
    subst (λ (i : ℕ). stages_weight n d 1 (slice_set cells k e) + stage_weight n d i c ≡ stages_weight n d 1 cells + stage_weight n d i e) at
    (set_stage n d 1 cells k c e there)

pub put_size : (cells : List Cell) (i : ℕ) (e : Cell) → length (put_cell cells i e) ≡ length cells
put_size cells zero e = refl
put_size cells (suc k) e = length-set cells k e

-- a stage is one of the stages
got_within : (cells : List Cell) (k : ℕ) (c : Cell) → slice_get cells k ≡ Some c → suc k ≤ length cells
got_within [] k c e = absurd (cc)
got_within (b ∷ cells) zero c e = omega arith
got_within (b ∷ cells) (suc k) c e = let later = got_within cells k c e in omega (arith, later)

pub stage_number : (cells : List Cell) (i : ℕ) (c : Cell) → cell_at cells i ≡ Some c → (0 < i) × (i ≤ length cells)
stage_number cells zero c e = absurd (cc)
stage_number cells (suc k) c e = (omega arith, got_within cells k c e)

-- one siding
put_siding : (sidings : List (List (Option Op))) (k : ℕ) (ops : List (Option Op)) →
    all_flights_weight (slice_set sidings k ops) + flights_weight (on (slice_get sidings k) [] (λ q. q)) ≤ all_flights_weight sidings + flights_weight ops
put_siding [] k ops = omega arith
put_siding (q ∷ sidings) zero ops = omega arith
put_siding (q ∷ sidings) (suc k) ops = let later = put_siding sidings k ops in omega (arith, later)

pub siding_put : (s : State) (k : ℕ) (ops : List (Option Op)) →
    all_flights_weight (slice_set s.sidings k ops) + flights_weight (siding_at s k) ≤ all_flights_weight s.sidings + flights_weight ops
siding_put s k ops = put_siding s.sidings k ops

short_at : (d : ℕ) (sidings : List (List (Option Op))) (k : ℕ) → AreShort d sidings → length (on (slice_get sidings k) [] (λ q. q)) ≤ d
short_at d [] k h = omega arith
short_at d (q ∷ sidings) zero h = h.0
short_at d (q ∷ sidings) (suc k) h = short_at d sidings k h.1

pub siding_short : (d : ℕ) (s : State) (k : ℕ) → AreShort d s.sidings → length (siding_at s k) ≤ d
siding_short d s k h = short_at d s.sidings k h

pub still_short : (d : ℕ) (sidings : List (List (Option Op))) (k : ℕ) (ops : List (Option Op)) → AreShort d sidings → length ops ≤ d →
    AreShort d (slice_set sidings k ops)
still_short d [] k ops h few = h
still_short d (q ∷ sidings) zero ops h few = (few, h.1)
still_short d (q ∷ sidings) (suc k) ops h few = (h.0, still_short d sidings k ops h.1 few)

-- an operation that enters
pub entering : (ops : List (Option Op)) (op : Op) → flights_weight (slice_set ops 0 (Some op)) ≤ flights_weight ops + length ops + 1
unfolding flight_weight
entering [] op = omega arith
entering (o ∷ ops) op = by (not (is_some op.answer))
  where
    by : (b : Bool) → (length ops + 1 + counts b 1) + flights_weight ops ≤ (flight_weight (length ops) o + flights_weight ops) + suc (length ops) + 1
    by true = omega arith
    by false = omega arith

-- one that moves one cell further
pub sliding : (ops : List (Option Op)) (c : ℕ) (op : Op) → slice_get ops c ≡ Some (Some op) → slice_get ops (suc c) ≡ Some None →
    flights_weight (slice_set (slice_set ops c None) (suc c) (Some op)) < flights_weight ops
unfolding flight_weight
sliding [] c op e f = absurd (cc)
sliding (o ∷ []) zero op e f = absurd (cc)
sliding (o ∷ p ∷ ops) zero op e f =
    let x : o ≡ Some op = cc in
    let y : p ≡ None = cc in
    rw (x, y) (omega arith)
sliding (o ∷ ops) (suc c) op e f =
    let later = sliding ops c op e f in
    let size : length (slice_set (slice_set ops c None) (suc c) (Some op)) ≡ length ops
    = length-set (slice_set ops c None) (suc c) (Some op) ∙ length-set ops c None in
    let same : flight_weight (length (slice_set (slice_set ops c None) (suc c) (Some op))) o ≡ flight_weight (length ops) o
    = ap (λ (r : ℕ). flight_weight r o) size in
    omega (arith, later, same)

-- the last cell
pub last_size : (ops : List (Option Op)) (o : Option Op) → length (set_last ops o) ≡ length ops
last_size [] o = refl
last_size (p ∷ []) o = refl
last_size (p ∷ q ∷ ops) o = ap (λ (r : ℕ). suc r) (last_size (q ∷ ops) o)

pub last_put : (ops : List (Option Op)) (o : Option Op) →
    flights_weight (set_last ops o) + flight_weight 0 (last_op ops) ≤ flights_weight ops + flight_weight 0 o
unfolding flight_weight
last_put [] o = omega arith
last_put (p ∷ []) o = omega arith
last_put (p ∷ q ∷ ops) o =
    let later = last_put (q ∷ ops) o in
    let same : flight_weight (length (set_last (q ∷ ops) o)) p ≡ flight_weight (length (q ∷ ops)) p
    = ap (λ (r : ℕ). flight_weight r p) (last_size (q ∷ ops) o) in
    omega (arith, later, same)

-- the lane
pub lane_behind : (n : ℕ) (xs ys : List ℕ) → lane_weight n (xs ++ ys) ≡ lane_weight n xs + lane_weight n ys
lane_behind n [] ys = omega arith
lane_behind n (x ∷ xs) ys = let later = lane_behind n xs ys in omega (arith, later)

pub asked_weight : (n : ℕ) (a b : Option ℕ) → lane_weight n (both a b) ≤ 4 * n + 2
asked_weight n None None = omega arith
asked_weight n (Some r) None = omega arith
asked_weight n None (Some r) = omega arith
asked_weight n (Some r) (Some q) = by (r == q)
  where
    by : (b : Bool) → lane_weight n (cond b (r ∷ []) (r ∷ q ∷ [])) ≤ 4 * n + 2
    by true = omega arith
    by false = omega arith
