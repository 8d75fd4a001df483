-- Words of stages and of cells of sidings.
use Rattle.std.proofs.Common.{◌≡◌, ◌∙◌, refl, sym, ap, ℕ, ◌+◌, ◌-◌, ◌*◌, ◌/◌, ◌%◌, ◌^◌, ◌<◌, ◌≤◌, Bool, true, false, get_or, length, nat_eq, nat_lt, arith}
use Rattle.std.specs.Prelude.{◌&&◌, ◌||◌, ◌↔◌, IsTrue, not}
use Rattle.std.specs.Int.{trailing_zeros}
use Rattle.std.specs.Int.RustNames.{bit_and}
use Rattle.std.specs.Int.Bits.{and_lt}
use mir.Syntax.{w64}
use Rattle.std.proofs.lemmas.Bool.Decides.{nat_tests}
use Rattle.std.proofs.lemmas.Option.{unwrap_or-slice_get}
use Rattle.cf_layout.specs.Layout.{Plan, SidingPlan, cells_of, no_siding, siding_plan_at}
use Rattle.cf_layout.specs.Accepted.{IsAccepted}
use Rattle.cf_layout.specs.Words.{has_bit}
use Rattle.std.proofs.lemmas.Nat.Bits.{bit_at-trailing_zeros}
use Rattle.cf_layout.proofs.Words.{no_bits}
use Rattle.cf_index.proofs.WordBits.{of_both}

-- how many cells a siding has, and how many sidings there are
pub siding_within : (plan : Plan) (k : ℕ) → IsAccepted plan → k < length plan.sidings → (1 ≤ cells_of plan k) × (cells_of plan k ≤ 8) × (k < 8)
unfolding cells_of
siding_within plan k a within =
    let c = (a.sidings k no_siding within).cells in
    let e : siding_plan_at plan k ≡ get_or plan.sidings k no_siding = unwrap_or-slice_get plan.sidings k no_siding in
    let f = ap (λ (siding : SidingPlan). siding.cells) e in
    (omega (arith, f, c), omega (arith, f, c), omega (arith, a.few_sidings))

-- one bit alone
one_bit : (k n : ℕ) → ((nat_eq k n && true) || has_bit 0 k) ≡ nat_eq k n
one_bit k n = let z : has_bit 0 k ≡ false = no_bits k in rw z (tests (nat_eq k n))
  where
    tests : (b : Bool) → ((b && true) || false) ≡ b
    tests b = grind arith

-- a stage by its bit
stage_bit : (k i : ℕ) → 1 ≤ i → nat_eq k (i - 1) ≡ nat_eq (k + 1) i
stage_bit k i first = grind (arith, nat_tests)

-- the word of a stage
pub one_stage : (k i : ℕ) → 1 ≤ i → ((nat_eq k (i - 1) && true) || has_bit 0 k) ≡ nat_eq (k + 1) i
one_stage k i first = one_bit k (i - 1) ∙ stage_bit k i first

-- and with one more stage
pub more_stage : (k i : ℕ) (b : Bool) → 1 ≤ i → ((nat_eq k (i - 1) && true) || b) ≡ (b || nat_eq (k + 1) i)
more_stage k i b first = rw (stage_bit k i first) (tests (nat_eq (k + 1) i) b)
  where
    tests : (a b : Bool) → ((a && true) || b) ≡ (b || a)
    tests a b = grind arith

-- a cell by its bit
cell_bit : (j k c : ℕ) → c < 8 → nat_eq j (8 * k + c) ≡ (nat_eq (j / 8) k && nat_eq (j % 8) c)
cell_bit j k c small = grind (arith, nat_tests)

-- the word of a cell
pub one_cell : (j k c : ℕ) → c < 8 → ((nat_eq j (8 * k + c) && true) || has_bit 0 j) ≡ (nat_eq (j / 8) k && nat_eq (j % 8) c)
one_cell j k c small = one_bit j (8 * k + c) ∙ cell_bit j k c small

-- and with the next cell
pub next_cell : (j k c : ℕ) → c + 1 < 8 → ((nat_eq j (8 * k + c + 1) && true) || (nat_eq (j / 8) k && nat_eq (j % 8) c))
    ≡ (nat_eq (j / 8) k && (nat_eq (j % 8) c || nat_eq (j % 8) (c + 1)))
next_cell j k c small =
    let z : 8 * k + c + 1 ≡ 8 * k + (c + 1) = omega arith in
    rw (z, cell_bit j k (c + 1) small) (tests (nat_eq (j / 8) k) (nat_eq (j % 8) c) (nat_eq (j % 8) (c + 1)))
  where
    tests : (s a b : Bool) → (((s && b) && true) || (s && a)) ≡ (s && (a || b))
    tests s a b = grind arith

-- one more cell, in the siding after those that were visited
pub way_more : (j k c : ℕ) (set : Bool) (at : ℕ → Bool) → c < 8 → (at k ≡ (set && nat_eq (j % 8) c)) →
    ((nat_eq j (8 * k + c) && set) || (nat_lt (j / 8) k && at (j / 8))) ≡ (nat_lt (j / 8) (k + 1) && at (j / 8))
way_more j k c set at small here = by (nat_eq (j / 8) k) refl
  where
    at_it : (s c t : Bool) → ((c && s) || (false && t)) ≡ (true && (s && c))
    at_it s c t = grind arith

    elsewhere : (s b t : Bool) → ((false && s) || (b && t)) ≡ (b && t)
    elsewhere s b t = grind arith

    by : (same : Bool) → nat_eq (j / 8) k ≡ same → ((nat_eq j (8 * k + c) && set) || (nat_lt (j / 8) k && at (j / 8))) ≡ (nat_lt (j / 8) (k + 1) && at (j / 8))
    by true e =
        let q : j / 8 ≡ k = grind (arith, nat_tests) in
        let one : nat_eq j (8 * k + c) ≡ nat_eq (j % 8) c = cell_bit j k c small ∙ rw e refl in
        let low : nat_lt k k ≡ false = grind (arith, nat_tests) in
        let next : nat_lt k (k + 1) ≡ true = grind (arith, nat_tests) in
        rw (one, q, low, next, here) (at_it set (nat_eq (j % 8) c) (set && nat_eq (j % 8) c))
    by false e =
        let one : nat_eq j (8 * k + c) ≡ false = cell_bit j k c small ∙ rw e refl in
        let next : nat_lt (j / 8) (k + 1) ≡ nat_lt (j / 8) k = grind (arith, nat_tests) in
        rw (one, next) (elsewhere set (nat_lt (j / 8) k) (at (j / 8)))

-- no cell is in the word 0
pub none_yet : (j : ℕ) (b : Bool) → has_bit 0 j ≡ (nat_lt (j / 8) 0 && b)
none_yet j b = let e : nat_lt (j / 8) 0 ≡ false = grind (arith, nat_tests) in rw (e, no_bits j) refl

-- two words have a bit in common if and only if their bitwise conjunction is not 0
both_some : (w v : ℕ) → bit_and w v < 2 ^ 64 → 0 < bit_and w v → (k : ℕ) × (has_bit w k ≡ true) × (has_bit v k ≡ true)
unfolding has_bit
both_some w v small some =
    let t = bit_at-trailing_zeros w64 (bit_and w v) some small in
    let k = trailing_zeros w64 (bit_and w v) in
    let e : (has_bit w k && has_bit v k) ≡ true = sym (of_both w v k) ∙ rw (t.1) refl in
    (k, left (has_bit w k) (has_bit v k) e, right (has_bit w k) (has_bit v k) e)
  where
    left : (a b : Bool) → (a && b) ≡ true → a ≡ true
    left a b e = grind arith

    right : (a b : Bool) → (a && b) ≡ true → b ≡ true
    right a b e = grind arith

none_both : (w v k : ℕ) → bit_and w v ≡ 0 → has_bit w k ≡ true → has_bit v k ≡ true → ⊥
none_both w v k e h g = clash (rw (e, no_bits k, h, g) at (of_both w v k))
  where
    clash : false ≡ (true && true) → ⊥
    clash e = cc

pub common_bit : (w v : ℕ) → w < 2 ^ 64 → v < 2 ^ 64 → IsTrue (not (nat_eq (bit_and w v) 0)) ↔ ((k : ℕ) × (has_bit w k ≡ true) × (has_bit v k ≡ true))
common_bit w v small less = by (nat_eq (bit_and w v) 0) refl
  where
    by : (b : Bool) → nat_eq (bit_and w v) 0 ≡ b → IsTrue (not (nat_eq (bit_and w v) 0)) ↔ ((k : ℕ) × (has_bit w k ≡ true) × (has_bit v k ≡ true))
    by true e = let z : bit_and w v ≡ 0 = grind (arith, nat_tests) in rw e ((λ h. absurd (cc)), (λ h. absurd (none_both w v h.0 z h.1 h.2)))
    by false e = let s : 0 < bit_and w v = grind (arith, nat_tests) in rw e ((λ h. both_some w v (and_lt 64 w v small less) s), (λ h. refl))
