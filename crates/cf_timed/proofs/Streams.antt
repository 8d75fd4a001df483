-- Moves that draw from one stream share a site.
use Rattle.std.proofs.Common.{◌≡◌, ◌∙◌, refl, sym, ap, ℕ, ◌+◌, ◌-◌, ◌*◌, ◌/◌, ◌%◌, ◌<◌, Bool, true, cond, nat_eq, arith}
use Rattle.std.specs.Prelude.{◌||◌, ◌&&◌}
use Rattle.std.proofs.lemmas.Bool.Decides.{nat_tests}
use Rattle.cf_layout.specs.Layout.{Plan, cells_of}
use Rattle.cf_bind.specs.declared.moves.Move.{Move}
use Rattle.cf_bind.specs.declared.moves.Move.TheVariants.{Issue, Emit, Climb, Fall, Meet, Execute, Send, Launch, Slide, Access, Recover, Leave, Exit, Serve}
use Rattle.cf_semantics.specs.moves.Sites.{Site, Stage, SidingCell}
use Rattle.cf_semantics.specs.state.Layouts.{port}
use Rattle.cf_index.specs.Order.{kind_place}
use Rattle.cf_index.specs.Sites.{shares, uses_place, way_out}
use Rattle.cf_index.proofs.SharedSites.{shared_at}
use Rattle.cf_timed.specs.Drawing.{seat_of, stream_of}
use Rattle.cf_timed.specs.Clocks.{AreKept}

-- a site that each move of a kind uses, by the number of its stage or cell
abbrev site_at : Plan → (kind seat : ℕ) → Site
site_at plan kind seat =
    cond (nat_eq kind 8) (SidingCell (seat / 8) (seat % 8))
    (cond (nat_eq kind 9) (way_out plan (port plan))
    (cond (nat_eq kind 0) (Stage 1)
    (cond (nat_eq kind 12) (Stage 1)
    (cond (nat_eq kind 1) (Stage plan.stages)
    (cond (nat_eq kind 11) (Stage plan.stages)
    (cond (nat_eq kind 13) (Stage plan.stages) (Stage seat)))))))

self : (n : ℕ) (b : Bool) → (nat_eq n n || b) ≡ true
self n b = grind (arith, nat_tests)

selves : (n m k l : ℕ) (b : Bool) → n ≡ m → k ≡ l → ((nat_eq n m && nat_eq k l) || b) ≡ true
selves n m k l b e f = grind (arith, nat_tests)

used_first : (plan : Plan) (mv : Move) → AreKept plan mv → uses_place plan mv (site_at plan (kind_place mv) (seat_of mv)) ≡ true
unfolding uses_place
used_first plan (Issue g) kept = refl
used_first plan Emit kept = self plan.stages _
used_first plan (Climb i) kept = self i _
used_first plan (Fall i) kept = self i _
used_first plan (Meet i) kept = self i _
used_first plan (Execute i) kept = self i _
used_first plan (Send i) kept = self i _
used_first plan (Launch i) kept = self i _
used_first plan (Slide k c) kept =
    let b = kept.0.1 in
    selves ((8 * k + c) / 8) k ((8 * k + c) % 8) c _ (omega (arith, b)) (omega (arith, b))
used_first plan Access kept = selves (port plan) (port plan) (cells_of plan (port plan) - 1) (cells_of plan (port plan) - 1) _ refl refl
used_first plan (Recover i) kept = self i _
used_first plan Leave kept = self plan.stages _
used_first plan Exit kept = refl
used_first plan Serve kept = self plan.stages _

seat_few : (plan : Plan) (mv : Move) → AreKept plan mv → seat_of mv < 64
seat_few plan (Issue g) kept = omega arith
seat_few plan Emit kept = omega arith
seat_few plan (Climb i) kept = let k = kept.0 in omega (arith, k)
seat_few plan (Fall i) kept = let k = kept.0 in omega (arith, k)
seat_few plan (Meet i) kept = let k = kept.0 in omega (arith, k)
seat_few plan (Execute i) kept = let k = kept.0 in omega (arith, k)
seat_few plan (Send i) kept = let k = kept.0 in omega (arith, k)
seat_few plan (Launch i) kept = let k = kept.0 in omega (arith, k)
seat_few plan (Slide k c) kept = let a = kept.0.0 in let b = kept.0.1 in omega (arith, a, b)
seat_few plan Access kept = omega arith
seat_few plan (Recover i) kept = let k = kept.0 in omega (arith, k)
seat_few plan Leave kept = omega arith
seat_few plan Exit kept = omega arith
seat_few plan Serve kept = omega arith

one_site : (plan : Plan) (a b : Move) (k s : ℕ) → kind_place a ≡ k → seat_of a ≡ s → kind_place b ≡ k → seat_of b ≡ s → AreKept plan a → AreKept plan b →
    shares plan a b ≡ true
one_site plan a b k s ka sa kb sb kept_a kept_b =
    let x : Site = site_at plan k s in
    let ua : uses_place plan a x ≡ true = ap (λ (y : Site). uses_place plan a y) (sym (ap (λ (n : ℕ). site_at plan n (seat_of a)) ka ∙ ap (site_at plan k) sa))
    ∙ used_first plan a kept_a in
    let ub : uses_place plan b x ≡ true = ap (λ (y : Site). uses_place plan b y) (sym (ap (λ (n : ℕ). site_at plan n (seat_of b)) kb ∙ ap (site_at plan k) sb))
    ∙ used_first plan b kept_b in
    shared_at plan a b x ua ub

pub stream_shared : (plan : Plan) (a b : Move) → AreKept plan a → AreKept plan b → stream_of a ≡ stream_of b → shares plan a b ≡ true
unfolding stream_of
stream_shared plan a b kept_a kept_b same =
    let fa = seat_few plan a kept_a in
    let fb = seat_few plan b kept_b in
    let kinds : kind_place b ≡ kind_place a = equal_kinds (kind_place a) (kind_place b) (seat_of a) (seat_of b) fa fb same in
    let seats : seat_of b ≡ seat_of a = equal_seats (kind_place a) (kind_place b) (seat_of a) (seat_of b) fa fb same in
    one_site plan a b (kind_place a) (seat_of a) refl refl kinds seats kept_a kept_b
  where
    equal_kinds : (k j s t : ℕ) → s < 64 → t < 64 → 64 * (k + 1) + s ≡ 64 * (j + 1) + t → j ≡ k
    equal_kinds k j s t a b e = omega (arith, a, b, e)

    equal_seats : (k j s t : ℕ) → s < 64 → t < 64 → 64 * (k + 1) + s ≡ 64 * (j + 1) + t → t ≡ s
    equal_seats k j s t a b e = omega (arith, a, b, e)
