-- What a layout has units or sidings for is computed from an address and two sources, or is a load or a store.
use Rattle.std.proofs.Common.{◌≡◌, ℕ, ◌<◌, ◌≤◌, List, [], ◌∷◌, All, Bool, true, false, Some, length, refl, arith}
use Rattle.std.specs.Prelude.{IsTrue, nat_eq, ◌||◌}
use Rattle.std.specs.List.{list_any}
use Rattle.std.proofs.lemmas.List.Elements.{All-tail}
use Rattle.std.proofs.lemmas.Bool.Decides.{nat_tests}
use Rattle.rv_inst.specs.declared.classes.Class.{Class}
use Rattle.rv_inst.specs.declared.classes.Class.TheVariants.{Memory, Serial, Free}
use Rattle.rv_mul.specs.Values.{computes}
use Rattle.cf_layout.specs.Layout.{Plan, place_of, same_class, stages_of, unit_at, serves, siding_of, siding_plan_at}
use Rattle.cf_layout.specs.Accepted.{IsEquipped, IsAccepted}
use Rattle.cf_layout.proofs.Reading.{stages_without}
use Rattle.cf_layout.proofs.Facts.{siding_found, siding_rules}
use Rattle.cf_semantics.specs.moves.Instructions.{is_memory}

-- no stage has a unit
no_unit : (stages : List ℕ) (i : ℕ) → stages ≡ [] → list_any (nat_eq i) stages ≡ true → ⊥
no_unit [] i e h = cc
no_unit (stage ∷ stages) i e h = cc

beyond : (plan : Plan) (n : ℕ) → length plan.units ≡ 9 → 9 ≤ n → length plan.units ≤ n
beyond plan n e h = omega arith

-- a class with a unit computes, in an equipped layout and so in an accepted one
pub equipped-unit : (plan : Plan) (c : Class) (i : ℕ) → IsEquipped plan → unit_at plan c i ≡ true → IsTrue (computes c)
unfolding unit_at
equipped-unit plan Memory i a e = absurd (no_unit (stages_of plan Memory) i a.memory e)
equipped-unit plan Serial i a e = absurd (no_unit (stages_of plan Serial) i (stages_without plan Serial (beyond plan 9 a.classes (omega arith))) e)
equipped-unit plan Free i a e = absurd (no_unit (stages_of plan Free) i (stages_without plan Free (beyond plan 10 a.classes (omega arith))) e)
equipped-unit plan c i a e = refl

pub unit-computes : (plan : Plan) (c : Class) (i : ℕ) → IsAccepted plan → unit_at plan c i ≡ true → IsTrue (computes c)
unit-computes plan c i a e = equipped-unit plan c i a.equipped e

-- a class among those of a siding has its index below 9
low_head : (m n : ℕ) (b : Bool) → n < 9 → (b ≡ true → m < 9) → (nat_eq m n || b) ≡ true → m < 9
low_head m n true h k e = k refl
low_head m n false h k e = grind (arith, nat_tests)

low_place : (c : Class) (classes : List Class) → All (λ d. place_of d < 9) classes → list_any (same_class c) classes ≡ true → place_of c < 9
low_place c [] h e = absurd (cc)
low_place c (d ∷ ds) h e = low_head (place_of c) (place_of d) (list_any (same_class c) ds) (h 0 d (omega arith))
    (λ k. low_place c ds (All-tail (λ (d : Class). place_of d < 9) d ds h) k) e

computed : (c : Class) → place_of c < 9 → is_memory c ≡ false → IsTrue (computes c)
computed Memory h e = absurd (cc)
computed Serial h e = absurd (omega arith)
computed Free h e = absurd (omega arith)
computed c h e = refl

-- a class with a siding computes too, unless it loads or stores
pub equipped-siding : (plan : Plan) (c : Class) (k : ℕ) → IsEquipped plan → siding_of plan c ≡ Some k → is_memory c ≡ false → IsTrue (computes c)
unfolding serves
equipped-siding plan c k a e m =
    let f = siding_found plan c k e in
    let r = siding_rules plan a c k e in
    computed c (low_place c (siding_plan_at plan k).classes r.computed f.1) m

pub siding-computes : (plan : Plan) (c : Class) (k : ℕ) → IsAccepted plan → siding_of plan c ≡ Some k → is_memory c ≡ false → IsTrue (computes c)
siding-computes plan c k a e m = equipped-siding plan c k a.equipped e m

pub ruleset computing = (unit-computes, siding-computes)
