-- The built-in layout is accepted.
use Rattle.std.proofs.Common.{◌≡◌, ℕ, pos, ◌<◌, ◌≤◌, [], ◌∷◌, All, true, false, refl, arith, ◌∙◌, sym, subst}
use Rattle.std.specs.List.Sorted.{IsStrictlyIncreasing}
use Rattle.std.proofs.lemmas.List.Elements.{All-nil, All-from_recursion}
use Rattle.std.proofs.lemmas.Bool.Decides.{nat_tests}
use Rattle.rv_inst.specs.declared.classes.Class.{Class}
use Rattle.rv_inst.specs.declared.classes.Class.TheVariants.{Add, Logic, Shift, Compare, Branch, Jump, Memory, Serial, Free, Mul, Div}
use Rattle.cf_layout.specs.Layout.{SidingPlan, place_of, no_siding, stages_of, unit_at, serves, siding_of, launch_stage, homes}
use Rattle.cf_layout.specs.Accepted.{is_needed, is_control, memory_launch, IsStage, IsSiding, IsEquipped, IsAccepted}
use Rattle.cf_layout.specs.Asked.{stage_numbers, ascending, in_class_order}
use Rattle.cf_layout.specs.Held.{AreHeld}
use Rattle.cf_layout.specs.Plain.{plain, memory_siding}
use Rattle.cf_layout.proofs.Described.{ascending_rises}

-- its stages, from the lists that the code gives
pub plain_stages : (ascending (pos 2 ∷ pos 4 ∷ pos 6 ∷ []) ≡ 2 ∷ 4 ∷ 6 ∷ []) × (ascending (pos 2 ∷ pos 4 ∷ []) ≡ 2 ∷ 4 ∷ []) × (ascending (pos 4 ∷ []) ≡ 4 ∷ [])
    × (ascending (pos 3 ∷ []) ≡ 3 ∷ []) × (in_class_order (Memory ∷ []) ≡ Memory ∷ [])
unfolding ascending stage_numbers in_class_order
plain_stages = (refl, refl, refl, refl, refl)

-- its siding
plain_siding : IsSiding plain memory_siding
unfolding serves
plain_siding = record {
  some = omega arith;
  ordered = λ k below. absurd (omega arith);
  computed = All-from_recursion (λ (c : Class). place_of c < 9) (Memory ∷ []) (omega arith, tt);
  launches = (omega arith, omega arith);
  recovers = (omega arith, omega arith);
  order = omega arith;
  cells = (omega arith, omega arith);
  memory_alone = λ e. refl;
}

-- each class that is needed has one home
plain_homes : (c : Class) → is_needed c ≡ true → homes plain c ≡ 1
unfolding homes stages_of serves
plain_homes Add e = refl
plain_homes Logic e = refl
plain_homes Shift e = refl
plain_homes Compare e = refl
plain_homes Branch e = refl
plain_homes Jump e = refl
plain_homes Memory e = refl
plain_homes Serial e = cc
plain_homes Free e = cc
plain_homes Mul e = cc
plain_homes Div e = cc

-- neither multiplication nor division has a home
plain_pair : (homes plain Mul ≡ 0) × (homes plain Div ≡ 0)
unfolding homes stages_of serves
plain_pair = (refl, refl)

-- memory is reached from stage 4
plain_launch : memory_launch plain ≡ 4
unfolding memory_launch launch_stage siding_of serves
plain_launch = refl

-- branches and jumps turn at stage 3
plain_control : (c : Class) (i : ℕ) → is_control c ≡ true → unit_at plain c i ≡ true → i ≤ 4
unfolding unit_at stages_of
plain_control Branch i e at = grind (arith, nat_tests)
plain_control Jump i e at = grind (arith, nat_tests)
plain_control Add i e at = cc
plain_control Logic i e at = cc
plain_control Shift i e at = cc
plain_control Compare i e at = cc
plain_control Memory i e at = cc
plain_control Serial i e at = cc
plain_control Free i e at = cc
plain_control Mul i e at = cc
plain_control Div i e at = cc

-- and go through no siding
plain_unsided : (c : Class) → is_control c ≡ true → serves memory_siding c ≡ false
unfolding serves
plain_unsided Branch e = refl
plain_unsided Jump e = refl
plain_unsided Add e = cc
plain_unsided Logic e = cc
plain_unsided Shift e = cc
plain_unsided Compare e = cc
plain_unsided Memory e = cc
plain_unsided Serial e = cc
plain_unsided Free e = cc
plain_unsided Mul e = cc
plain_unsided Div e = cc

-- Memory has no units
plain_memory : stages_of plain Memory ≡ []
unfolding stages_of
plain_memory = refl

-- the stages of each class ascend
rises_246 : IsStrictlyIncreasing (2 ∷ 4 ∷ 6 ∷ [])
rises_246 = subst IsStrictlyIncreasing plain_stages.0 (ascending_rises (pos 2 ∷ pos 4 ∷ pos 6 ∷ []))

rises_24 : IsStrictlyIncreasing (2 ∷ 4 ∷ [])
rises_24 = subst IsStrictlyIncreasing plain_stages.1 (ascending_rises (pos 2 ∷ pos 4 ∷ []))

rises_one : (i : ℕ) → IsStrictlyIncreasing (i ∷ [])
rises_one i = λ k below. absurd (omega arith)

rises_none : IsStrictlyIncreasing []
rises_none = λ k below. absurd (omega arith)

plain_rises : All IsStrictlyIncreasing plain.units
plain_rises = All-from_recursion IsStrictlyIncreasing plain.units
    (rises_246, (rises_24, (rises_one 4, (rises_24, (rises_one 3, (rises_one 3, (rises_none, (rises_none, (rises_none, tt)))))))))

-- they are stages of the pipeline
stages_246 : All (IsStage plain) (2 ∷ 4 ∷ 6 ∷ [])
stages_246 = All-from_recursion (IsStage plain) (2 ∷ 4 ∷ 6 ∷ []) ((omega arith, omega arith), ((omega arith, omega arith), ((omega arith, omega arith), tt)))

stages_24 : All (IsStage plain) (2 ∷ 4 ∷ [])
stages_24 = All-from_recursion (IsStage plain) (2 ∷ 4 ∷ []) ((omega arith, omega arith), ((omega arith, omega arith), tt))

stages_4 : All (IsStage plain) (4 ∷ [])
stages_4 = All-from_recursion (IsStage plain) (4 ∷ []) ((omega arith, omega arith), tt)

stages_3 : All (IsStage plain) (3 ∷ [])
stages_3 = All-from_recursion (IsStage plain) (3 ∷ []) ((omega arith, omega arith), tt)

stages_none : All (IsStage plain) []
stages_none = All-nil (IsStage plain)

plain_within : All (All (IsStage plain)) plain.units
plain_within = All-from_recursion (All (IsStage plain)) plain.units
    (stages_246, (stages_24, (stages_4, (stages_24, (stages_3, (stages_3, (stages_none, (stages_none, (stages_none, tt)))))))))

-- the built-in layout is equipped
pub plain_equipped : IsEquipped plain
plain_equipped = record {
  stages = (omega arith, omega arith);
  lane = (omega arith, omega arith);
  few_sidings = omega arith;
  classes = refl;
  ascending = plain_rises;
  unit_stages = plain_within;
  sidings = All-from_recursion (IsSiding plain) (memory_siding ∷ []) (plain_siding, tt);
  needed = plain_homes;
  pair = plain_pair.0 ∙ sym plain_pair.1;
  pair_once = omega (arith, plain_pair.0);
  memory = plain_memory;
}

-- and accepted
pub plain_accepted : IsAccepted plain
plain_accepted = record {
  equipped = plain_equipped;
  control_units = λ c i e at. let l = plain_control c i e at in rw plain_launch l;
  control_sidings = λ c e. All-from_recursion (λ (s : SidingPlan). serves s c ≡ true → s.recover ≤ memory_launch plain) (memory_siding ∷ [])
      ((λ at. let off = plain_unsided c e in cc), tt);
}

-- and its sidings are in eight entries
pub plain_held : AreHeld 1 (memory_siding ∷ no_siding ∷ no_siding ∷ no_siding ∷ no_siding ∷ no_siding ∷ no_siding ∷ no_siding ∷ [])
plain_held = record { room = refl; few = omega arith; rest = refl }
