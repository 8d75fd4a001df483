-- What the tests of a layout say, one step at a time.
use Rattle.std.proofs.Common.{◌≡◌, ℕ, ℤ, ◌+◌, ◌<◌, List, [], ◌∷◌, All, Bool, true, false, sym, find, subst, arith, Option, Some, None, cond, length, get_or, take, drop, refl, add-one, drop-cons}
use Rattle.std.specs.Prelude.{◌||◌}
use Rattle.std.proofs.Math.Seq.{take-suc}
use Rattle.std.proofs.lemmas.List.Elements.{All-tail}
use Rattle.std.proofs.lemmas.Option.{same_Some}
use Rattle.std.specs.Option.{option_or}
use Rattle.rv_inst.specs.declared.classes.Class.{Class}
use Rattle.cf_layout.specs.declared.parts.Siding.{Siding}
use Rattle.cf_layout.specs.Asked.{IsSmallSiding, lists_class}
use Rattle.cf_layout.specs.Refusal.{siding_for, unit_refusal, units_refusal, siding_refusal, sidings_refusal, first_repeated}

-- the units from a given unit on are refused for that unit, or otherwise for those after it
pub units_step : (n : ℕ) (units : List (Class × List ℤ)) (i : ℕ) (d : Class × List ℤ) → i < length units →
    units_refusal n (take i units) (drop i units) ≡ option_or (unit_refusal n (take i units) (get_or units i d))
    (units_refusal n (take (i + 1) units) (drop (i + 1) units))
units_step n units i d within = rw (drop-cons units i d, add-one, take-suc units i d) refl

-- a unit that is not refused is skipped
pub units_on : (n : ℕ) (units : List (Class × List ℤ)) (i : ℕ) (unit : Class × List ℤ) → i < length units → unit ≡ get_or units i unit →
    unit_refusal n (take i units) unit ≡ None → units_refusal n (take (i + 1) units) (drop (i + 1) units) ≡ units_refusal n (take i units) (drop i units)
units_on n units i unit within this passes = sym (rw (← this, passes) at (units_step n units i unit within))

-- the same for the sidings from a given siding on
pub sidings_step : (n : ℕ) (units : List (Class × List ℤ)) (sidings : List Siding) (i : ℕ) (d : Siding) → i < length sidings →
    sidings_refusal n units (take i sidings) (drop i sidings) ≡ option_or (siding_refusal n units (take i sidings) (get_or sidings i d))
    (sidings_refusal n units (take (i + 1) sidings) (drop (i + 1) sidings))
sidings_step n units sidings i d within = rw (drop-cons sidings i d, add-one, take-suc sidings i d) refl

-- a siding that is not refused is skipped
pub sidings_on : (n : ℕ) (units : List (Class × List ℤ)) (sidings : List Siding) (i : ℕ) (siding : Siding) → i < length sidings →
    siding ≡ get_or sidings i siding → siding_refusal n units (take i sidings) siding ≡ None →
    sidings_refusal n units (take (i + 1) sidings) (drop (i + 1) sidings) ≡ sidings_refusal n units (take i sidings) (drop i sidings)
sidings_on n units sidings i siding within this passes = sym (rw (← this, passes) at (sidings_step n units sidings i siding within))

-- the first repeated class is the next one, or otherwise one after it
pub repeated_step : (elsewhere : Class → Bool) (classes : List Class) (i : ℕ) (d : Class) → i < length classes →
    first_repeated elsewhere (take i classes) (drop i classes) ≡ cond (elsewhere (get_or classes i d) || lists_class (take i classes) (get_or classes i d))
    (Some (get_or classes i d)) (first_repeated elsewhere (take (i + 1) classes) (drop (i + 1) classes))
repeated_step elsewhere classes i d within = rw (drop-cons classes i d, add-one, take-suc classes i d) refl

-- a class that is not repeated is skipped
pub repeated_on : (elsewhere : Class → Bool) (classes : List Class) (i : ℕ) (d : Class) → i < length classes →
    (elsewhere (get_or classes i d) || lists_class (take i classes) (get_or classes i d)) ≡ false →
    first_repeated elsewhere (take (i + 1) classes) (drop (i + 1) classes) ≡ first_repeated elsewhere (take i classes) (drop i classes)
repeated_on elsewhere classes i d within alone = sym (rw alone at (repeated_step elsewhere classes i d within))

-- one step of the search
found_step : {X : Type 0} (P : X → Type 0) (passes : Bool) (y x : X) (rest : Option X) → P y → cond passes (Some y) rest ≡ Some x → (rest ≡ Some x → P x) → P x
found_step P true y x rest here e later = subst P (same_Some y x e) here
found_step P false y x rest here e later = later e

-- what holds of each element holds of the one that is found
pub found_holds : {X : Type 0} (P : X → Type 0) (test : X → Bool) (xs : List X) (x : X) → All P xs → find test xs ≡ Some x → P x
found_holds P test [] x all e = cc
found_holds P test (y ∷ xs) x all e = found_step P (test y) y x (find test xs) (all 0 y (omega arith)) e
    (λ later. found_holds P test xs x (All-tail P y xs all) later)

-- so if all sidings are small, the one that is found is small
pub found_small : (sidings : List Siding) (c : Class) (siding : Siding) → All IsSmallSiding sidings → siding_for sidings c ≡ Some siding → IsSmallSiding siding
unfolding siding_for
found_small sidings c siding all e = found_holds IsSmallSiding (λ s. lists_class s.classes c) sidings siding all e
