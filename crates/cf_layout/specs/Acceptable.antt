-- The conditions on the parts of a layout under which it is accepted.
use Rattle.std.specs.Prelude.{◌≡◌, ◌≢◌, ℕ, ℤ, ◌≤◌, ◌<◌, ◌<ℤ◌, List, [], ◌∷◌, ◌++◌, length, map, filter, All, true}
use Rattle.rv_inst.specs.declared.classes.Class.{Class}
use Rattle.rv_inst.specs.declared.classes.Class.TheVariants.{Memory, Mul, Div}
use Rattle.cf_layout.specs.declared.parts.Siding.{Siding}
use Rattle.cf_layout.specs.declared.parts.Parts.{Parts}
use Rattle.cf_layout.specs.Layout.{place_of, same_class}
use Rattle.cf_layout.specs.Accepted.{is_needed, is_control}
use Rattle.cf_layout.specs.Asked.{natural, is_integer_within, lists_class, is_asked, stages_listed, ascending}
use Rattle.cf_layout.specs.Refusal.{siding_for, turns_in, memory_launch_in}

-- units or sidings can compute the class
abbrev pub IsComputed : Class → Type 0
IsComputed c = place_of c < 9

-- each class that the parts name is one that units or sidings can compute
pub record AreComputed (parts : Parts) : Type 0 where
  pub units : All (λ unit. IsComputed unit.0) parts.units
  pub sidings : All (λ siding. All IsComputed siding.classes) parts.sidings

-- the classes of the sidings, one after the other
abbrev pub sided_classes : List Siding → List Class
sided_classes [] = []
sided_classes (siding ∷ sidings) = siding.classes ++ sided_classes sidings

-- the classes of all units and sidings
abbrev pub asked_classes : Parts → List Class
asked_classes parts = map (λ unit. unit.0) parts.units ++ sided_classes parts.sidings

-- how often a class is in a list
unfoldable pub times : List Class → Class → ℕ
times classes c = length (filter (same_class c) classes)

-- what has to hold of a unit in a pipeline of n stages
pub record IsUnit (n : ℕ) (unit : Class × List ℤ) : Type 0 where
  -- loads and stores go through a siding
  pub beside_memory : unit.0 ≢ Memory
  -- it has at least one stage, and only stages of the pipeline
  pub some : 0 < length unit.1
  pub stages : All (λ stage. is_integer_within 1 n stage ≡ true) unit.1

-- what has to hold of a siding
pub record IsSiding (n : ℕ) (siding : Siding) : Type 0 where
  -- it is for at least one class
  pub some : 0 < length siding.classes
  pub cells : is_integer_within 1 8 siding.cells ≡ true
  -- it launches from a stage of the pipeline, and recovers at a higher one
  pub launch : is_integer_within 1 n siding.launch ≡ true
  pub recover : is_integer_within 1 n siding.recover ≡ true
  pub order : siding.launch <ℤ siding.recover
  -- Memory shares its siding with no other class
  pub memory_alone : lists_class siding.classes Memory ≡ true → length siding.classes ≡ 1

-- what has to hold of all parts, wherever control turns
pub record AreEquipped (parts : Parts) : Type 0 where
  pub stages : is_integer_within 2 32 parts.stages ≡ true
  pub lane : is_integer_within 2 64 parts.lane ≡ true
  pub few_sidings : length parts.sidings ≤ 8
  pub units : All (IsUnit (natural parts.stages)) parts.units
  pub sidings : All (IsSiding (natural parts.stages)) parts.sidings
  -- no class is listed twice, in units or sidings
  pub once : (c : Class) → times (asked_classes parts) c ≤ 1
  -- no class that every processor computes is missing; of multiplication and division both are present or neither
  pub needed : (c : Class) → is_needed c ≡ true → is_asked parts c ≡ true
  pub pair : is_asked parts Mul ≡ is_asked parts Div

-- what has to hold of all parts
pub record IsAcceptable (parts : Parts) : Type 0 where
  pub equipped : AreEquipped parts
  pub open equipped use *
  -- control turns, at a unit or a recovery, at or below the stage from which loads and stores are launched
  pub control : (c : Class) → is_control c ≡ true → All (λ stage. stage ≤ memory_launch_in parts.sidings)
      (turns_in (ascending (stages_listed parts.units c)) (siding_for parts.sidings c))
