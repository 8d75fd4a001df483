-- What the parts of a layout request, and the layout that they describe.
use Rattle.std.specs.Prelude.{◌≡◌, true, ℕ, ℤ, pos, negsuc, List, [], filter, find, map, nat_eq, nat_le, Bool, false, ◌||◌, ◌&&◌, Option, Some, None}
use Rattle.std.specs.List.{list_any, range_with_len}
use Rattle.rv_inst.specs.declared.classes.Class.{Class}
use Rattle.cf_layout.specs.declared.parts.Siding.{Siding}
use Rattle.cf_layout.specs.declared.parts.Parts.{Parts}
use Rattle.cf_layout.specs.Layout.{SidingPlan, Plan, computed_classes, same_class}

-- the number, or 0 if it is below 0
abbrev pub natural : ℤ → ℕ
natural (pos n) = n
natural (negsuc n) = 0

-- the number is from `least` to `most`
abbrev pub is_integer_within : ℕ → ℕ → ℤ → Bool
is_integer_within least most (pos n) = nat_le least n && nat_le n most
is_integer_within least most (negsuc n) = false

-- the number is n
abbrev pub is_integer : ℕ → ℤ → Bool
is_integer n (pos m) = nat_eq n m
is_integer n (negsuc m) = false

-- the list names the class
abbrev pub lists_class : List Class → Class → Bool
lists_class classes c = list_any (same_class c) classes

-- the entry's stages, if there is an entry
abbrev pub stages_in : Option (Class × List ℤ) → List ℤ
stages_in None = []
stages_in (Some unit) = unit.1

-- the stages that are listed for the units of the class
unfoldable pub stages_listed : List (Class × List ℤ) → Class → List ℤ
stages_listed units c = stages_in (find (λ unit. same_class c unit.0) units)

-- the numbers of all stages that a pipeline can have
unfoldable pub stage_numbers : List ℕ
stage_numbers = range_with_len 1 32

-- these stages, ascending and each once
unfoldable pub ascending : List ℤ → List ℕ
ascending stages = filter (λ i. list_any (is_integer i) stages) stage_numbers

-- these classes, in class order and each once
unfoldable pub in_class_order : List Class → List Class
in_class_order classes = filter (lists_class classes) computed_classes

-- the requested siding
unfoldable pub siding_plan : Siding → SidingPlan
siding_plan siding = record
    { classes = in_class_order siding.classes; launch = natural siding.launch; recover = natural siding.recover; cells = natural siding.cells }

-- the requested units: for each class in class order their stages
unfoldable pub units_plan : List (Class × List ℤ) → List (List ℕ)
units_plan units = map (λ c. ascending (stages_listed units c)) computed_classes

-- the layout that the parts describe
unfoldable pub plan_of : Parts → Plan
plan_of parts = record {
  stages = natural parts.stages;
  lane = natural parts.lane;
  cache = parts.cache;
  units = units_plan parts.units;
  sidings = map siding_plan parts.sidings;
}

-- a class is in a unit, or in a siding
abbrev pub is_unit : List (Class × List ℤ) → Class → Bool
is_unit units c = list_any (λ unit. same_class c unit.0) units

abbrev pub is_sided : List Siding → Class → Bool
is_sided sidings c = list_any (λ siding. lists_class siding.classes c) sidings

-- a class is in a unit or in a siding
unfoldable pub is_asked : Parts → Class → Bool
is_asked parts c = is_unit parts.units c || is_sided parts.sidings c

-- the numbers of a siding are natural numbers of 32 bits
pub record IsSmallSiding (siding : Siding) : Type 0 where
  pub launch : is_integer_within 0 4294967295 siding.launch ≡ true
  pub recover : is_integer_within 0 4294967295 siding.recover ≡ true
  pub cells : is_integer_within 0 4294967295 siding.cells ≡ true
