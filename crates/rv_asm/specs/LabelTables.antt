-- Labels that are found by their names.
use Rattle.std.specs.Prelude.{◌≡◌, ℕ, ◌<◌, List, length, map, slice_index_or, Option, Some, Vec}
use Rattle.std.specs.BTreeMap.{BTreeMap, get_by}
use Rattle.std.specs.Cmp.Lexicographic.{slice_cmp}
use Rattle.std.specs.Ordering.{nat_cmp}
use Rattle.rv_asm.specs.Labels.{LabelView}

-- the index that a map has for a name
abbrev pub index_of_name : {Z : Type 0} → BTreeMap (Vec ℕ Z) ℕ → List ℕ → Option ℕ
index_of_name places name = get_by (λ key. slice_cmp nat_cmp name key.items) places

abbrev pub names_of : List LabelView → List (List ℕ)
names_of labels = map (λ label. label.name) labels

-- each name is found at its own index, so no name occurs twice; and the index that is found belongs to that name
pub record FindsNames (names : List (List ℕ)) (found : List ℕ → Option ℕ) : Type 0 where
  pub each : (place : ℕ) (d : List ℕ) → place < length names → found (slice_index_or names place d) ≡ Some place
  pub within : (name : List ℕ) (place : ℕ) → found name ≡ Some place → place < length names
  pub only : (name : List ℕ) (place : ℕ) (d : List ℕ) → found name ≡ Some place → slice_index_or names place d ≡ name
