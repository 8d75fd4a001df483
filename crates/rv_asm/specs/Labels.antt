-- The labels of a source, each with its value (GNU as, "Symbols").
use Rattle.std.specs.Prelude.{ℕ, codes, unwrap_or, Bool, true, Option, List, map, find, option_map, if◌then◌else◌}
use Rattle.std.specs.Str.{bytes_eq}
use Rattle.rv_asm.specs.declared.label.Label.{Label}

-- a label: its name, its value, whether it is in the text, and whether it is exported
pub record LabelView : Type 0 where
  pub name : List ℕ
  pub value : ℕ
  pub in_text : Bool
  pub global : Bool

-- the value of the label with this name
unfoldable pub value_of_label : List LabelView → List ℕ → Option ℕ
value_of_label labels name = option_map (λ label. label.value) (find (λ label. bytes_eq label.name name) labels)

-- a label, exported if it has this name
abbrev pub exported_as : List ℕ → LabelView → LabelView
exported_as name label = if bytes_eq label.name name then record label { global = true } else label

-- the labels, with the label of this name exported
unfoldable pub exported : List LabelView → List ℕ → List LabelView
exported labels name = map (exported_as name) labels

-- the entry point of a program: the label `_start`, or otherwise the start of the text
unfoldable pub entry_point : List LabelView → ℕ
entry_point labels = unwrap_or (value_of_label labels (codes "_start")) 0x10000

-- a label as contracts see it
abbrev pub label_view : Label → LabelView
label_view label = record { name = label.name; value = label.value; in_text = label.in_text; global = label.global }
