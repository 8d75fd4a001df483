-- Bounds on the objects of sources.
use Rattle.std.specs.Prelude.{ℕ, ◌≤◌, ◌≢◌, List, All, length}
use Rattle.std.specs.List.{flat_map}
use Rattle.rv_asm.specs.declared.object.Object.{Object}
use Rattle.rv_asm.specs.Labels.{LabelView}

-- no byte of the name is NUL
abbrev pub HasNoNul : List ℕ → Type 0
HasNoNul name = All (λ byte. byte ≢ 0) name

-- the names of labels, one after another
abbrev pub joined_names : List LabelView → List ℕ
joined_names labels = flat_map (λ label. label.name) labels

-- at most 1,048,576 bytes of text and of data, at most 524,288 labels, and names without NUL of at most 1,048,576 bytes
-- in total
pub record IsSmallObject (object : Object) : Type 0 where
  pub text : length object.text_bytes ≤ 1048576
  pub data_section : length object.data_bytes ≤ 1048576
  pub labels : length object.labels ≤ 524288
  pub names : HasNoNul (joined_names object.labels)
  pub name_bytes : length (joined_names object.labels) ≤ 1048576
