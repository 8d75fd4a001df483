-- The canonical form of a layout.
use Rattle.std.specs.Prelude.{ℕ, List, [], ◌∷◌, ◌++◌, map, codes, decimal, Bool, ◌||◌, if◌then◌else◌}
use Rattle.rv_inst.specs.declared.classes.Class.{Class}
use Rattle.cf_layout.specs.Layout.{SidingPlan, Plan, computed_classes, stages_of, has_mul}
use Rattle.layout_file.specs.declared.format.Format.{Format}
use Rattle.layout_file.specs.declared.format.Format.TheVariants.{First, Second}
use Rattle.layout_file.specs.Names.{class_name}

-- `key = value` and a line feed
unfoldable pub pair_line : List ℕ → List ℕ → List ℕ
pair_line key value = key ++ (codes " = " ++ (value ++ codes "\n"))

-- what follows the first element of an array, with the closing bracket
abbrev pub array_rest : List (List ℕ) → List ℕ
array_rest [] = codes "]"
array_rest (t ∷ ts) = codes ", " ++ (t ++ array_rest ts)

-- an array of these texts
abbrev pub array_text : List (List ℕ) → List ℕ
array_text [] = codes "[]"
array_text (t ∷ ts) = codes "[" ++ (t ++ array_rest ts)

-- the name of a class in quotes
abbrev pub quoted_name : Class → List ℕ
quoted_name c = codes "\"" ++ (class_name c ++ codes "\"")

-- the line of a unit: no line for a class without stages
abbrev pub unit_line : Class → List ℕ → List ℕ
unit_line c [] = []
unit_line c (stage ∷ stages) = pair_line (class_name c) (array_text (map decimal (stage ∷ stages)))

-- the lines of all units
abbrev pub unit_lines : Plan → List Class → List ℕ
unit_lines plan [] = []
unit_lines plan (c ∷ cs) = unit_line c (stages_of plan c) ++ unit_lines plan cs

-- the lines of a siding's numbers
unfoldable pub numbers_text : SidingPlan → List ℕ
numbers_text s = pair_line (codes "launch") (decimal s.launch) ++ (pair_line (codes "recover") (decimal s.recover)
    ++ pair_line (codes "cells") (decimal s.cells))

-- the lines of a siding
unfoldable pub siding_text : SidingPlan → List ℕ
siding_text s = codes "\n[[siding]]\n" ++ (pair_line (codes "classes") (array_text (map quoted_name s.classes)) ++ numbers_text s)

-- the lines of all sidings
abbrev pub siding_texts : List SidingPlan → List ℕ
siding_texts [] = []
siding_texts (s ∷ ss) = siding_text s ++ siding_texts ss

-- the lowest format that has what the layout has: format 2 if it has the cache, or multiplies and divides
abbrev pub needed_format : Plan → Format
needed_format plan = if plan.cache || has_mul plan then Second else First

-- a boolean
abbrev pub truth_text : Bool → List ℕ
truth_text b = if b then codes "true" else codes "false"

-- the line of the cache, only in format 2
abbrev pub cache_key_line : Format → Bool → List ℕ
cache_key_line First cache = []
cache_key_line Second cache = pair_line (codes "cache") (truth_text cache)

-- the number of the format
abbrev pub format_text : Format → List ℕ
format_text First = codes "1"
format_text Second = codes "2"

-- the lines before the units
unfoldable pub top_text : Format → Plan → List ℕ
top_text format plan =
    pair_line (codes "format") (format_text format)
    ++ (pair_line (codes "stages") (decimal plan.stages)
    ++ (pair_line (codes "lane") (decimal plan.lane)
    ++ cache_key_line format plan.cache))

-- the lines of units and sidings
unfoldable pub body_text : Plan → List ℕ
body_text plan = codes "\n[units]\n" ++ (unit_lines plan computed_classes ++ siding_texts plan.sidings)

-- the text of a layout
unfoldable pub layout_text : Plan → List ℕ
layout_text plan = top_text (needed_format plan) plan ++ body_text plan
