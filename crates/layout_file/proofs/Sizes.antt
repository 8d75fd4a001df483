-- The text of an accepted layout is short.
use Rattle.std.proofs.Common.{◌≡◌, ℕ, ◌+◌, ◌*◌, ◌<◌, ◌≤◌, List, [], ◌∷◌, ◌++◌, All, Bool, true, false, length, map, codes, arith, length-append}
use Rattle.std.specs.Prelude.{decimal}
use Rattle.std.proofs.lemmas.Fmt.{length-decimal-le}
use Rattle.std.proofs.lemmas.List.{length-map}
use Rattle.std.proofs.lemmas.List.Elements.{All-tail}
use Rattle.rv_inst.specs.declared.classes.Class.{Class}
use Rattle.rv_inst.specs.declared.classes.Class.TheVariants.{Add, Logic, Shift, Compare, Branch, Jump, Memory, Serial, Free, Mul, Div}
use Rattle.cf_layout.specs.Layout.{Plan, SidingPlan, computed_classes, stages_of}
use Rattle.cf_layout.specs.Accepted.{IsSiding, IsAccepted}
use Rattle.cf_layout.proofs.Ordered.{few_classes}
use Rattle.cf_layout.proofs.Asking.{class_within, class_stages_few}
use Rattle.layout_file.specs.declared.format.Format.{Format}
use Rattle.layout_file.specs.declared.format.Format.TheVariants.{First, Second}
use Rattle.layout_file.specs.Names.{class_name}
use Rattle.layout_file.specs.Text.{pair_line, array_rest, array_text, quoted_name, unit_line, unit_lines, siding_texts, siding_text, numbers_text, cache_key_line, format_text, top_text, body_text}
use Rattle.layout_file.specs.Limits.{most_layout_bytes}
use Rattle.layout_file.proofs.Texts.{AreSmall, UnitsAreSmall, SidingsAreSmall, IsSmall}

-- texts of at most ten bytes
abbrev UpToTen : List (List ℕ) → Type 0
UpToTen [] = Unit {0}
UpToTen (t ∷ ts) = (length t ≤ 10) × UpToTen ts

rest_length : (ts : List (List ℕ)) → UpToTen ts → length (array_rest ts) ≤ 1 + 12 * length ts
rest_length [] h = omega arith
rest_length (t ∷ ts) h =
    let more = rest_length ts h.1 in
    let here = h.0 in
    omega (arith, length-append t (array_rest ts))

array_length : (ts : List (List ℕ)) → UpToTen ts → length (array_text ts) ≤ 2 + 12 * length ts
array_length [] h = omega arith
array_length (t ∷ ts) h =
    let more = rest_length ts h.1 in
    let here = h.0 in
    omega (arith, length-append t (array_rest ts))

pair_length : (k v : List ℕ) → length (pair_line k v) ≡ length k + length v + 4
unfolding pair_line
pair_length k v = omega (arith, length-append k (codes " = " ++ (v ++ codes "\n")), length-append v (codes "\n"))

name_length : (c : Class) → length (class_name c) ≤ 8
name_length Add = omega arith
name_length Logic = omega arith
name_length Shift = omega arith
name_length Compare = omega arith
name_length Branch = omega arith
name_length Jump = omega arith
name_length Memory = omega arith
name_length Serial = omega arith
name_length Free = omega arith
name_length Mul = omega arith
name_length Div = omega arith

quoted_length : (c : Class) → length (quoted_name c) ≤ 10
quoted_length c = let n = name_length c in omega (arith, length-append (class_name c) (codes "\""))

number_length : (n : ℕ) → n < 4294967296 → length (decimal n) ≤ 10
number_length n small = length-decimal-le 10 n (omega arith) (omega arith) (omega arith)

numbers_up : (ns : List ℕ) → AreSmall ns → UpToTen (map decimal ns)
numbers_up [] small = tt
numbers_up (n ∷ ns) small = (number_length n small.0, numbers_up ns small.1)

names_up : (cs : List Class) → UpToTen (map quoted_name cs)
names_up [] = tt
names_up (c ∷ cs) = (quoted_length c, names_up cs)

-- the line of a unit
unit_length : (c : Class) (stages : List ℕ) → length stages ≤ 32 → AreSmall stages → length (unit_line c stages) ≤ 400
unit_length c [] few small = omega arith
unit_length c (i ∷ is) few small =
    let name = name_length c in
    let value = array_length (map decimal (i ∷ is)) (numbers_up (i ∷ is) small) in
    omega (arith, pair_length (class_name c) (array_text (map decimal (i ∷ is))), length-map (i ∷ is) decimal)

units_length : (plan : Plan) (cs : List Class) → ((c : Class) → length (stages_of plan c) ≤ 32) → UnitsAreSmall plan cs →
    length (unit_lines plan cs) ≤ 400 * length cs
units_length plan [] few small = omega arith
units_length plan (c ∷ cs) few small =
    let here = unit_length c (stages_of plan c) (few c) small.0 in
    let more = units_length plan cs few small.1 in
    omega (arith, length-append (unit_line c (stages_of plan c)) (unit_lines plan cs))

-- the lines of a siding
siding_length : (s : SidingPlan) → length s.classes ≤ 9 → (s.launch < 4294967296) × (s.recover < 4294967296) × (s.cells < 4294967296) →
    length (siding_text s) ≤ 400
unfolding siding_text numbers_text
siding_length s few small =
    let names = map quoted_name s.classes in
    let l1 = pair_line (codes "classes") (array_text names) in
    let l2 = pair_line (codes "launch") (decimal s.launch) in
    let l3 = pair_line (codes "recover") (decimal s.recover) in
    let l4 = pair_line (codes "cells") (decimal s.cells) in
    let value = array_length names (names_up s.classes) in
    let n2 = number_length s.launch small.0 in
    let n3 = number_length s.recover small.1 in
    let n4 = number_length s.cells small.2 in
    omega (
      arith,
      length-map s.classes quoted_name,
      length-append l1 (l2 ++ (l3 ++ l4)),
      length-append l2 (l3 ++ l4),
      length-append l3 l4,
      pair_length (codes "classes") (array_text names),
      pair_length (codes "launch") (decimal s.launch),
      pair_length (codes "recover") (decimal s.recover),
      pair_length (codes "cells") (decimal s.cells),
    )

abbrev AreShort : List SidingPlan → Type 0
AreShort [] = Unit {0}
AreShort (s ∷ ss) = (length s.classes ≤ 9) × AreShort ss

sidings_length : (ss : List SidingPlan) → AreShort ss → SidingsAreSmall ss → length (siding_texts ss) ≤ 400 * length ss
sidings_length [] few small = omega arith
sidings_length (s ∷ ss) few small =
    let here = siding_length s few.0 small.0 in
    let more = sidings_length ss few.1 small.1 in
    omega (arith, length-append (siding_text s) (siding_texts ss))

-- the first lines
cache_length : (format : Format) (cache : Bool) → length (cache_key_line format cache) ≤ 20
unfolding pair_line
cache_length First cache = omega arith
cache_length Second true = omega arith
cache_length Second false = omega arith

format_length : (format : Format) → length (pair_line (codes "format") (format_text format)) ≤ 20
unfolding pair_line
format_length First = omega arith
format_length Second = omega arith

head_length : (format : Format) (plan : Plan) → plan.stages < 4294967296 → plan.lane < 4294967296 → length (top_text format plan) ≤ 100
unfolding top_text
head_length format plan stages lane =
    let l1 = pair_line (codes "format") (format_text format) in
    let l2 = pair_line (codes "stages") (decimal plan.stages) in
    let l3 = pair_line (codes "lane") (decimal plan.lane) in
    let l4 = cache_key_line format plan.cache in
    let n1 = format_length format in
    let n2 = number_length plan.stages stages in
    let n3 = number_length plan.lane lane in
    let n4 = cache_length format plan.cache in
    omega (
      arith,
      length-append l1 (l2 ++ (l3 ++ l4)),
      length-append l2 (l3 ++ l4),
      length-append l3 l4,
      pair_length (codes "stages") (decimal plan.stages),
      pair_length (codes "lane") (decimal plan.lane),
    )

-- the whole text
whole_length : (format : Format) (plan : Plan) → ((c : Class) → length (stages_of plan c) ≤ 32) → length plan.sidings ≤ 8 →
    AreShort plan.sidings → IsSmall plan → length (top_text format plan ++ body_text plan) ≤ most_layout_bytes
unfolding body_text
whole_length format plan few eight short small =
    let units = unit_lines plan computed_classes in
    let sidings = siding_texts plan.sidings in
    let n1 = head_length format plan small.stages small.lane in
    let n2 = units_length plan computed_classes few small.units in
    let n3 = sidings_length plan.sidings short small.sidings in
    omega (
      arith,
      length-append (top_text format plan) (codes "\n[units]\n" ++ (units ++ sidings)),
      length-append (codes "\n[units]\n") (units ++ sidings),
      length-append units sidings,
    )

-- the numbers of an accepted layout are small
stages_small : (n : ℕ) (stages : List ℕ) → n ≤ 32 → All (λ i. (1 ≤ i) × (i ≤ n)) stages → AreSmall stages
stages_small n [] high all = tt
stages_small n (i ∷ is) high all = let low = (all 0 i (omega arith)).1 in (omega arith, stages_small n is high (All-tail (λ j. (1 ≤ j) × (j ≤ n)) i is all))

units_small : (plan : Plan) → IsAccepted plan → (cs : List Class) → UnitsAreSmall plan cs
units_small plan a [] = tt
units_small plan a (c ∷ cs) = (stages_small plan.stages (stages_of plan c) a.stages.1 (class_within plan a c).1, units_small plan a cs)

sidings_small : (plan : Plan) (ss : List SidingPlan) → plan.stages ≤ 32 → All (IsSiding plan) ss → SidingsAreSmall ss × AreShort ss
sidings_small plan [] high all = (tt, tt)
sidings_small plan (s ∷ ss) high all =
    let here = all 0 s (omega arith) in
    let (small, short) = sidings_small plan ss high (All-tail (IsSiding plan) s ss all) in
    let launch = here.launches.1 in
    let recover = here.recovers.1 in
    let cells = here.cells.1 in
    (((omega arith, omega arith, omega arith), small), (few_classes s.classes here.ordered here.computed, short))

pub accepted_small : (plan : Plan) → IsAccepted plan → IsSmall plan
accepted_small plan a =
    let high = a.stages.1 in
    let lane = a.lane.1 in
    record {
      stages = omega arith;
      lane = omega arith;
      units = units_small plan a computed_classes;
      sidings = (sidings_small plan plan.sidings high a.sidings).0;
    }

-- so its text is short
pub text_short : (format : Format) (plan : Plan) → IsAccepted plan → length (top_text format plan ++ body_text plan) ≤ most_layout_bytes
text_short format plan a = whole_length format plan (class_stages_few plan a) a.few_sidings (sidings_small plan plan.sidings a.stages.1 a.sidings).1
    (accepted_small plan a)
