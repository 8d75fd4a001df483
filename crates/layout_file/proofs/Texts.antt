-- The text of a layout is a document of its members, in the order of the text.
use Rattle.std.proofs.Common.{◌≡◌, ℕ, ℤ, pos, ◌<◌, ◌≤◌, Bool, true, false, List, [], ◌∷◌, ◌++◌, map, codes, Some, refl, ap, ◌∙◌, arith, append-nil, append_assoc}
use Rattle.std.specs.Prelude.{FitsSigned, decimal}
use Rattle.std.specs.Int.{w64}
use Rattle.std.specs.Fmt.{signed_decimal, digits}
use Rattle.std.proofs.lemmas.Int.{fits_signed_from_abs}
use Rattle.std.proofs.lemmas.Bool.Decides.{nat_tests}
use Rattle.toml_writer.specs.Text.{key_text, string_text, encoding_of, escaped, needs_escape, quotes_after}
use Rattle.toml.specs.Data.{Data, integer, boolean, table, array, Items, item, no_items, items_depth, members_depth, items_have_valid_dates, members_have_valid_dates}
use Rattle.toml.specs.Tables.{key_value}
use Rattle.toml.specs.Parse.{parse_document}
use Rattle.toml.specs.Text.{IsValueText, IsItemsText, IsLineText, IsLinesText, IsDocumentText, breaks_lines, pairs, sections, section, elements}
use Rattle.toml.proofs.Lines.{after, IsLinesText-append}
use Rattle.rv_inst.specs.declared.classes.Class.{Class}
use Rattle.rv_inst.specs.declared.classes.Class.TheVariants.{Add, Logic, Shift, Compare, Branch, Jump, Memory, Serial, Free, Mul, Div}
use Rattle.cf_layout.specs.declared.parts.Siding.{Siding}
use Rattle.cf_layout.specs.declared.parts.Parts.{Parts}
use Rattle.cf_layout.specs.Layout.{Plan, SidingPlan, computed_classes, stages_of}
use Rattle.cf_layout.proofs.Asking.{unit_for, units_for, asking_siding, asking}
use Rattle.layout_file.specs.declared.format.Format.{Format}
use Rattle.layout_file.specs.declared.format.Format.TheVariants.{First, Second}
use Rattle.layout_file.specs.Names.{class_name}
use Rattle.layout_file.specs.Text.{pair_line, array_rest, array_text, quoted_name, unit_line, unit_lines, siding_texts, siding_text, numbers_text, truth_text, top_text, body_text}
use Rattle.layout_file.proofs.Documents.{integers, names, unit_members, siding_tables, sidings_last, file_members, table_of, integers_pair, names_pair, sidings_tables}
use Rattle.layout_file.proofs.Filling.{AreDistinct, units_header, layout_filled}
use Rattle.layout_file.proofs.Unsorted.{parse_document-filled}

-- numbers of 32 bits are integers of the file
abbrev pub AreSmall : List ℕ → Type 0
AreSmall [] = Unit {0}
AreSmall (n ∷ ns) = (n < 4294967296) × AreSmall ns

pub number_fits : (n : ℕ) → n < 4294967296 → FitsSigned w64 (pos n)
number_fits n small = fits_signed_from_abs w64 (pos n) (omega arith)

abbrev pub UnitsAreSmall : Plan → List Class → Type 0
UnitsAreSmall plan [] = Unit {0}
UnitsAreSmall plan (c ∷ cs) = AreSmall (stages_of plan c) × UnitsAreSmall plan cs

abbrev pub SidingsAreSmall : List SidingPlan → Type 0
SidingsAreSmall [] = Unit {0}
SidingsAreSmall (s ∷ ss) = ((s.launch < 4294967296) × (s.recover < 4294967296) × (s.cells < 4294967296)) × SidingsAreSmall ss

pub record IsSmall (plan : Plan) : Type 0 where
  pub stages : plan.stages < 4294967296
  pub lane : plan.lane < 4294967296
  pub units : UnitsAreSmall plan computed_classes
  pub sidings : SidingsAreSmall plan.sidings

one_line : (ds : Items) → breaks_lines false ds ≡ false
one_line no_items = refl
one_line (item d no_items) = refl
one_line (item d (item e ds)) = refl

-- the text of an array of numbers
rest_numbers : (ns : List ℕ) → AreSmall ns → IsItemsText false false false (integers (map (λ n. pos n) ns)) (array_rest (map decimal ns))
rest_numbers [] small = refl
rest_numbers (n ∷ ns) small = (decimal n, array_rest (map decimal ns), refl, (refl, number_fits n small.0), rest_numbers ns small.1)

numbers_array : (n : ℕ) (ns : List ℕ) → AreSmall (n ∷ ns) → IsValueText false (array (integers (map (λ m. pos m) (n ∷ ns)))) (array_text (map decimal (n ∷ ns)))
numbers_array n ns small = (
  decimal n ++ array_rest (map decimal ns),
  refl,
  rw (one_line (integers (map (λ m. pos m) (n ∷ ns)))) (
    decimal n,
    array_rest (map decimal ns),
    refl,
    (refl, number_fits n small.0),
    rest_numbers ns small.1,
  ),
)

-- the text of an array of words
name_text : (c : Class) → quoted_name c ≡ string_text (class_name c)
unfolding string_text encoding_of escaped needs_escape quotes_after
name_text Add = refl
name_text Logic = refl
name_text Shift = refl
name_text Compare = refl
name_text Branch = refl
name_text Jump = refl
name_text Memory = refl
name_text Serial = refl
name_text Free = refl
name_text Mul = refl
name_text Div = refl

rest_names : (cs : List Class) → IsItemsText false false false (names cs) (array_rest (map quoted_name cs))
rest_names [] = refl
rest_names (c ∷ cs) = (quoted_name c, array_rest (map quoted_name cs), refl, name_text c, rest_names cs)

names_text : (cs : List Class) → IsValueText false (array (names cs)) (array_text (map quoted_name cs))
names_text [] = (codes "]", refl, refl)
names_text (c ∷ cs) = (
  quoted_name c ++ array_rest (map quoted_name cs),
  refl,
  rw (one_line (names (c ∷ cs))) (
    quoted_name c,
    array_rest (map quoted_name cs),
    refl,
    name_text c,
    rest_names cs,
  ),
)

class_key : (c : Class) → class_name c ≡ key_text (class_name c)
unfolding key_text
class_key Add = refl
class_key Logic = refl
class_key Shift = refl
class_key Compare = refl
class_key Branch = refl
class_key Jump = refl
class_key Memory = refl
class_key Serial = refl
class_key Free = refl
class_key Mul = refl
class_key Div = refl

-- one line
line_of : (started : Bool) (k value : List ℕ) (d : Data) → k ≡ key_text k → IsValueText false d value →
    IsLineText false started ([], k) (key_value d) (pair_line k value)
unfolding pair_line
line_of started k value d key text = (value, ap (λ t. t ++ (codes " = " ++ (value ++ codes "\n"))) key, text)

-- the lines of the units, with one more
unit_text : (c : Class) (stages : List ℕ) (us : List (Class × List ℤ)) (rest : List ℕ) → AreSmall stages →
    IsLinesText false true (pairs (unit_members us)) rest → IsLinesText false true (pairs (unit_members (unit_for c stages ++ us))) (unit_line c stages ++ rest)
unit_text c [] us rest small more = more
unit_text c (i ∷ is) us rest small more =
    rw (integers_pair (map (λ n. pos n) (i ∷ is))) (
      unit_line c (i ∷ is),
      rest,
      refl,
      line_of true (class_name c) _ (array (integers (map (λ n. pos n) (i ∷ is)))) (class_key c) (numbers_array i is small),
      more,
    )

unit_pairs_text : (plan : Plan) (cs : List Class) → UnitsAreSmall plan cs → IsLinesText false true (pairs (unit_members (units_for (stages_of plan) cs)))
    (unit_lines plan cs)
unit_pairs_text plan [] small = refl
unit_pairs_text plan (c ∷ cs) small = unit_text c (stages_of plan c) (units_for (stages_of plan) cs) (unit_lines plan cs) small.0
    (unit_pairs_text plan cs small.1)

no_section : (zs : List ℤ) (path : List (List ℕ)) (k : List ℕ) → section (path, k) (array (integers zs)) ≡ []
no_section [] path k = refl
no_section (z ∷ zs) path k = refl

no_names_section : (cs : List Class) (path : List (List ℕ)) (k : List ℕ) → section (path, k) (array (names cs)) ≡ []
no_names_section [] path k = refl
no_names_section (c ∷ cs) path k = refl

no_unit_sections : (us : List (Class × List ℤ)) (path : List (List ℕ)) → sections path (unit_members us) ≡ []
no_unit_sections [] path = refl
no_unit_sections (u ∷ us) path = rw (no_section u.1 path (class_name u.0)) (no_unit_sections us path)

-- the header of the units, and their lines
units_text : (us : List (Class × List ℤ)) (lines : List ℕ) → IsLinesText false true (pairs (unit_members us)) lines →
    IsLinesText false true (section ([], codes "units") (table (unit_members us))) (codes "\n[units]\n" ++ lines)
unfolding key_text
units_text us lines text =
    rw (units_header us, no_unit_sections us (codes "units" ∷ []), append-nil (pairs (unit_members us)))
    (codes "\n[units]\n", lines, refl, refl, text)

-- the lines of one siding, before those of the others
one_siding : (s : SidingPlan) (ss : List SidingPlan) → (s.launch < 4294967296) × (s.recover < 4294967296) × (s.cells < 4294967296)
    → IsLinesText false true (elements ([], codes "siding") (siding_tables (map asking_siding ss))) (siding_texts ss)
    → IsLinesText false true (elements ([], codes "siding") (siding_tables (map asking_siding (s ∷ ss)))) (siding_texts (s ∷ ss))
unfolding key_text siding_text numbers_text
one_siding s ss small more =
    let head = codes "\n[[siding]]\n" in
    let l1 = pair_line (codes "classes") (array_text (map quoted_name s.classes)) in
    let l2 = pair_line (codes "launch") (decimal s.launch) in
    let l3 = pair_line (codes "recover") (decimal s.recover) in
    let l4 = pair_line (codes "cells") (decimal s.cells) in
    let same : siding_text s ++ siding_texts ss ≡ head ++ (l1 ++ (l2 ++ (l3 ++ (l4 ++ siding_texts ss)))) = simp append_assoc refl in
    rw (names_pair s.classes, no_names_section s.classes (codes "siding" ∷ []) (codes "classes")) (
      head,
      l1 ++ (l2 ++ (l3 ++ (l4 ++ siding_texts ss))),
      same,
      refl,
      (
        l1,
        l2 ++ (l3 ++ (l4 ++ siding_texts ss)),
        refl,
        line_of true (codes "classes") _ (array (names s.classes)) refl (names_text s.classes),
        (
          l2,
          l3 ++ (l4 ++ siding_texts ss),
          refl,
          line_of true (codes "launch") _ (integer (pos s.launch)) refl (refl, number_fits s.launch small.0),
          (
            l3,
            l4 ++ siding_texts ss,
            refl,
            line_of true (codes "recover") _ (integer (pos s.recover)) refl (refl, number_fits s.recover small.1),
            (l4, siding_texts ss, refl, line_of true (codes "cells") _ (integer (pos s.cells)) refl (refl, number_fits s.cells small.2), more),
          ),
        ),
      ),
    )

each_siding : (ss : List SidingPlan) → SidingsAreSmall ss → IsLinesText false true (elements ([], codes "siding") (siding_tables (map asking_siding ss)))
    (siding_texts ss)
each_siding [] small = refl
each_siding (s ∷ ss) small = one_siding s ss small.0 (each_siding ss small.1)

last_section : (s : Siding) (ss : List Siding) → sections [] (sidings_last (s ∷ ss)) ≡ elements ([], codes "siding") (siding_tables (s ∷ ss))
last_section s ss = rw (sidings_tables ss) (append-nil _)

sidings_text : (ss : List SidingPlan) → SidingsAreSmall ss → IsLinesText false true (sections [] (sidings_last (map asking_siding ss))) (siding_texts ss)
sidings_text [] small = refl
sidings_text (s ∷ ss) small = rw (last_section (asking_siding s) (map asking_siding ss)) (each_siding (s ∷ ss) small)

no_top_pairs : (ss : List Siding) → pairs (sidings_last ss) ≡ []
no_top_pairs [] = refl
no_top_pairs (s ∷ ss) = rw (sidings_tables ss)

one_text : codes "1" ≡ signed_decimal (pos 1)
unfolding digits
one_text = refl

two_text : codes "2" ≡ signed_decimal (pos 2)
unfolding digits
two_text = refl

started : (us : List (Class × List ℤ)) → after true (section ([], codes "units") (table (unit_members us))) ≡ true
started us = refl

-- the lines after the first ones
body_written : (plan : Plan) → IsSmall plan → IsLinesText false true (section ([], codes "units") (table (unit_members (asking plan).units))
    ++ sections [] (sidings_last (asking plan).sidings)) (body_text plan)
unfolding body_text
body_written plan small =
    let same : codes "\n[units]\n" ++ (unit_lines plan computed_classes ++ siding_texts plan.sidings)
    ≡ (codes "\n[units]\n" ++ unit_lines plan computed_classes) ++ siding_texts plan.sidings = refl in
    rw same (IsLinesText-append false true _ _ _ _ (units_text (asking plan).units _ (unit_pairs_text plan computed_classes small.units))
    (rw (started (asking plan).units) (sidings_text plan.sidings small.sidings)))

-- the first lines, one after the other, and what follows them
head_first : (plan : Plan) (rest : List ℕ) → top_text First plan ++ rest ≡ pair_line (codes "format") (codes "1")
    ++ (pair_line (codes "stages") (decimal plan.stages) ++ (pair_line (codes "lane") (decimal plan.lane) ++ rest))
unfolding top_text
head_first plan rest = simp append_assoc refl

head_second : (plan : Plan) (rest : List ℕ) → top_text Second plan ++ rest ≡ pair_line (codes "format") (codes "2")
    ++ (pair_line (codes "stages") (decimal plan.stages) ++ (pair_line (codes "lane") (decimal plan.lane)
    ++ (pair_line (codes "cache") (truth_text plan.cache) ++ rest)))
unfolding top_text
head_second plan rest = simp append_assoc refl

-- the whole text, in either format
pub text_written : (format : Format) (plan : Plan) → IsSmall plan → IsDocumentText false (file_members format (asking plan)) (top_text format plan
    ++ body_text plan)
unfolding key_text
text_written First plan small =
    let l1 = pair_line (codes "format") (codes "1") in
    let l2 = pair_line (codes "stages") (decimal plan.stages) in
    let l3 = pair_line (codes "lane") (decimal plan.lane) in
    let tail = body_text plan in
    rw (no_top_pairs (asking plan).sidings) (
      l1,
      l2 ++ (l3 ++ tail),
      head_first plan tail,
      line_of false (codes "format") _ (integer (pos 1)) refl (one_text, number_fits 1 (omega arith)),
      (
        l2,
        l3 ++ tail,
        refl,
        line_of true (codes "stages") _ (integer (pos plan.stages)) refl (refl, number_fits plan.stages small.stages),
        (l3, tail, refl, line_of true (codes "lane") _ (integer (pos plan.lane)) refl (refl, number_fits plan.lane small.lane), body_written plan small),
      ),
    )
text_written Second plan small =
    let l1 = pair_line (codes "format") (codes "2") in
    let l2 = pair_line (codes "stages") (decimal plan.stages) in
    let l3 = pair_line (codes "lane") (decimal plan.lane) in
    let l4 = pair_line (codes "cache") (truth_text plan.cache) in
    let tail = body_text plan in
    rw (no_top_pairs (asking plan).sidings) (
      l1,
      l2 ++ (l3 ++ (l4 ++ tail)),
      head_second plan tail,
      line_of false (codes "format") _ (integer (pos 2)) refl (two_text, number_fits 2 (omega arith)),
      (
        l2,
        l3 ++ (l4 ++ tail),
        refl,
        line_of true (codes "stages") _ (integer (pos plan.stages)) refl (refl, number_fits plan.stages small.stages),
        (
          l3,
          l4 ++ tail,
          refl,
          line_of true (codes "lane") _ (integer (pos plan.lane)) refl (refl, number_fits plan.lane small.lane),
          (l4, tail, refl, line_of true (codes "cache") _ (boolean plan.cache) refl refl, body_written plan small),
        ),
      ),
    )

-- the table is not deep, and holds no date-time
integers_flat : (zs : List ℤ) → (items_depth (integers zs) ≤ 1) × (items_have_valid_dates (integers zs) ≡ true)
integers_flat [] = (omega arith, refl)
integers_flat (z ∷ zs) = let (d, v) = integers_flat zs in (grind (arith, nat_tests), v)

names_flat : (cs : List Class) → (items_depth (names cs) ≤ 1) × (items_have_valid_dates (names cs) ≡ true)
names_flat [] = (omega arith, refl)
names_flat (c ∷ cs) = let (d, v) = names_flat cs in (grind (arith, nat_tests), v)

units_flat : (us : List (Class × List ℤ)) → (members_depth (unit_members us) ≤ 5) × (members_have_valid_dates (unit_members us) ≡ true)
units_flat [] = (omega arith, refl)
units_flat (u ∷ us) =
    let (d, v) = units_flat us in
    let (e, w) = integers_flat u.1 in
    (grind (arith, nat_tests), rw (w, v))

sidings_flat : (ss : List Siding) → (items_depth (siding_tables ss) ≤ 5) × (items_have_valid_dates (siding_tables ss) ≡ true)
sidings_flat [] = (omega arith, refl)
sidings_flat (s ∷ ss) =
    let (d, v) = sidings_flat ss in
    let (e, w) = names_flat s.classes in
    (grind (arith, nat_tests), rw (w, v))

last_flat : (ss : List Siding) → (members_depth (sidings_last ss) ≤ 7) × (members_have_valid_dates (sidings_last ss) ≡ true)
last_flat [] = (omega arith, refl)
last_flat (s ∷ ss) =
    let (d, v) = sidings_flat (s ∷ ss) in
    (grind (arith, nat_tests), rw v)

file_flat : (format : Format) (p : Parts) → (members_depth (file_members format p) ≤ 80) × (members_have_valid_dates (file_members format p) ≡ true)
file_flat First p =
    let (d, v) = units_flat p.units in
    let (e, w) = last_flat p.sidings in
    (grind (arith, nat_tests), rw (v, w))
file_flat Second p =
    let (d, v) = units_flat p.units in
    let (e, w) = last_flat p.sidings in
    (grind (arith, nat_tests), rw (v, w))

-- the text of a layout is read as its table
pub text_read : (format : Format) (plan : Plan) → AreDistinct (asking plan).units → IsSmall plan →
    parse_document (top_text format plan ++ body_text plan) ≡ Some (table_of format (asking plan))
text_read format plan distinct small =
    let (n, filled, closed) = layout_filled format (asking plan) distinct in
    let (deep, valid) = file_flat format (asking plan) in
    parse_document-filled (file_members format (asking plan)) n (top_text format plan ++ body_text plan) (text_written format plan small) deep valid filled
    ∙ ap Some closed
