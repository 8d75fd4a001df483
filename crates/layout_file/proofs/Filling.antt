-- The table that the lines of a layout fill in.
use Rattle.std.proofs.Common.{◌≡◌, ℕ, ℤ, Ordering, Less, Equal, Greater, nat_cmp, is_eq, Bool, true, false, cond, List, [], ◌∷◌, codes, Option, Some, None, refl, sym, ◌∙◌}
use Rattle.std.proofs.lemmas.Bool.{false≢true}
use Rattle.std.proofs.lemmas.Option.{none-some}
use Rattle.std.specs.Cmp.Lexicographic.{slice_cmp}
use Rattle.std.specs.Ordering.{match_ordering}
use Rattle.toml.specs.Data.{Data, integer, table, array, Items, no_items, push_item, Members, member, no_members, get_member, same_key, boolean}
use Rattle.toml.specs.Tables.{Node, Nodes, no_nodes, node, value, open_table, open_array, header, get_node, insert, at_key, put, along_header, along_dots, close, close_node, std_table, array_table}
use Rattle.toml.specs.Text.{needs_header}
use Rattle.toml.proofs.ReadValues.{item_join, item_join-none, item_join-push}
use Rattle.toml.proofs.Fill.{fill, fill_pairs, fill_sections, fill_section, fill_elements}
use Rattle.rv_inst.specs.declared.classes.Class.{Class}
use Rattle.cf_layout.specs.declared.parts.Siding.{Siding}
use Rattle.cf_layout.specs.declared.parts.Parts.{Parts}
use Rattle.layout_file.specs.declared.format.Format.{Format}
use Rattle.layout_file.specs.declared.format.Format.TheVariants.{First, Second}
use Rattle.layout_file.specs.Names.{class_name}
use Rattle.layout_file.proofs.Documents.{integers, names, format_number, unit_members, siding_members, siding_tables, sidings_last, file_members, place, unit_table, siding_table, siding_items, top_table, table_of, integers_pair, names_pair, sidings_tables}

-- a key that is missing is inserted at its position
absent-step : (o : Ordering) (x : Node) (d : Data) (a : Option Node) (b : Option Data) → match_ordering o b (Some d) b ≡ None → (b ≡ None → a ≡ None) →
    cond (is_eq o) (Some x) a ≡ None
absent-step Less x d a b h ih = ih h
absent-step Equal x d a b h ih = absurd (none-some d (sym h))
absent-step Greater x d a b h ih = ih h

absent : (k : List ℕ) (ns : Nodes) → get_member k (close ns) ≡ None → get_node k ns ≡ None
absent k no_nodes h = refl
absent k (node l x ns) h = absent-step (slice_cmp nat_cmp k l) x (close_node x) (get_node k ns) (get_member k (close ns)) h (absent k ns)

close-step : (o : Ordering) (a b c : Nodes) → close (match_ordering o a b c) ≡ match_ordering o (close a) (close b) (close c)
close-step Less a b c = refl
close-step Equal a b c = refl
close-step Greater a b c = refl

close-insert : (k : List ℕ) (x : Node) (ns : Nodes) → close (insert k x ns) ≡ place k (close_node x) (close ns)
close-insert k x no_nodes = refl
close-insert k x (node l y ns) = close-step (slice_cmp nat_cmp k l) _ _ _ ∙ rw (close-insert k x ns)

put-absent : (k : List ℕ) (d : Data) (ns : Nodes) → get_member k (close ns) ≡ None → (n : Nodes) × (put ([], k) d ns ≡ Some n)
    × (close n ≡ place k d (close ns))
unfolding along_dots at_key
put-absent k d ns h = (insert k (value d) ns, rw (absent k ns h), close-insert k (value d) ns)

-- another key keeps its value
other-step : (o : Ordering) (p : Ordering) (d e : Data) (r s : Option Data) → is_eq p ≡ false → r ≡ s → match_ordering p r (Some d) r ≡ s
other-step o Less d e r s h same = same
other-step o Equal d e r s h same = absurd (false≢true (sym h))
other-step o Greater d e r s h same = same

place-other-step : (o : Ordering) (k l j : List ℕ) (d e : Data) (ms : Members) → same_key k l ≡ false →
    match_ordering o (get_member l ms) (Some e) (get_member l ms) ≡ None
    → (get_member l ms ≡ None → get_member k (place l d ms) ≡ get_member k ms)
    → get_member k (match_ordering o (member l d (member j e ms)) (member j d ms) (member j e (place l d ms))) ≡ get_member k (member j e ms)
place-other-step Less k l j d e ms h gone ih = other-step Less (slice_cmp nat_cmp k l) d d _ _ h refl
place-other-step Equal k l j d e ms h gone ih = absurd (none-some e (sym gone))
place-other-step Greater k l j d e ms h gone ih = rw (ih gone)

pub get-place-other : (k l : List ℕ) (d : Data) (ms : Members) → same_key k l ≡ false → get_member l ms ≡ None → get_member k (place l d ms) ≡ get_member k ms
get-place-other k l d no_members h gone = other-step Less (slice_cmp nat_cmp k l) d d None None h refl
get-place-other k l d (member j e ms) h gone = place-other-step (slice_cmp nat_cmp l j) k l j d e ms h gone (get-place-other k l d ms h)

-- the units' keys differ, and none of them is among these members
abbrev pub AreAbsent : List (Class × List ℤ) → Members → Type 0
AreAbsent [] ms = Unit {0}
AreAbsent (u ∷ us) ms = (get_member (class_name u.0) ms ≡ None) × AreAbsent us ms

abbrev pub AreOthers : Class → List (Class × List ℤ) → Type 0
AreOthers c [] = Unit {0}
AreOthers c (u ∷ us) = (same_key (class_name u.0) (class_name c) ≡ false) × AreOthers c us

abbrev pub AreDistinct : List (Class × List ℤ) → Type 0
AreDistinct [] = Unit {0}
AreDistinct (u ∷ us) = AreOthers u.0 us × AreDistinct us

absent-place : (us : List (Class × List ℤ)) (c : Class) (d : Data) (ms : Members) → AreOthers c us → get_member (class_name c) ms ≡ None → AreAbsent us ms →
    AreAbsent us (place (class_name c) d ms)
absent-place [] c d ms others gone h = tt
absent-place (u ∷ us) c d ms others gone h =
    (get-place-other (class_name u.0) (class_name c) d ms others.0 gone ∙ h.0, absent-place us c d ms others.1 gone h.1)

absent-none : (us : List (Class × List ℤ)) → AreAbsent us no_members
absent-none [] = tt
absent-none (u ∷ us) = (refl, absent-none us)

-- the lines of `units`
units_filled : (us : List (Class × List ℤ)) (ns : Nodes) → AreDistinct us → AreAbsent us (close ns) →
    (n : Nodes) × (fill_pairs (unit_members us) ns ≡ Some n) × (close n ≡ unit_table us (close ns))
units_filled [] ns distinct gone = (ns, refl, refl)
units_filled (u ∷ us) ns distinct gone =
    let d = array (integers u.1) in
    let (m, made, closed) = put-absent (class_name u.0) d ns gone.0 in
    let (n, filled, all) = units_filled us m distinct.1 (rw closed (absent-place us u.0 d (close ns) distinct.0 gone.0 gone.1)) in
    (n, rw (integers_pair u.1, made) filled, all ∙ rw closed)

units_sections : (us : List (Class × List ℤ)) (ns : Nodes) → fill_sections (unit_members us) ns ≡ Some ns
units_sections [] ns = refl
units_sections (u ∷ us) ns = rw (integers_pair u.1) (units_sections us ns)

pub units_header : (us : List (Class × List ℤ)) → needs_header (unit_members us) ≡ true
units_header [] = refl
units_header (u ∷ us) = rw (integers_pair u.1)

-- the lines of a siding
abbrev siding_nodes : Siding → Nodes
siding_nodes s = node (codes "cells") (value (integer s.cells)) (node (codes "classes") (value (array (names s.classes)))
    (node (codes "launch") (value (integer s.launch)) (node (codes "recover") (value (integer s.recover)) no_nodes)))

siding_filled : (s : Siding) → fill (siding_members s) no_nodes ≡ Some (siding_nodes s)
unfolding along_dots at_key
siding_filled s = rw (names_pair s.classes)

-- the nodes, with that of the cache, which exists only in format 2
abbrev cache_node : Format → Bool → Nodes → Nodes
cache_node First cache rest = rest
cache_node Second cache rest = node (codes "cache") (value (boolean cache)) rest

-- the root while the sidings are read
abbrev root_with : Format → Parts → Nodes → Items → Nodes → Nodes
root_with format p units done last = cache_node format p.cache (node (codes "format") (value (integer (format_number format)))
    (node (codes "lane") (value (integer p.lane)) (node (codes "siding") (open_array done last)
    (node (codes "stages") (value (integer p.stages)) (node (codes "units") (open_table header units) no_nodes)))))

next_siding : (format : Format) (p : Parts) (units : Nodes) (done : Items) (last : Nodes) → at_key (codes "siding") array_table
    (root_with format p units done last) ≡ Some (root_with format p units (push_item done (table (close last))) no_nodes)
unfolding at_key
next_siding First p units done last = refl
next_siding Second p units done last = refl

into_siding : (format : Format) (p : Parts) (units : Nodes) (done : Items) (s : Siding) → along_header (codes "siding" ∷ []) (fill (siding_members s))
    (root_with format p units done no_nodes) ≡ Some (root_with format p units done (siding_nodes s))
unfolding along_header
into_siding First p units done s = rw (siding_filled s) refl
into_siding Second p units done s = rw (siding_filled s) refl

sidings_filled : (ss : List Siding) (format : Format) (p : Parts) (units : Nodes) (done : Items) (last : Nodes)
    → (all_done : Items) × (all_last : Nodes) × (fill_elements (codes "siding") (siding_tables ss) (root_with format p units done last)
    ≡ Some (root_with format p units all_done all_last))
    × (push_item all_done (table (close all_last)) ≡ item_join (push_item done (table (close last))) (siding_items ss))
sidings_filled [] format p units done last = (done, last, refl, sym (item_join-none _))
sidings_filled (s ∷ ss) format p units done last =
    let pushed = push_item done (table (close last)) in
    let (all_done, all_last, rest, shape) = sidings_filled ss format p units pushed (siding_nodes s) in (
      all_done,
      all_last,
      rw (next_siding format p units done last, into_siding format p units pushed s, rest),
      shape
          ∙ item_join-push pushed (table (siding_table s)) (siding_items ss),
    )

-- the root before the units, and after them
abbrev root_top : Format → Parts → Nodes
root_top format p = cache_node format p.cache (node (codes "format") (value (integer (format_number format)))
    (node (codes "lane") (value (integer p.lane)) (node (codes "stages") (value (integer p.stages)) no_nodes)))

abbrev root_units : Format → Parts → Nodes → Nodes
root_units format p units = cache_node format p.cache (node (codes "format") (value (integer (format_number format)))
    (node (codes "lane") (value (integer p.lane)) (node (codes "stages") (value (integer p.stages)) (node (codes "units") (open_table header units) no_nodes))))

no_top_pair : (ss : List Siding) (ns : Nodes) → fill_pairs (sidings_last ss) ns ≡ Some ns
no_top_pair [] ns = refl
no_top_pair (s ∷ ss) ns = rw (sidings_tables ss)

pairs_filled : (format : Format) (p : Parts) → fill_pairs (file_members format p) no_nodes ≡ Some (root_top format p)
unfolding along_dots at_key
pairs_filled First p = rw (no_top_pair p.sidings (root_top First p))
pairs_filled Second p = rw (no_top_pair p.sidings (root_top Second p))

open_units : (format : Format) (p : Parts) → at_key (codes "units") std_table (root_top format p) ≡ Some (root_units format p no_nodes)
unfolding at_key
open_units First p = refl
open_units Second p = refl

into_units : (format : Format) (p : Parts) (n : Nodes) → fill (unit_members p.units) no_nodes ≡ Some n →
    along_header (codes "units" ∷ []) (fill (unit_members p.units)) (root_units format p no_nodes) ≡ Some (root_units format p n)
unfolding along_header
into_units First p n filled = rw filled
into_units Second p n filled = rw filled

units_step : (format : Format) (p : Parts) (n : Nodes) → fill (unit_members p.units) no_nodes ≡ Some n →
    fill_section (codes "units") (table (unit_members p.units)) (root_top format p) ≡ Some (root_units format p n)
units_step format p n filled = rw (units_header p.units, open_units format p) (into_units format p n filled)

first_siding : (format : Format) (p : Parts) (units : Nodes) → at_key (codes "siding") array_table (root_units format p units)
    ≡ Some (root_with format p units no_items no_nodes)
unfolding at_key
first_siding First p units = refl
first_siding Second p units = refl

-- the table that the root becomes, while sidings are read and if there is none
close_with : (format : Format) (p : Parts) (units : Nodes) (s : Siding) (ss : List Siding) (done : Items) (last : Nodes) → p.sidings ≡ s ∷ ss →
    push_item done (table (close last)) ≡ siding_items (s ∷ ss) → close (root_with format p units done last) ≡ top_table format p (close units)
close_with First p units s ss done last e shape = rw (e, shape) refl
close_with Second p units s ss done last e shape = rw (e, shape) refl

close_units : (format : Format) (p : Parts) (units : Nodes) → p.sidings ≡ [] → close (root_units format p units) ≡ top_table format p (close units)
close_units First p units e = rw e refl
close_units Second p units e = rw e refl

sidings_step : (ss : List Siding) (format : Format) (p : Parts) (units : Nodes) → p.sidings ≡ ss →
    (n : Nodes) × (fill_sections (sidings_last ss) (root_units format p units) ≡ Some n) × (close n ≡ top_table format p (close units))
sidings_step [] format p units e = (root_units format p units, refl, close_units format p units e)
sidings_step (s ∷ ss) format p units e =
    let (all_done, all_last, rest, shape) = sidings_filled ss format p units no_items (siding_nodes s) in (
      root_with format p units all_done all_last,
      rw (sidings_tables ss, first_siding format p units, into_siding format p units no_items s, rest),
      close_with format p units s ss all_done all_last e shape,
    )

-- the sections of the file
sections_filled : (format : Format) (p : Parts) (n m : Nodes) → fill_section (codes "units") (table (unit_members p.units)) (root_top format p) ≡ Some n →
    fill_sections (sidings_last p.sidings) n ≡ Some m → fill_sections (file_members format p) (root_top format p) ≡ Some m
sections_filled First p n m units sidings = rw (units, sidings)
sections_filled Second p n m units sidings = rw (units, sidings)

-- all the lines of a layout fill in its table
pub layout_filled : (format : Format) (p : Parts) → AreDistinct p.units → (n : Nodes) × (fill (file_members format p) no_nodes ≡ Some n)
    × (close n ≡ table_of format p)
layout_filled format p distinct =
    let (u, filled, closed) = units_filled p.units no_nodes distinct (absent-none p.units) in
    let (n, all, same) = sidings_step p.sidings format p u refl in
    let units_all : fill (unit_members p.units) no_nodes ≡ Some u = rw filled (units_sections p.units u) in
    (n, rw (pairs_filled format p) (sections_filled format p (root_units format p u) n (units_step format p u units_all) all), same ∙ rw closed)
