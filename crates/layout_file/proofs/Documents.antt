-- The tables of a layout's file: in the order of its text, and in byte order.
use Rattle.std.proofs.Common.{◌≡◌, ℕ, ℤ, pos, Bool, true, false, List, [], ◌∷◌, codes, refl}
use Rattle.std.specs.Ordering.{nat_cmp, match_ordering}
use Rattle.std.specs.Cmp.Lexicographic.{slice_cmp}
use Rattle.toml.specs.Data.{Data, string, integer, boolean, array, table, Items, no_items, item, Members, no_members, member}
use Rattle.toml.specs.Text.{is_section, are_tables}
use Rattle.rv_inst.specs.declared.classes.Class.{Class}
use Rattle.cf_layout.specs.declared.parts.Siding.{Siding}
use Rattle.cf_layout.specs.declared.parts.Parts.{Parts}
use Rattle.layout_file.specs.declared.format.Format.{Format}
use Rattle.layout_file.specs.declared.format.Format.TheVariants.{First, Second}
use Rattle.layout_file.specs.Names.{class_name}

-- arrays of integers and of the names of classes
abbrev pub integers : List ℤ → Items
integers [] = no_items
integers (z ∷ zs) = item (integer z) (integers zs)

abbrev pub names : List Class → Items
names [] = no_items
names (c ∷ cs) = item (string (class_name c)) (names cs)

-- the number of the format
abbrev pub format_number : Format → ℤ
format_number First = pos 1
format_number Second = pos 2

-- the members, with that of the cache, which exists only in format 2
abbrev pub cache_member : Format → Bool → Members → Members
cache_member First cache rest = rest
cache_member Second cache rest = member (codes "cache") (boolean cache) rest

-- in the order of the text: the units
abbrev pub unit_members : List (Class × List ℤ) → Members
unit_members [] = no_members
unit_members (u ∷ us) = member (class_name u.0) (array (integers u.1)) (unit_members us)

-- a siding
abbrev pub siding_members : Siding → Members
siding_members s = member (codes "classes") (array (names s.classes)) (member (codes "launch") (integer s.launch)
    (member (codes "recover") (integer s.recover) (member (codes "cells") (integer s.cells) no_members)))

abbrev pub siding_tables : List Siding → Items
siding_tables [] = no_items
siding_tables (s ∷ ss) = item (table (siding_members s)) (siding_tables ss)

-- the sidings, if there is one
abbrev pub sidings_last : List Siding → Members
sidings_last [] = no_members
sidings_last (s ∷ ss) = member (codes "siding") (array (item (table (siding_members s)) (siding_tables ss))) no_members

-- the whole file
abbrev pub file_members : Format → Parts → Members
file_members format p = member (codes "format") (integer (format_number format)) (member (codes "stages") (integer p.stages)
    (member (codes "lane") (integer p.lane) (cache_member format p.cache (member (codes "units") (table (unit_members p.units)) (sidings_last p.sidings)))))

-- in byte order: the members with one more, at its position
abbrev pub place : List ℕ → Data → Members → Members
place k d no_members = member k d no_members
place k d (member l e ms) = match_ordering (slice_cmp nat_cmp k l) (member k d (member l e ms)) (member l d ms) (member l e (place k d ms))

-- the units, each at its position, among the earlier ones
abbrev pub unit_table : List (Class × List ℤ) → Members → Members
unit_table [] found = found
unit_table (u ∷ us) found = unit_table us (place (class_name u.0) (array (integers u.1)) found)

-- a siding
abbrev pub siding_table : Siding → Members
siding_table s = member (codes "cells") (integer s.cells) (member (codes "classes") (array (names s.classes))
    (member (codes "launch") (integer s.launch) (member (codes "recover") (integer s.recover) no_members)))

abbrev pub siding_items : List Siding → Items
siding_items [] = no_items
siding_items (s ∷ ss) = item (table (siding_table s)) (siding_items ss)

-- the sidings, if there is one
abbrev pub siding_member : List Siding → Members → Members
siding_member [] rest = rest
siding_member (s ∷ ss) rest = member (codes "siding") (array (item (table (siding_table s)) (siding_items ss))) rest

-- the last members, with this table of units
abbrev pub top_end : Parts → Members → Members
top_end p units = member (codes "stages") (integer p.stages) (member (codes "units") (table units) no_members)

-- the whole table, with this table of units
abbrev pub top_table : Format → Parts → Members → Members
top_table format p units = cache_member format p.cache (member (codes "format") (integer (format_number format))
    (member (codes "lane") (integer p.lane) (siding_member p.sidings (top_end p units))))

-- the whole table of a layout
abbrev pub table_of : Format → Parts → Members
table_of format p = top_table format p (unit_table p.units no_members)

-- an array of integers or of names is not an array of tables
pub integers_pair : (zs : List ℤ) → is_section (array (integers zs)) ≡ false
integers_pair [] = refl
integers_pair (z ∷ zs) = refl

pub names_pair : (cs : List Class) → is_section (array (names cs)) ≡ false
names_pair [] = refl
names_pair (c ∷ cs) = refl

-- the array of sidings is
pub sidings_tables : (ss : List Siding) → are_tables (siding_tables ss) ≡ true
sidings_tables [] = refl
sidings_tables (s ∷ ss) = sidings_tables ss
