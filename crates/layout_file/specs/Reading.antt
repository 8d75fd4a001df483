-- What a layout file says, and the first of its faults.
use Rattle.std.specs.Prelude.{ℕ, ℤ, pos, ◌++◌, List, [], ◌∷◌, codes, Bool, false, if◌then◌else◌, Option, Some, None, is_some, option_map, unwrap_or}
use Rattle.std.specs.Option.{option_or}
use Rattle.toml.specs.Data.{Data, Items, no_items, item, Members, no_members, get_member, as_integer, as_str, as_bool, as_array, as_table}
use Rattle.rv_inst.specs.declared.classes.Class.{Class}
use Rattle.rv_inst.specs.declared.classes.Class.TheVariants.{Add}
use Rattle.cf_layout.specs.declared.parts.Siding.{Siding}
use Rattle.cf_layout.specs.declared.parts.Parts.{Parts}
use Rattle.cf_layout.specs.Layout.{computed_classes}
use Rattle.cf_layout.specs.Asked.{is_integer}
use Rattle.cf_layout.specs.Refusal.{loose_refusal, first_refusal}
use Rattle.layout_file.specs.declared.format.Format.{Format}
use Rattle.layout_file.specs.declared.format.Format.TheVariants.{First, Second}
use Rattle.layout_file.specs.declared.kinds.TableKind.TheVariants as kind
use Rattle.layout_file.specs.declared.fault.FileErr.{FileErr}
use Rattle.layout_file.specs.declared.fault.FileErr.TheVariants.{UnknownClass, UnknownFormat, Refused}
use Rattle.layout_file.specs.Names.{class_name, class_by_name}
use Rattle.layout_file.specs.Tables.{entries_fault}

-- the value if it is of the type, and otherwise 0, false or empty
abbrev pub integer_in : Data → ℤ
integer_in d = unwrap_or (as_integer d) (pos 0)

abbrev pub truth_in : Data → Bool
truth_in d = unwrap_or (as_bool d) false

abbrev pub text_in : Data → List ℕ
text_in d = unwrap_or (as_str d) []

abbrev pub items_in : Data → Items
items_in d = unwrap_or (as_array d) no_items

abbrev pub members_in : Data → Members
members_in d = unwrap_or (as_table d) no_members

-- the value at a key, in the same way
abbrev pub integer_at : List ℕ → Members → ℤ
integer_at k ms = unwrap_or (option_map integer_in (get_member k ms)) (pos 0)

abbrev pub truth_at : List ℕ → Members → Bool
truth_at k ms = unwrap_or (option_map truth_in (get_member k ms)) false

abbrev pub items_at : List ℕ → Members → Items
items_at k ms = unwrap_or (option_map items_in (get_member k ms)) no_items

abbrev pub members_at : List ℕ → Members → Members
members_at k ms = unwrap_or (option_map members_in (get_member k ms)) no_members

-- the integers of an array
abbrev pub integers_of : Items → List ℤ
integers_of no_items = []
integers_of (item d ds) = integer_in d ∷ integers_of ds

-- the classes that an array names
abbrev pub classes_of : Format → Items → List Class
classes_of format no_items = []
classes_of format (item d ds) = unwrap_or (class_by_name format (text_in d)) Add ∷ classes_of format ds

-- the first string of an array that is not the name of a class
abbrev pub first_nameless : Format → Items → Option (List ℕ)
first_nameless format no_items = None
first_nameless format (item d ds) = if is_some (class_by_name format (text_in d)) then first_nameless format ds else Some (text_in d)

-- the entry of a class, if the table has one
abbrev pub unit_in : Class → Option Data → List (Class × List ℤ)
unit_in c None = []
unit_in c (Some d) = (c, integers_of (items_in d)) ∷ []

-- the entries of a table, in the order of these classes
abbrev pub units_among : List Class → Members → List (Class × List ℤ)
units_among [] ms = []
units_among (c ∷ cs) ms = unit_in c (get_member (class_name c) ms) ++ units_among cs ms

-- a siding's table
unfoldable pub siding_fault : Format → Members → Option FileErr
siding_fault format ms = option_or (entries_fault kind.Siding ms) (option_map UnknownClass (first_nameless format (items_at (codes "classes") ms)))

unfoldable pub siding_in : Format → Members → Siding
siding_in format ms = record {
  classes = classes_of format (items_at (codes "classes") ms);
  launch = integer_at (codes "launch") ms;
  recover = integer_at (codes "recover") ms;
  cells = integer_at (codes "cells") ms;
}

-- an element of the array of sidings, if it is a table
abbrev pub siding_fault_in : Format → Option Members → Option FileErr
siding_fault_in format None = None
siding_fault_in format (Some ms) = siding_fault format ms

abbrev pub sidings_of : Format → Option Members → List Siding
sidings_of format None = []
sidings_of format (Some ms) = siding_in format ms ∷ []

-- the array of sidings
abbrev pub sidings_fault : Format → Items → Option FileErr
sidings_fault format no_items = None
sidings_fault format (item d ds) = option_or (siding_fault_in format (as_table d)) (sidings_fault format ds)

abbrev pub sidings_in : Format → Items → List Siding
sidings_in format no_items = []
sidings_in format (item d ds) = sidings_of format (as_table d) ++ sidings_in format ds

-- the format: 2 if the document says so, otherwise 1
abbrev pub format_of : ℤ → Format
format_of z = if is_integer 2 z then Second else First

unfoldable pub format_in : Members → Format
format_in ms = format_of (integer_at (codes "format") ms)

-- the fault of the number at `format`: a document that is read in format 1 has to say 1
abbrev pub format_fault : Format → ℤ → Option FileErr
format_fault First z = if is_integer 1 z then None else Some (UnknownFormat z)
format_fault Second z = None

-- the first fault of the tables, in a format
unfoldable pub tables_fault : Format → Members → Option FileErr
tables_fault format ms =
    option_or (entries_fault (kind.Top format) ms)
    (option_or (format_fault format (integer_at (codes "format") ms))
    (option_or (entries_fault (kind.Units format) (members_at (codes "units") ms))
    (sidings_fault format (items_at (codes "siding") ms))))

-- there is a cache: in format 2 if the document says so, in format 1 never
abbrev pub cache_in : Format → Members → Bool
cache_in First ms = false
cache_in Second ms = truth_at (codes "cache") ms

-- the parts that the tables request, in a format
unfoldable pub parts_in : Format → Members → Parts
parts_in format ms = record {
  stages = integer_at (codes "stages") ms;
  lane = integer_at (codes "lane") ms;
  cache = cache_in format ms;
  units = units_among computed_classes (members_at (codes "units") ms);
  sidings = sidings_in format (items_at (codes "siding") ms);
}

-- the parts that a document requests
abbrev pub requested_parts : Members → Parts
requested_parts ms = parts_in (format_in ms) ms

-- the first fault of a document: of its tables, or otherwise of the layout that they request
unfoldable pub fault_of : Members → Option FileErr
fault_of ms = option_or (tables_fault (format_in ms) ms) (option_map Refused (first_refusal (requested_parts ms)))

-- the same, if the layout may break the rule on where control turns
unfoldable pub loose_fault_of : Members → Option FileErr
loose_fault_of ms = option_or (tables_fault (format_in ms) ms) (option_map Refused (loose_refusal (requested_parts ms)))
