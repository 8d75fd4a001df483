-- The tables of a layout file: which keys each table may have and must have, and the types of their values. The crate
-- `toml` reads TOML 1.1.
use Rattle.std.specs.Prelude.{ℕ, suc, nat_le, List, [], ◌∷◌, codes, find, Bool, true, false, ◌||◌, ◌&&◌, if◌then◌else◌, Option, Some, None, is_none, is_some, option_map}
use Rattle.std.specs.List.{list_any}
use Rattle.std.specs.Option.{option_or}
use Rattle.toml.specs.Data.{Data, Items, no_items, item, Members, no_members, member, get_member, as_integer, as_str, as_bool, as_array, as_table}
use Rattle.layout_file.specs.declared.format.Format.TheVariants.{First, Second}
use Rattle.layout_file.specs.declared.kinds.TableKind.{TableKind}
use Rattle.layout_file.specs.declared.kinds.TableKind.TheVariants.{Top, Units, Siding}
use Rattle.layout_file.specs.declared.kinds.Shape.{Shape}
use Rattle.layout_file.specs.declared.kinds.Shape.TheVariants.{Integer, Text, Truth, Table}
use Rattle.layout_file.specs.declared.fault.FileErr.{FileErr}
use Rattle.layout_file.specs.declared.fault.FileErr.TheVariants.{UnknownKey, MissingKey, WrongType, UnknownClass}
use Rattle.layout_file.specs.Names.{same_text, class_by_name}

-- the key is one of these
abbrev pub is_among : List ℕ → List (List ℕ) → Bool
is_among k keys = list_any (λ known. same_text known k) keys

-- the keys that the document may have in both formats, and those of a siding
abbrev pub top_keys : List (List ℕ)
top_keys = codes "format" ∷ codes "stages" ∷ codes "lane" ∷ codes "units" ∷ codes "siding" ∷ []

abbrev pub siding_keys : List (List ℕ)
siding_keys = codes "classes" ∷ codes "launch" ∷ codes "recover" ∷ codes "cells" ∷ []

-- the keys that a table may have: `cache` only in format 2
unfoldable pub knows : TableKind → List ℕ → Bool
knows (Top First) k = is_among k top_keys
knows (Top Second) k = is_among k top_keys || same_text k (codes "cache")
knows (Units format) k = is_some (class_by_name format k)
knows Siding k = is_among k siding_keys

-- the keys that a table must have, in byte order
abbrev pub needed_keys : TableKind → List (List ℕ)
needed_keys (Top First) = codes "format" ∷ codes "lane" ∷ codes "stages" ∷ codes "units" ∷ []
needed_keys (Top Second) = codes "cache" ∷ codes "format" ∷ codes "lane" ∷ codes "stages" ∷ codes "units" ∷ []
needed_keys (Units format) = []
needed_keys Siding = codes "cells" ∷ codes "classes" ∷ codes "launch" ∷ codes "recover" ∷ []

-- the value is of a type
abbrev pub has_shape : Shape → Data → Bool
has_shape Integer d = is_some (as_integer d)
has_shape Text d = is_some (as_str d)
has_shape Truth d = is_some (as_bool d)
has_shape Table d = is_some (as_table d)

-- how many elements an array has
abbrev pub item_count : Items → ℕ
item_count no_items = 0
item_count (item d ds) = suc (item_count ds)

-- each element is of a type
abbrev pub all_have : Shape → Items → Bool
all_have s no_items = true
all_have s (item d ds) = has_shape s d && all_have s ds

-- at most 1,000 elements of a type
abbrev pub are_list_of : Shape → Option Items → Bool
are_list_of s None = false
are_list_of s (Some ds) = nat_le (item_count ds) 1000 && all_have s ds

-- the value is an array of such elements
abbrev pub is_list_of : Shape → Data → Bool
is_list_of s d = are_list_of s (as_array d)

-- the value at a key is of its type
unfoldable pub fits : TableKind → List ℕ → Data → Bool
fits (Top format) k d =
    if same_text k (codes "units") then has_shape Table d
    else if same_text k (codes "siding") then is_list_of Table d
    else if same_text k (codes "cache") then has_shape Truth d
    else has_shape Integer d
fits (Units format) k d = is_list_of Integer d
fits Siding k d = if same_text k (codes "classes") then is_list_of Text d else has_shape Integer d

-- the first key in byte order that is not allowed in the table
abbrev pub first_unknown_key : TableKind → Members → Option (List ℕ)
first_unknown_key f no_members = None
first_unknown_key f (member k d ms) = if knows f k then first_unknown_key f ms else Some k

-- the first of these keys that is missing in the table
abbrev pub first_missing_key : List (List ℕ) → Members → Option (List ℕ)
first_missing_key keys ms = find (λ k. is_none (get_member k ms)) keys

-- the first key in byte order whose value is of the wrong type
abbrev pub first_misfit_key : TableKind → Members → Option (List ℕ)
first_misfit_key f no_members = None
first_misfit_key f (member k d ms) = if fits f k d then first_misfit_key f ms else Some k

-- the fault of a key that is not allowed: in the table of units it does not name a class
abbrev pub unknown_in : TableKind → List ℕ → FileErr
unknown_in (Top format) k = UnknownKey k
unknown_in (Units format) k = UnknownClass k
unknown_in Siding k = UnknownKey k

-- the first fault in the keys and the types of one table
unfoldable pub entries_fault : TableKind → Members → Option FileErr
entries_fault f ms =
    option_or (option_map (unknown_in f) (first_unknown_key f ms))
    (option_or (option_map MissingKey (first_missing_key (needed_keys f) ms))
    (option_map WrongType (first_misfit_key f ms)))
