-- What the tests of a table's entries say about the table.
use Rattle.std.proofs.Common.{◌≡◌, ℕ, ◌+◌, ◌<◌, List, [], ◌∷◌, Bool, true, false, cond, Option, Some, None, find, length, get_or, drop, drop-cons, add-one, refl, ap, ◌∙◌, String, Bor}
use Rattle.std.specs.Prelude.{is_none, map, not, option_map, string_bytes}
use Rattle.std.specs.Option.{option_copied}
use Rattle.std.specs.List.{list_all}
use Rattle.std.specs.Map.{keys_of}
use Rattle.std.specs.Global.{Global}
use Rattle.toml.specs.Data.{item, Members, get_member}
use Rattle.toml.specs.View.{view, items_view, members_view}
use Rattle.toml.specs.declared.value.Value.{Value}
use Rattle.layout_file.specs.declared.kinds.TableKind.{TableKind}
use Rattle.layout_file.specs.declared.kinds.Shape.{Shape}
use Rattle.layout_file.specs.Tables.{knows, has_shape, all_have, item_count, first_missing_key, first_unknown_key}

-- all elements are of a type if each value is
pub all_have_view : (s : Shape) (vs : List Value) → all_have s (items_view vs) ≡ list_all (λ v. has_shape s (view v)) vs
all_have_view s [] = refl
all_have_view s (v ∷ vs) = rw (all_have_view s vs)

-- an array has as many elements as values
pub item_count_view : (vs : List Value) → item_count (items_view vs) ≡ length vs
item_count_view [] = refl
item_count_view (v ∷ vs) = rw (item_count_view vs)

-- the elements from a given one on
pub items_from : (vs : List Value) (i : ℕ) (v : Value) → i < length vs → v ≡ get_or vs i v →
    items_view (drop i vs) ≡ item (view v) (items_view (drop (i + 1) vs))
items_from vs i v within this = rw (drop-cons vs i v, ← this, add-one) refl

-- one step of the search for a key
chosen : {A : Type 0} (f : A → List ℕ) (b : Bool) (k : A) (rest : Option A) (d : Option (List ℕ)) → option_map f rest ≡ d →
    option_map f (cond (not b) (Some k) rest) ≡ cond b d (Some (f k))
chosen f true k rest d e = e
chosen f false k rest d e = refl

-- the first key that is not known
unknown_in : (kind : TableKind) (es : List (String Global × Value)) → option_map string_bytes (find (λ k. not (knows kind (string_bytes k))) (keys_of es))
    ≡ first_unknown_key kind (members_view es)
unknown_in kind [] = refl
unknown_in kind (e ∷ es) = chosen string_bytes (knows kind (string_bytes e.0)) e.0 _ _ (unknown_in kind es)

-- a borrowed key and a copied one have the same bytes
seen : (r : Option (Bor (String Global))) → option_map (λ k. string_bytes k.now) r ≡ option_map string_bytes (option_copied r)
seen None = refl
seen (Some k) = refl

-- the first unknown key of a table's entries is that of its members
pub unknown_of : (kind : TableKind) (r : Option (Bor (String Global))) (es : List (String Global × Value)) →
    option_copied r ≡ find (λ k. not (knows kind (string_bytes k))) (keys_of es) →
    option_map (λ k. string_bytes k.now) r ≡ first_unknown_key kind (members_view es)
unknown_of kind r es e = seen r ∙ ap (option_map string_bytes) e ∙ unknown_in kind es

-- one step of the search among keys, given by their bytes
found : {A : Type 0} (f : A → List ℕ) (b : Bool) (k : A) (rest : Option A) (d : Option (List ℕ)) → option_map f rest ≡ d →
    option_map f (cond b (Some k) rest) ≡ cond b (Some (f k)) d
found f true k rest d e = refl
found f false k rest d e = e

-- the bytes of the first missing key are the first of the keys' bytes that is missing
pub missing_seen : (keys : List (Bor (List ℕ))) (ms : Members) →
    option_map (λ k. k.now) (find (λ k. is_none (get_member k.now ms)) keys) ≡ first_missing_key (map (λ k. k.now) keys) ms
missing_seen [] ms = refl
missing_seen (k ∷ ks) ms = found (λ (l : Bor (List ℕ)). l.now) (is_none (get_member k.now ms)) k _ _ (missing_seen ks ms)
