-- Labels that are found by their names give the same answers as a search of the whole list.
use Rattle.std.proofs.Common.{◌≡◌, ℕ, ◌+◌, ◌<◌, zero, suc, Bool, true, false, List, [], ◌∷◌, ◌++◌, length, map, Option, Some, None, cond, refl, sym, ap, subst, ◌∙◌, arith, ◌⊎◌, inl, inr, ⊎_elim, ltb}
use Rattle.std.specs.Prelude.{◌≢◌, find, option_map, slice_index_or, slice_set, Vec}
use Rattle.std.specs.BTreeMap.{BTreeMap, UpdatesBy, is_at}
use Rattle.std.specs.Cmp.{eq_by_cmp_equiv}
use Rattle.std.specs.Cmp.Lexicographic.{slice_cmp, bytes_decides, nat_list_cmp_total, nat_list_eq_equiv}
use Rattle.std.specs.Map.{KeepsOthers, IsKeyTest, AreApart, lookup}
use Rattle.std.specs.Ordering.{is_eq, nat_cmp}
use Rattle.std.specs.Str.{bytes_eq}
use Rattle.std.proofs.lemmas.Bool.{cases_Bool, cond-true, cond-false, false_from_ne_true}
use Rattle.std.proofs.lemmas.Bool.Decides.{nat_tests}
use Rattle.std.proofs.lemmas.List.{get_or-map, get_or_append_left, length-append, length-map, map-append, map-set}
use Rattle.std.proofs.Math.Seq.{get_or-append_seam, map-set_same}
use Rattle.std.proofs.lemmas.Map.Text.{is_eq-slice_cmp}
use Rattle.rv_asm.specs.LabelTables.{FindsNames, names_of, index_of_name}
use Rattle.rv_asm.specs.Labels.{LabelView, exported, exported_as, label_view, value_of_label}
use Rattle.rv_asm.specs.declared.label.Label.{Label}

-- ---- a name is put into the map

apart : (name other key : List ℕ) → bytes_eq name other ≡ false → bytes_eq name key ≡ true → bytes_eq other key ≡ false
apart name other key n y = nat_list_eq_equiv.symm other key ∙ sym (nat_list_eq_equiv.congr name key other y) ∙ n

apart_in_order : (name other key : List ℕ) → bytes_eq name other ≡ false → is_eq (slice_cmp nat_cmp name key) ≡ true →
    is_eq (slice_cmp nat_cmp other key) ≡ false
apart_in_order name other key n y = is_eq-slice_cmp other key ∙ apart name other key n (sym (is_eq-slice_cmp name key) ∙ y)

others_stay : {K X : Type 0} (eq : K → K → Bool) (test : K → Bool) (old new : List (K × X)) → KeepsOthers eq test old new
    → (other : K → Bool) → IsKeyTest eq other → AreApart test other → lookup other new ≡ lookup other old
unfolding KeepsOthers
others_stay eq test old new h = h

-- what is known at one name, and at all other names, is known at each name
by_name : (f g : List ℕ → Option ℕ) (name : List ℕ) (w : Option ℕ) → g name ≡ w → ((other : List ℕ) → bytes_eq name other ≡ false → g other ≡ f other)
    → (other : List ℕ) → g other ≡ cond (bytes_eq name other) w (f other)
by_name f g name w here others other =
    ⊎_elim
    (λ y. subst (λ l. g l ≡ w) ((bytes_decides name other).0 y) here ∙ sym (cond-true (bytes_eq name other) w (f other) y))
    (λ n. others other n ∙ sym (cond-false (bytes_eq name other) w (f other) n))
    (cases_Bool (bytes_eq name other))

-- the name is found at its index, and any other as before
pub found_after : {Z : Type 0} (name : List ℕ) (m n : BTreeMap (Vec ℕ Z) ℕ) (w : Option ℕ)
    → UpdatesBy (λ x y. slice_cmp nat_cmp x.items y.items) (λ k. slice_cmp nat_cmp name k.items) m n w
    → (other : List ℕ) → index_of_name n other ≡ cond (bytes_eq name other) w (index_of_name m other)
found_after name m n w h =
    by_name (index_of_name m) (index_of_name n) name w h.1
    (λ other e. others_stay _ _ _ _ h.3 _ (λ x y. (eq_by_cmp_equiv nat_list_cmp_total).congr other x.items y.items) (λ k. apart_in_order name other k.items e))

-- ---- names and what is found

below_or_last : (place count : ℕ) → place < count + 1 → (place < count) ⊎ (place ≡ count)
below_or_last place count h =
    ⊎_elim (λ (y : ltb place count ≡ true). inl (grind (arith, nat_tests))) (λ (n : ltb place count ≡ false). inr (grind (arith, nat_tests)))
    (cases_Bool (ltb place count))

-- a name in the list differs from one that was not found
is_apart : (names : List (List ℕ)) (found : List ℕ → Option ℕ) (name : List ℕ) (place : ℕ) (d : List ℕ) → FindsNames names found → found name ≡ None
    → place < length names → bytes_eq name (slice_index_or names place d) ≡ false
is_apart names found name place d finds unknown within =
    false_from_ne_true (bytes_eq name (slice_index_or names place d)) (λ y.
    let same : name ≡ slice_index_or names place d = (bytes_decides name (slice_index_or names place d)).0 y in
    let told : found name ≡ Some place = ap found same ∙ finds.each place d within in
    absurd (cc))

each_after : (names : List (List ℕ)) (found next : List ℕ → Option ℕ) (name : List ℕ) → FindsNames names found → found name ≡ None
    → ((other : List ℕ) → next other ≡ cond (bytes_eq name other) (Some (length names)) (found other))
    → (place : ℕ) (d : List ℕ) → place < length (names ++ name ∷ []) → next (slice_index_or (names ++ name ∷ []) place d) ≡ Some place
each_after names found next name finds unknown after place d within =
    ⊎_elim
    (λ (below : place < length names).
    let at : slice_index_or (names ++ name ∷ []) place d ≡ slice_index_or names place d = get_or_append_left names (name ∷ []) d place below in
    rw (at, after (slice_index_or names place d), is_apart names found name place d finds unknown below) (finds.each place d below))
    (λ (last : place ≡ length names).
    let at : slice_index_or (names ++ name ∷ []) place d ≡ name = rw last (get_or-append_seam names name [] d) in
    rw (at, after name, (bytes_decides name name).1 refl, last) refl)
    (below_or_last place (length names) (omega (arith, length-append names (name ∷ []))))

within_after : (names : List (List ℕ)) (found next : List ℕ → Option ℕ) (name : List ℕ) → FindsNames names found
    → ((other : List ℕ) → next other ≡ cond (bytes_eq name other) (Some (length names)) (found other))
    → (other : List ℕ) (place : ℕ) → next other ≡ Some place → place < length (names ++ name ∷ [])
within_after names found next name finds after other place told =
    ⊎_elim
    (λ (y : bytes_eq name other ≡ true).
    let at : Some (length names) ≡ Some place = sym (cond-true (bytes_eq name other) _ (found other) y) ∙ sym (after other) ∙ told in
    let same : length names ≡ place = cc in
    omega (arith, length-append names (name ∷ [])))
    (λ (n : bytes_eq name other ≡ false).
    let at : found other ≡ Some place = sym (cond-false (bytes_eq name other) (Some (length names)) _ n) ∙ sym (after other) ∙ told in
    let below = finds.within other place at in
    omega (arith, length-append names (name ∷ [])))
    (cases_Bool (bytes_eq name other))

only_after : (names : List (List ℕ)) (found next : List ℕ → Option ℕ) (name : List ℕ) → FindsNames names found
    → ((other : List ℕ) → next other ≡ cond (bytes_eq name other) (Some (length names)) (found other))
    → (other : List ℕ) (place : ℕ) (d : List ℕ) → next other ≡ Some place → slice_index_or (names ++ name ∷ []) place d ≡ other
only_after names found next name finds after other place d told =
    ⊎_elim
    (λ (y : bytes_eq name other ≡ true).
    let at : Some (length names) ≡ Some place = sym (cond-true (bytes_eq name other) _ (found other) y) ∙ sym (after other) ∙ told in
    let same : place ≡ length names = cc in
    rw same (get_or-append_seam names name [] d) ∙ (bytes_decides name other).0 y)
    (λ (n : bytes_eq name other ≡ false).
    let at : found other ≡ Some place = sym (cond-false (bytes_eq name other) (Some (length names)) _ n) ∙ sym (after other) ∙ told in
    get_or_append_left names (name ∷ []) d place (finds.within other place at) ∙ finds.only other place d at)
    (cases_Bool (bytes_eq name other))

-- one more name, which was not found before, at the end
pub finds_after : (names : List (List ℕ)) (found next : List ℕ → Option ℕ) (name : List ℕ) → FindsNames names found → found name ≡ None
    → ((other : List ℕ) → next other ≡ cond (bytes_eq name other) (Some (length names)) (found other)) → FindsNames (names ++ name ∷ []) next
finds_after names found next name finds unknown after = record {
  each = each_after names found next name finds unknown after;
  within = within_after names found next name finds after;
  only = only_after names found next name finds after;
}

-- ---- labels and what is found

-- the first element that passes is the one at an index, if no element before it passes
find_at : (p : LabelView → Bool) (xs : List LabelView) (k : ℕ) (d : LabelView) → k < length xs → p (slice_index_or xs k d) ≡ true
    → ((i : ℕ) → i < k → p (slice_index_or xs i d) ≡ false) → find p xs ≡ Some (slice_index_or xs k d)
find_at p [] k d within passes before = absurd (omega arith)
find_at p (x ∷ xs) zero d within passes before = rw passes refl
find_at p (x ∷ xs) (suc k) d within passes before =
    rw (before 0 (omega arith)) (find_at p xs k d (omega arith) passes (λ i below. before (suc i) (omega arith)))

find_none : (p : LabelView → Bool) (xs : List LabelView) (d : LabelView) → ((i : ℕ) → i < length xs → p (slice_index_or xs i d) ≡ false) → find p xs ≡ None
find_none p [] d none = refl
find_none p (x ∷ xs) d none = rw (none 0 (omega arith)) (find_none p xs d (λ i below. none (suc i) (omega arith)))

-- a label without a name, for indices without a label
blank : LabelView
blank = record { name = []; value = 0; in_text = false; global = false }

name_at : (labels : List LabelView) (place : ℕ) (d : LabelView) → place < length labels
    → slice_index_or (names_of labels) place d.name ≡ (slice_index_or labels place d).name
name_at labels place d within = get_or-map (λ (label : LabelView). label.name) labels place d d.name within

-- each label's name is found at its index
each_label : (labels : List LabelView) (found : List ℕ → Option ℕ) → FindsNames (names_of labels) found → (place : ℕ) (d : LabelView) → place < length labels
    → found (slice_index_or labels place d).name ≡ Some place
each_label labels found finds place d within =
    rw (← name_at labels place d within) (finds.each place d.name (omega (arith, length-map labels (λ (label : LabelView). label.name))))

-- only the label at the index that is found has the name
other_label : (labels : List LabelView) (found : List ℕ → Option ℕ) (name : List ℕ) → FindsNames (names_of labels) found → (place : ℕ) (d : LabelView) →
    place < length labels
    → found name ≢ Some place → bytes_eq (slice_index_or labels place d).name name ≡ false
other_label labels found name finds place d within not_there =
    false_from_ne_true (bytes_eq (slice_index_or labels place d).name name) (λ y.
    let same : (slice_index_or labels place d).name ≡ name = (bytes_decides (slice_index_or labels place d).name name).0 y in
    not_there (ap found (sym same) ∙ each_label labels found finds place d within))

found_within : (labels : List LabelView) (found : List ℕ → Option ℕ) (name : List ℕ) (place : ℕ) → FindsNames (names_of labels) found →
    found name ≡ Some place → place < length labels
found_within labels found name place finds told =
    let within = finds.within name place told in
    omega (arith, length-map labels (λ (label : LabelView). label.name))

-- and that label has it
that_label : (labels : List LabelView) (found : List ℕ → Option ℕ) (name : List ℕ) (place : ℕ) (d : LabelView) → FindsNames (names_of labels) found →
    found name ≡ Some place
    → bytes_eq (slice_index_or labels place d).name name ≡ true
that_label labels found name place d finds told =
    let within = found_within labels found name place finds told in
    let same : (slice_index_or labels place d).name ≡ name = sym (name_at labels place d within) ∙ finds.only name place d.name told in
    (bytes_decides (slice_index_or labels place d).name name).1 same

-- the value of the label that is found is that of the name
pub value_found : (labels : List LabelView) (found : List ℕ → Option ℕ) (name : List ℕ) (place : ℕ) (d : LabelView) → FindsNames (names_of labels) found →
    found name ≡ Some place
    → value_of_label labels name ≡ Some (slice_index_or labels place d).value
unfolding value_of_label
value_found labels found name place d finds told =
    let within = found_within labels found name place finds told in
    let first = find_at (λ label. bytes_eq label.name name) labels place d within (that_label labels found name place d finds told)
    (λ i below. other_label labels found name finds i d (omega arith) (λ e. let same : Some i ≡ Some place = sym e ∙ told in let at : i ≡ place = cc in
    absurd (omega arith))) in
    ap (option_map (λ (label : LabelView). label.value)) first

-- a name that is not found has no value
pub value_missing : (labels : List LabelView) (found : List ℕ → Option ℕ) (name : List ℕ) → FindsNames (names_of labels) found → found name ≡ None →
    value_of_label labels name ≡ None
unfolding value_of_label
value_missing labels found name finds told =
    ap (option_map (λ (label : LabelView). label.value))
    (find_none (λ label. bytes_eq label.name name) labels blank (λ i within. other_label labels found name finds i blank within (λ e. absurd (cc))))

-- and conversely
pub unknown_missing : (labels : List LabelView) (found : List ℕ → Option ℕ) (name : List ℕ) (answer : Option ℕ) → found name ≡ answer →
    FindsNames (names_of labels) found → value_of_label labels name ≡ None
    → answer ≡ None
unknown_missing labels found name None e finds unknown = refl
unknown_missing labels found name (Some place) e finds unknown =
    let told : value_of_label labels name ≡ Some (slice_index_or labels place blank).value = value_found labels found name place blank finds e in
    absurd (cc)

-- ---- a label is exported

mapped_none : (f : LabelView → LabelView) (xs : List LabelView) (d : LabelView) → ((i : ℕ) → i < length xs →
    f (slice_index_or xs i d) ≡ slice_index_or xs i d) → map f xs ≡ xs
mapped_none f [] d same = refl
mapped_none f (x ∷ xs) d same = rw (same 0 (omega arith), mapped_none f xs d (λ i within. same (suc i) (omega arith))) refl

mapped_at : (f : LabelView → LabelView) (xs : List LabelView) (k : ℕ) (d : LabelView) → k < length xs
    → ((i : ℕ) → i < length xs → i ≢ k → f (slice_index_or xs i d) ≡ slice_index_or xs i d) → map f xs ≡ slice_set xs k (f (slice_index_or xs k d))
mapped_at f [] k d within same = absurd (omega arith)
mapped_at f (x ∷ xs) zero d within same = ap (λ (l : List LabelView). f x ∷ l) (mapped_none f xs d
    (λ i below. same (suc i) (omega arith) (λ e. absurd (omega arith))))
mapped_at f (x ∷ xs) (suc k) d within same =
    let first : f x ≡ x = same 0 (omega arith) (λ e. absurd (omega arith)) in
    rw (first, mapped_at f xs k d (omega arith) (λ i below other. same (suc i) (omega arith) (λ e. other (omega arith)))) refl

-- the label that is found is the only one that is marked
pub exported_found : (labels : List LabelView) (found : List ℕ → Option ℕ) (name : List ℕ) (place : ℕ) (d : LabelView) → FindsNames (names_of labels) found →
    found name ≡ Some place
    → exported labels name ≡ slice_set labels place (record (slice_index_or labels place d) { global = true })
unfolding exported
exported_found labels found name place d finds told =
    let within = found_within labels found name place finds told in
    let marked : exported_as name (slice_index_or labels place d) ≡ record (slice_index_or labels place d) { global = true } =
    rw (that_label labels found name place d finds told) refl in
    mapped_at (exported_as name) labels place d within
    (λ i below other. rw (other_label labels found name finds i d below (λ e. let same : Some i ≡ Some place = sym e ∙ told in other (cc))) refl)
    ∙ ap (slice_set labels place) marked

-- no label is marked if the name is not found
pub exported_missing : (labels : List LabelView) (found : List ℕ → Option ℕ) (name : List ℕ) → FindsNames (names_of labels) found → found name ≡ None →
    exported labels name ≡ labels
unfolding exported
exported_missing labels found name finds told =
    mapped_none (exported_as name) labels blank
    (λ i within. rw (other_label labels found name finds i blank within (λ e. absurd (cc))) refl)

-- ---- the labels that are kept

pub place_within : (items : List Label) (found : List ℕ → Option ℕ) (name : List ℕ) (place : ℕ) → FindsNames (names_of (map label_view items)) found
    → found name ≡ Some place → place < length items
place_within items found name place finds told =
    let within = found_within (map label_view items) found name place finds told in
    omega (arith, length-map items label_view)

named_at : (items : List Label) (place : ℕ) (label : Label) → place < length items → label ≡ slice_index_or items place label
    → slice_index_or (map label_view items) place (label_view label) ≡ label_view label
named_at items place label within e = get_or-map label_view items place label (label_view label) within ∙ ap label_view (sym e)

pub kept_value : (items : List Label) (found : List ℕ → Option ℕ) (name : List ℕ) (place : ℕ) (label : Label) →
    FindsNames (names_of (map label_view items)) found
    → found name ≡ Some place → label ≡ slice_index_or items place label → value_of_label (map label_view items) name ≡ Some label.value
kept_value items found name place label finds told e =
    value_found (map label_view items) found name place (label_view label) finds told
    ∙ ap (λ (l : LabelView). Some l.value) (named_at items place label (place_within items found name place finds told) e)

-- the label is exported, if it exists
pub kept_exported : (items : List Label) (found : List ℕ → Option ℕ) (name : List ℕ) (place : ℕ) (label : Label) →
    FindsNames (names_of (map label_view items)) found
    → found name ≡ Some place → label ≡ slice_index_or items place label
    → exported (map label_view items) name ≡ map label_view (slice_set items place (record label { global = true }))
kept_exported items found name place label finds told e =
    exported_found (map label_view items) found name place (label_view label) finds told
    ∙ ap (λ (l : LabelView). slice_set (map label_view items) place (record l { global = true }))
    (named_at items place label (place_within items found name place finds told) e)
    ∙ sym (map-set label_view items place (record label { global = true }))

-- which leaves the names unchanged
pub kept_names : (items : List Label) (found : List ℕ → Option ℕ) (name : List ℕ) (place : ℕ) (label : Label) →
    FindsNames (names_of (map label_view items)) found
    → found name ≡ Some place → label ≡ slice_index_or items place label
    → FindsNames (names_of (map label_view (slice_set items place (record label { global = true })))) found
kept_names items found name place label finds told e =
    let at = named_at items place label (place_within items found name place finds told) e in
    let same : names_of (map label_view (slice_set items place (record label { global = true }))) ≡ names_of (map label_view items) =
    ap names_of (map-set label_view items place (record label { global = true }))
    ∙ map-set_same (λ (l : LabelView). l.name) (map label_view items) place (label_view (record label { global = true })) (label_view label)
    (ap (λ (l : LabelView). l.name) (sym at)) in
    subst (λ (names : List (List ℕ)). FindsNames names found) (sym same) finds

-- a map with the same entries finds the same
pub same_entries : {Z : Type 0} (names : List (List ℕ)) (m n : BTreeMap (Vec ℕ Z) ℕ) → n.entries ≡ m.entries
    → FindsNames names (index_of_name m) → FindsNames names (index_of_name n)
same_entries {Z = Z} names m n e finds =
    subst (λ (entries : List (Vec ℕ Z × ℕ)). FindsNames names (λ name. lookup (is_at (λ key. slice_cmp nat_cmp name key.items)) entries)) (sym e) finds

-- one more label, whose name is new
pub defined : {Z : Type 0} (items : List Label) (label : Label) (name key : List ℕ) (place : ℕ) (m n : BTreeMap (Vec ℕ Z) ℕ)
    → label.name ≡ name → key ≡ name → place ≡ length items → FindsNames (names_of (map label_view items)) (index_of_name m)
    → value_of_label (map label_view items) name ≡ None
    → UpdatesBy (λ x y. slice_cmp nat_cmp x.items y.items) (λ k. slice_cmp nat_cmp key k.items) m n (Some place)
    → FindsNames (names_of (map label_view (items ++ label ∷ []))) (index_of_name n)
defined items label name key place m n is_name is_key is_place finds unknown updates =
    let missing : index_of_name m name ≡ None = unknown_missing (map label_view items) (index_of_name m) name (index_of_name m name) refl finds unknown in
    let long : length (names_of (map label_view items)) ≡ place =
    omega (arith, length-map (map label_view items) (λ (l : LabelView). l.name), length-map items label_view) in
    let after : (other : List ℕ) → index_of_name n other
    ≡ cond (bytes_eq name other) (Some (length (names_of (map label_view items)))) (index_of_name m other) =
    rw (long, ← is_key) (found_after key m n (Some place) updates) in
    let names : names_of (map label_view (items ++ label ∷ [])) ≡ names_of (map label_view items) ++ name ∷ [] =
    ap names_of (map-append label_view items (label ∷ [])) ∙ map-append (λ (l : LabelView). l.name) (map label_view items) (label_view label ∷ [])
    ∙ ap (λ (text : List ℕ). names_of (map label_view items) ++ text ∷ []) is_name in
    subst (λ (all : List (List ℕ)). FindsNames all (index_of_name n)) (sym names)
    (finds_after (names_of (map label_view items)) (index_of_name m) (index_of_name n) name finds missing after)

pub ruleset tables = (value_missing, exported_missing)
