-- The table of a layout's parts has no fault, and requests those parts.
use Rattle.std.proofs.Common.{◌≡◌, ℕ, ℤ, pos, ◌≤◌, Ordering, Less, Equal, Greater, nat_cmp, is_eq, Bool, true, false, cond, le-leb, List, [], ◌∷◌, ◌++◌, length, map, codes, Option, Some, None, refl, sym, ap, ◌∙◌, arith}
use Rattle.std.proofs.lemmas.Option.{none-some}
use Rattle.std.proofs.lemmas.List.{length-map}
use Rattle.std.specs.Cmp.{tied_itself}
use Rattle.std.proofs.lemmas.Cmp.{nat_list_cmp_total}
use Rattle.std.specs.Cmp.Lexicographic.{slice_cmp}
use Rattle.std.specs.Ordering.{match_ordering, ordering_reverse}
use Rattle.toml.specs.Data.{Data, array, Members, member, no_members, get_member, same_key}
use Rattle.rv_inst.specs.declared.classes.Class.{Class}
use Rattle.cf_layout.specs.declared.parts.Siding.{Siding}
use Rattle.cf_layout.specs.declared.parts.Parts.{Parts}
use Rattle.cf_layout.specs.Layout.{computed_classes}
use Rattle.cf_layout.proofs.Asking.{unit_for, units_for}
use Rattle.layout_file.specs.declared.format.Format.{Format}
use Rattle.layout_file.specs.declared.format.Format.TheVariants.{First, Second}
use Rattle.layout_file.specs.declared.kinds.TableKind.{TableKind}
use Rattle.layout_file.specs.declared.kinds.TableKind.TheVariants as kind
use Rattle.layout_file.specs.declared.kinds.Shape.TheVariants.{Integer, Text, Table}
use Rattle.layout_file.specs.Names.{class_name, class_by_name}
use Rattle.layout_file.specs.Tables.{knows, fits, all_have, item_count, is_list_of, first_unknown_key, first_misfit_key, entries_fault}
use Rattle.layout_file.specs.Reading.{integers_of, units_among, first_nameless, classes_of, integer_at, items_at, members_at, siding_fault, siding_in, sidings_fault, sidings_in, cache_in, format_in, format_fault, tables_fault, parts_in}
use Rattle.layout_file.proofs.Documents.{integers, names, place, unit_table, siding_table, siding_items, top_table, table_of}
use Rattle.layout_file.proofs.Filling.{get-place-other}

-- an array is read as the list from which it was made
integers-back : (zs : List ℤ) → integers_of (integers zs) ≡ zs
integers-back [] = refl
integers-back (z ∷ zs) = ap (λ t. z ∷ t) (integers-back zs)

integers-fit : (zs : List ℤ) → (all_have Integer (integers zs) ≡ true) × (item_count (integers zs) ≡ length zs)
integers-fit [] = (refl, refl)
integers-fit (z ∷ zs) = let (a, b) = integers-fit zs in (a, rw b)

integers-array : (zs : List ℤ) → length zs ≤ 1000 → is_list_of Integer (array (integers zs)) ≡ true
integers-array zs few = let (a, b) = integers-fit zs in rw (b, le-leb (length zs) 1000 few, a)

-- the name of a class is read as that class in this format
abbrev pub IsWord : Format → Class → Type 0
IsWord format c = class_by_name format (class_name c) ≡ Some c

abbrev pub AreWords : Format → List Class → Type 0
AreWords format [] = Unit {0}
AreWords format (c ∷ cs) = IsWord format c × AreWords format cs

names-back : (format : Format) (cs : List Class) → AreWords format cs → (classes_of format (names cs) ≡ cs) × (first_nameless format (names cs) ≡ None)
    × (all_have Text (names cs) ≡ true) × (item_count (names cs) ≡ length cs)
names-back format [] words = (refl, refl, refl, refl)
names-back format (c ∷ cs) words = let (a, b, t, n) = names-back format cs words.1 in (rw (words.0, a), rw words.0 b, t, rw n)

names-array : (format : Format) (cs : List Class) → AreWords format cs → length cs ≤ 1000 → is_list_of Text (array (names cs)) ≡ true
names-array format cs words few = let (a, b, t, n) = names-back format cs words in rw (n, le-leb (length cs) 1000 few, t)

-- a siding's table
siding-back : (format : Format) (s : Siding) → AreWords format s.classes → siding_in format (siding_table s) ≡ s
unfolding siding_in
siding-back format s words = let (a, b, t, n) = names-back format s.classes words in rw a

siding-right : (format : Format) (s : Siding) → AreWords format s.classes → length s.classes ≤ 1000 → siding_fault format (siding_table s) ≡ None
unfolding siding_fault entries_fault knows fits
siding-right format s words few = let (a, b, t, n) = names-back format s.classes words in rw (names-array format s.classes words few, b)

-- each siding has few classes, and each class has a name in the format
abbrev pub AreRight : Format → List Siding → Type 0
AreRight format [] = Unit {0}
AreRight format (s ∷ ss) = ((length s.classes ≤ 1000) × AreWords format s.classes) × AreRight format ss

sidings-back : (format : Format) (ss : List Siding) → AreRight format ss → (sidings_in format (siding_items ss) ≡ ss)
    × (sidings_fault format (siding_items ss) ≡ None) × (all_have Table (siding_items ss) ≡ true) × (item_count (siding_items ss) ≡ length ss)
sidings-back format [] right = (refl, refl, refl, refl)
sidings-back format (s ∷ ss) right =
    let (a, b, t, n) = sidings-back format ss right.1 in
    (rw (siding-back format s right.0.1, a), rw (siding-right format s right.0.1 right.0.0, b), t, rw n)

-- the units' table
same-step : (o : Ordering) (k l : List ℕ) (d e : Data) (ms : Members) → o ≡ slice_cmp nat_cmp k l → get_member k (place k d ms) ≡ Some d
    → get_member k (match_ordering o (member k d (member l e ms)) (member l d ms) (member l e (place k d ms))) ≡ Some d
same-step Less k l d e ms is ih = rw (tied_itself nat_list_cmp_total k)
same-step Equal k l d e ms is ih = rw (← is)
same-step Greater k l d e ms is ih = rw (← is) ih

get-place-same : (k : List ℕ) (d : Data) (ms : Members) → get_member k (place k d ms) ≡ Some d
get-place-same k d no_members = rw (tied_itself nat_list_cmp_total k)
get-place-same k d (member l e ms) = same-step (slice_cmp nat_cmp k l) k l d e ms refl (get-place-same k d ms)

-- the classes of a list differ
abbrev pub ClassesDiffer : Class → List Class → Type 0
ClassesDiffer c [] = Unit {0}
ClassesDiffer c (d ∷ ds) = (same_key (class_name d) (class_name c) ≡ false) × ClassesDiffer c ds

abbrev pub AllDiffer : List Class → Type 0
AllDiffer [] = Unit {0}
AllDiffer (c ∷ cs) = ClassesDiffer c cs × AllDiffer cs

-- none of these classes has its name as a key
abbrev pub NoneIn : List Class → Members → Type 0
NoneIn [] ms = Unit {0}
NoneIn (c ∷ cs) ms = (get_member (class_name c) ms ≡ None) × NoneIn cs ms

none-place : (cs : List Class) (c : Class) (d : Data) (ms : Members) → ClassesDiffer c cs → get_member (class_name c) ms ≡ None → NoneIn cs ms →
    NoneIn cs (place (class_name c) d ms)
none-place [] c d ms differ gone h = tt
none-place (e ∷ cs) c d ms differ gone h = (get-place-other (class_name e) (class_name c) d ms differ.0 gone ∙ h.0, none-place cs c d ms differ.1 gone h.1)

none-empty : (cs : List Class) → NoneIn cs no_members
none-empty [] = tt
none-empty (c ∷ cs) = (refl, none-empty cs)

symmetric : (o : Ordering) → is_eq (ordering_reverse o) ≡ is_eq o
symmetric Less = refl
symmetric Equal = refl
symmetric Greater = refl

same_key-sym : (k l : List ℕ) → same_key k l ≡ same_key l k
same_key-sym k l = ap is_eq (nat_list_cmp_total.antisymm k l) ∙ symmetric (slice_cmp nat_cmp l k)

-- a key that no later unit has keeps its value
abbrev Keeps : (Class → List ℕ) → List Class → Class → Type 0
Keeps f cs c = (ms : Members) → NoneIn cs ms → get_member (class_name c) (unit_table (units_for f cs) ms) ≡ get_member (class_name c) ms

kept-one : (f : Class → List ℕ) (cs : List Class) (c e : Class) (stages : List ℕ) (ms : Members) → Keeps f cs c → ClassesDiffer c (e ∷ cs) →
    AllDiffer (e ∷ cs) → NoneIn (e ∷ cs) ms
    → get_member (class_name c) (unit_table (unit_for e stages ++ units_for f cs) ms) ≡ get_member (class_name c) ms
kept-one f cs c e [] ms ih differ all gone = ih ms gone.1
kept-one f cs c e (i ∷ is) ms ih differ all gone =
    let d = array (integers (map (λ n. pos n) (i ∷ is))) in
    ih (place (class_name e) d ms) (none-place cs e d ms all.0 gone.0 gone.1)
    ∙ get-place-other (class_name c) (class_name e) d ms (same_key-sym (class_name c) (class_name e) ∙ differ.0) gone.0

kept : (f : Class → List ℕ) (cs : List Class) (c : Class) (ms : Members) → ClassesDiffer c cs → AllDiffer cs → NoneIn cs ms →
    get_member (class_name c) (unit_table (units_for f cs) ms) ≡ get_member (class_name c) ms
kept f [] c ms differ all gone = refl
kept f (e ∷ cs) c ms differ all gone = kept-one f cs c e (f e) ms (λ n none. kept f cs c n differ.1 all.1 none) differ all gone

-- the units that the table gives are those that it was made from
units-one : (f : Class → List ℕ) (cs : List Class) (c : Class) (stages : List ℕ) (ms : Members) →
    ((n : Members) → NoneIn cs n → units_among cs (unit_table (units_for f cs) n) ≡ units_for f cs)
    → AllDiffer (c ∷ cs) → NoneIn (c ∷ cs) ms → units_among (c ∷ cs) (unit_table (unit_for c stages ++ units_for f cs) ms) ≡ unit_for c stages ++ units_for f cs
units-one f cs c [] ms ih all gone = rw (kept f cs c ms all.0 all.1 gone.1, gone.0) (ih ms gone.1)
units-one f cs c (i ∷ is) ms ih all gone =
    let zs = map (λ n. pos n) (i ∷ is) in
    let d = array (integers zs) in
    let now = place (class_name c) d ms in
    let gone_now = none-place cs c d ms all.0 gone.0 gone.1 in
    rw (kept f cs c now all.0 all.1 gone_now, get-place-same (class_name c) d ms, integers-back zs, ih now gone_now)

units-back : (f : Class → List ℕ) (cs : List Class) (ms : Members) → AllDiffer cs → NoneIn cs ms →
    units_among cs (unit_table (units_for f cs) ms) ≡ units_for f cs
units-back f [] ms all gone = refl
units-back f (c ∷ cs) ms all gone = units-one f cs c (f c) ms (λ n none. units-back f cs n all.1 none) all gone

-- and it has no fault
known-more : (b : Bool) (l : List ℕ) (x y : Option (List ℕ)) → cond b x (Some l) ≡ None → y ≡ None → cond b y (Some l) ≡ None
known-more true l x y h more = more
known-more false l x y h more = absurd (none-some l (sym h))

rest-none : (b : Bool) (l : List ℕ) (x : Option (List ℕ)) → cond b x (Some l) ≡ None → x ≡ None
rest-none true l x h = h
rest-none false l x h = absurd (none-some l (sym h))

known-step : (o : Ordering) (f : TableKind) (k l : List ℕ) (d e : Data) (ms : Members) → knows f k ≡ true → first_unknown_key f (member l e ms) ≡ None →
    first_unknown_key f (place k d ms) ≡ None
    → first_unknown_key f (match_ordering o (member k d (member l e ms)) (member l d ms) (member l e (place k d ms))) ≡ None
known-step Less f k l d e ms known h ih = rw known h
known-step Equal f k l d e ms known h ih = h
known-step Greater f k l d e ms known h ih = known-more (knows f l) l (first_unknown_key f ms) (first_unknown_key f (place k d ms)) h ih

known-place : (f : TableKind) (k : List ℕ) (d : Data) (ms : Members) → knows f k ≡ true → first_unknown_key f ms ≡ None →
    first_unknown_key f (place k d ms) ≡ None
known-place f k d no_members known h = rw known
known-place f k d (member l e ms) known h = known-step (slice_cmp nat_cmp k l) f k l d e ms known h
    (known-place f k d ms known (rest-none (knows f l) l (first_unknown_key f ms) h))

fit-step : (o : Ordering) (f : TableKind) (k l : List ℕ) (d e : Data) (ms : Members) → fits f k d ≡ true →
    match_ordering o (get_member k ms) (Some e) (get_member k ms) ≡ None → first_misfit_key f (member l e ms) ≡ None
    → (get_member k ms ≡ None → first_misfit_key f (place k d ms) ≡ None)
    → first_misfit_key f (match_ordering o (member k d (member l e ms)) (member l d ms) (member l e (place k d ms))) ≡ None
fit-step Less f k l d e ms fit gone h ih = rw fit h
fit-step Equal f k l d e ms fit gone h ih = absurd (none-some e (sym gone))
fit-step Greater f k l d e ms fit gone h ih = known-more (fits f l e) l (first_misfit_key f ms) (first_misfit_key f (place k d ms)) h (ih gone)

fit-place : (f : TableKind) (k : List ℕ) (d : Data) (ms : Members) → fits f k d ≡ true → get_member k ms ≡ None → first_misfit_key f ms ≡ None →
    first_misfit_key f (place k d ms) ≡ None
fit-place f k d no_members fit gone h = rw fit
fit-place f k d (member l e ms) fit gone h =
    fit-step (slice_cmp nat_cmp k l) f k l d e ms fit gone h (λ none. fit-place f k d ms fit none (rest-none (fits f l e) l (first_misfit_key f ms) h))

knows-class : (format : Format) (c : Class) → IsWord format c → knows (kind.Units format) (class_name c) ≡ true
unfolding knows
knows-class format c word = rw word

fits-class : (format : Format) (c : Class) (zs : List ℤ) → length zs ≤ 1000 → fits (kind.Units format) (class_name c) (array (integers zs)) ≡ true
unfolding fits
fits-class format c zs few = integers-array zs few

abbrev RightUnits : Format → Members → Type 0
RightUnits format ms = (first_unknown_key (kind.Units format) ms ≡ None) × (first_misfit_key (kind.Units format) ms ≡ None)

-- the stages are few, and a class that has stages has a name in the format
abbrev pub IsRightUnit : Format → Class → List ℕ → Type 0
IsRightUnit format c stages = (length stages ≤ 1000) × (1 ≤ length stages → IsWord format c)

abbrev pub AreRightUnits : Format → (Class → List ℕ) → List Class → Type 0
AreRightUnits format f [] = Unit {0}
AreRightUnits format f (c ∷ cs) = IsRightUnit format c (f c) × AreRightUnits format f cs

few_integers : (is : List ℕ) → length is ≤ 1000 → length (map (λ n. pos n) is) ≤ 1000
few_integers is few = rw length-map few

right-one : (format : Format) (f : Class → List ℕ) (cs : List Class) (c : Class) (stages : List ℕ) (ms : Members) →
    ((n : Members) → NoneIn cs n → RightUnits format n → RightUnits format (unit_table (units_for f cs) n))
    → IsRightUnit format c stages → AllDiffer (c ∷ cs) → NoneIn (c ∷ cs) ms → RightUnits format ms →
    RightUnits format (unit_table (unit_for c stages ++ units_for f cs) ms)
right-one format f cs c [] ms ih unit all gone right = ih ms gone.1 right
right-one format f cs c (i ∷ is) ms ih unit all gone right =
    let d = array (integers (map (λ n. pos n) (i ∷ is))) in
    ih (place (class_name c) d ms) (none-place cs c d ms all.0 gone.0 gone.1) (
      known-place (kind.Units format) (class_name c) d ms (knows-class format c (unit.1 (omega arith))) right.0,
      fit-place (kind.Units format) (class_name c) d ms (fits-class format c (map (λ n. pos n) (i ∷ is)) (few_integers (i ∷ is) unit.0)) gone.0 right.1,
    )

units-right : (format : Format) (f : Class → List ℕ) (cs : List Class) (ms : Members) → AreRightUnits format f cs → AllDiffer cs → NoneIn cs ms →
    RightUnits format ms → RightUnits format (unit_table (units_for f cs) ms)
units-right format f [] ms units all gone right = right
units-right format f (c ∷ cs) ms units all gone right = right-one format f cs c (f c) ms (λ n none r. units-right format f cs n units.1 all.1 none r) units.0
    all gone right

pub classes-differ : AllDiffer computed_classes
classes-differ = (
  (refl, (refl, (refl, (refl, (refl, (refl, (refl, (refl, tt)))))))),
  (
    (refl, (refl, (refl, (refl, (refl, (refl, (refl, tt))))))),
    (
      (refl, (refl, (refl, (refl, (refl, (refl, tt)))))),
      (
        (refl, (refl, (refl, (refl, (refl, tt))))),
        ((refl, (refl, (refl, (refl, tt)))), ((refl, (refl, (refl, tt))), ((refl, (refl, tt)), ((refl, tt), (tt, tt))))),
      ),
    ),
  ),
)

-- what makes parts readable in a format
pub record AreReadable (format : Format) (f : Class → List ℕ) (p : Parts) : Type 0 where
  pub units : p.units ≡ units_for f computed_classes
  pub stages : AreRightUnits format f computed_classes
  pub sidings : AreRight format p.sidings
  pub few : length p.sidings ≤ 1000
  pub cache : format ≡ First → p.cache ≡ false

units-form : (format : Format) (f : Class → List ℕ) → AreRightUnits format f computed_classes →
    entries_fault (kind.Units format) (unit_table (units_for f computed_classes) no_members) ≡ None
unfolding entries_fault
units-form format f right = let (a, b) = units-right format f computed_classes no_members right classes-differ (none-empty computed_classes) (refl, refl) in
    rw (a, b)

sidings-fit : (format : Format) (ss : List Siding) → AreRight format ss → length ss ≤ 1000 → is_list_of Table (array (siding_items ss)) ≡ true
sidings-fit format ss right few = let (a, b, t, n) = sidings-back format ss right in rw (n, le-leb (length ss) 1000 few, t)

top-form : (ss : List Siding) (format : Format) (p : Parts) (units : Members) → p.sidings ≡ ss → is_list_of Table (array (siding_items ss)) ≡ true →
    entries_fault (kind.Top format) (top_table format p units) ≡ None
unfolding entries_fault knows fits
top-form [] First p units e fit = rw e
top-form [] Second p units e fit = rw e
top-form (s ∷ ss) First p units e fit = rw (e, fit)
top-form (s ∷ ss) Second p units e fit = rw (e, fit)

-- what is at the keys
top-siding : (ss : List Siding) (format : Format) (p : Parts) (units : Members) → p.sidings ≡ ss →
    items_at (codes "siding") (top_table format p units) ≡ siding_items ss
top-siding [] First p units e = rw e
top-siding [] Second p units e = rw e
top-siding (s ∷ ss) First p units e = rw e
top-siding (s ∷ ss) Second p units e = rw e

top-rest : (ss : List Siding) (format : Format) (p : Parts) (units : Members) → p.sidings ≡ ss
    → (integer_at (codes "lane") (top_table format p units) ≡ p.lane) × (integer_at (codes "stages") (top_table format p units) ≡ p.stages)
    × (members_at (codes "units") (top_table format p units) ≡ units)
top-rest [] First p units e = rw e (refl, refl, refl)
top-rest [] Second p units e = rw e (refl, refl, refl)
top-rest (s ∷ ss) First p units e = rw e (refl, refl, refl)
top-rest (s ∷ ss) Second p units e = rw e (refl, refl, refl)

top-format : (format : Format) (p : Parts) (units : Members) → format_fault format (integer_at (codes "format") (top_table format p units)) ≡ None
top-format First p units = refl
top-format Second p units = refl

pub table_format : (format : Format) (p : Parts) → format_in (table_of format p) ≡ format
unfolding format_in
table_format First p = refl
table_format Second p = refl

top-cache : (format : Format) (p : Parts) (units : Members) → (format ≡ First → p.cache ≡ false) →
    cache_in format (top_table format p units) ≡ p.cache
top-cache First p units none = sym (none refl)
top-cache Second p units none = refl

pub table_right : (format : Format) (f : Class → List ℕ) (p : Parts) → AreReadable format f p → tables_fault format (table_of format p) ≡ None
unfolding tables_fault
table_right format f p r =
    let units = unit_table p.units no_members in
    let (la, st, un) = top-rest p.sidings format p units refl in
    let (a, b, t, n) = sidings-back format p.sidings r.sidings in
    rw (
      top-form p.sidings format p units refl (sidings-fit format p.sidings r.sidings r.few),
      top-format format p units,
      top-siding p.sidings format p units refl,
      b,
      un,
      r.units,
      units-form format f r.stages,
    )

pub table_back : (format : Format) (f : Class → List ℕ) (p : Parts) → AreReadable format f p → parts_in format (table_of format p) ≡ p
unfolding parts_in
table_back format f p r =
    let units = unit_table p.units no_members in
    let (la, st, un) = top-rest p.sidings format p units refl in
    let (a, b, t, n) = sidings-back format p.sidings r.sidings in
    let units_same : units_among computed_classes (unit_table p.units no_members) ≡ p.units =
    rw r.units (units-back f computed_classes no_members classes-differ (none-empty computed_classes)) in
    rw (la, st, un, units_same, top-siding p.sidings format p units refl, a, top-cache format p units r.cache)
