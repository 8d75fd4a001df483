-- The text of an accepted layout is read as that layout.
use Rattle.std.proofs.Common.{◌≡◌, inl, inr, ℕ, ◌+◌, ◌<◌, ◌≤◌, List, [], ◌∷◌, ◌++◌, All, Bool, true, false, None, length, map, get_or, refl, ap, sym, subst, ◌∙◌, arith}
use Rattle.std.specs.Prelude.{IsUtf8, nat_lt, filter, if◌then◌else◌, ◌||◌, ◌&&◌, Result, Ok, Err, IfErr}
use Rattle.std.proofs.lemmas.Option.{none-some, same_Some}
use Rattle.std.proofs.lemmas.List.{length-map}
use Rattle.std.proofs.lemmas.List.Elements.{All-tail}
use Rattle.std.proofs.lemmas.List.Folds.{list_any_at}
use Rattle.std.proofs.lemmas.Bool.Decides.{nat_tests}
use Rattle.std.proofs.Math.Bool.{or-true}
use Rattle.toml.specs.Data.{same_key}
use Rattle.rv_inst.specs.declared.classes.Class.{Class}
use Rattle.rv_inst.specs.declared.classes.Class.TheVariants.{Add, Logic, Shift, Compare, Branch, Jump, Memory, Serial, Free, Mul, Div}
use Rattle.cf_layout.specs.Layout.{Plan, SidingPlan, same_class, computed_classes, stages_of, serves, unit_homes, homes, has_mul}
use Rattle.cf_layout.specs.Accepted.{IsSiding, IsAccepted}
use Rattle.cf_layout.specs.Acceptable.{IsComputed}
use Rattle.cf_layout.specs.Asked.{lists_class, plan_of}
use Rattle.cf_layout.proofs.Counts.{same_self, any_kept}
use Rattle.cf_layout.proofs.Passing.{lt_true}
use Rattle.cf_layout.proofs.Ordered.{few_classes}
use Rattle.cf_layout.proofs.Asking.{unit_for, units_for, asking_siding, asking, class_stages_few, plan_back, asking_passes}
use Rattle.layout_file.specs.declared.format.Format.{Format}
use Rattle.layout_file.specs.declared.format.Format.TheVariants.{First, Second}
use Rattle.layout_file.specs.declared.fault.FileErr.{FileErr}
use Rattle.layout_file.specs.declared.fault.FileErr.TheVariants.{NoMemory}
use Rattle.layout_file.specs.Names.{class_name, class_by_name}
use Rattle.layout_file.specs.Reading.{fault_of, requested_parts}
use Rattle.layout_file.specs.Answers.{IsNotToml, HasFault, FailsWithin, LayoutFails, Describes, ReadsAs}
use Rattle.layout_file.specs.Text.{needed_format, layout_text}
use Rattle.layout_file.proofs.Documents.{table_of}
use Rattle.layout_file.proofs.Filling.{AreOthers, AreDistinct}
use Rattle.layout_file.proofs.Back.{IsWord, AreWords, AreRight, IsRightUnit, AreRightUnits, ClassesDiffer, AllDiffer, classes-differ, AreReadable, table_format, table_right, table_back}
use Rattle.layout_file.proofs.Texts.{text_read}
use Rattle.layout_file.proofs.Sizes.{accepted_small, text_short}

-- the entries of different classes are different
others_one : (f : Class → List ℕ) (c d : Class) (ds : List Class) (stages : List ℕ) → same_key (class_name d) (class_name c) ≡ false →
    AreOthers c (units_for f ds) → AreOthers c (unit_for d stages ++ units_for f ds)
others_one f c d ds [] differ more = more
others_one f c d ds (i ∷ is) differ more = (differ, more)

others_from : (f : Class → List ℕ) (c : Class) (cs : List Class) → ClassesDiffer c cs → AreOthers c (units_for f cs)
others_from f c [] differ = tt
others_from f c (d ∷ ds) differ = others_one f c d ds (f d) differ.0 (others_from f c ds differ.1)

distinct_one : (f : Class → List ℕ) (c : Class) (cs : List Class) (stages : List ℕ) → AreOthers c (units_for f cs) → AreDistinct (units_for f cs) →
    AreDistinct (unit_for c stages ++ units_for f cs)
distinct_one f c cs [] others more = more
distinct_one f c cs (i ∷ is) others more = (others, more)

distinct_from : (f : Class → List ℕ) (cs : List Class) → AllDiffer cs → AreDistinct (units_for f cs)
distinct_from f [] differ = tt
distinct_from f (c ∷ cs) differ = distinct_one f c cs (f c) (others_from f c cs differ.0) (distinct_from f cs differ.1)

-- the names of `mul` and `div` need format 2
abbrev NeedsSecond : Format → Class → Type 0
NeedsSecond format c = ((c ≡ Mul) → format ≡ Second) × ((c ≡ Div) → format ≡ Second)

word_of : (format : Format) (c : Class) → IsComputed c → NeedsSecond format c → IsWord format c
unfolding class_by_name
word_of Second Add small needs = refl
word_of Second Logic small needs = refl
word_of Second Shift small needs = refl
word_of Second Compare small needs = refl
word_of Second Branch small needs = refl
word_of Second Jump small needs = refl
word_of Second Memory small needs = refl
word_of Second Mul small needs = refl
word_of Second Div small needs = refl
word_of First Add small needs = refl
word_of First Logic small needs = refl
word_of First Shift small needs = refl
word_of First Compare small needs = refl
word_of First Branch small needs = refl
word_of First Jump small needs = refl
word_of First Memory small needs = refl
word_of First Mul small needs = absurd (cc (needs.0 refl))
word_of First Div small needs = absurd (cc (needs.1 refl))
word_of format Serial small needs = absurd (omega arith)
word_of format Free small needs = absurd (omega arith)

-- a layout in which one of them has a home multiplies and divides
both_homed : (m d : ℕ) → m ≡ d → 1 ≤ m → (nat_lt 0 m && nat_lt 0 d) ≡ true
both_homed m d same some = grind (arith, nat_tests)

mul_homed : (plan : Plan) → IsAccepted plan → 1 ≤ homes plan Mul → needed_format plan ≡ Second
unfolding has_mul
mul_homed plan a some =
    let mul : has_mul plan ≡ true = both_homed (homes plan Mul) (homes plan Div) a.pair some in
    rw (mul, or-true plan.cache) refl

div_homed : (plan : Plan) → IsAccepted plan → 1 ≤ homes plan Div → needed_format plan ≡ Second
div_homed plan a some = let same = a.pair in mul_homed plan a (omega arith)

homed_needs : (plan : Plan) → IsAccepted plan → (c : Class) → 1 ≤ homes plan c → NeedsSecond (needed_format plan) c
homed_needs plan a c some =
    ((λ e. mul_homed plan a (subst (λ (k : Class). 1 ≤ homes plan k) e some)), (λ e. div_homed plan a (subst (λ (k : Class). 1 ≤ homes plan k) e some)))

-- a class with a stage has a home
stage_home : (stages : List ℕ) (n : ℕ) → 1 ≤ length stages → 1 ≤ unit_homes stages + n
stage_home [] n some = absurd (omega arith)
stage_home (i ∷ is) n some = omega arith

unit_needs : (plan : Plan) → IsAccepted plan → (c : Class) → 1 ≤ length (stages_of plan c) → NeedsSecond (needed_format plan) c
unfolding homes
unit_needs plan a c some = homed_needs plan a c (stage_home (stages_of plan c) (length (filter (λ siding. serves siding c) plan.sidings)) some)

-- the units are readable
right_unit : (plan : Plan) → IsAccepted plan → (c : Class) → IsComputed c → IsRightUnit (needed_format plan) c (stages_of plan c)
right_unit plan a c small = let few = class_stages_few plan a c in (omega arith, (λ some. word_of (needed_format plan) c small (unit_needs plan a c some)))

abbrev AreComputed : List Class → Type 0
AreComputed [] = Unit {0}
AreComputed (c ∷ cs) = IsComputed c × AreComputed cs

right_units : (plan : Plan) → IsAccepted plan → (cs : List Class) → AreComputed cs → AreRightUnits (needed_format plan) (stages_of plan) cs
right_units plan a [] small = tt
right_units plan a (c ∷ cs) small = (right_unit plan a c small.0, right_units plan a cs small.1)

-- a class that goes through a siding has a home
siding_needs : (plan : Plan) → IsAccepted plan → (k : ℕ) (d : SidingPlan) → k < length plan.sidings → (c : Class) → serves (get_or plan.sidings k d) c ≡ true →
    NeedsSecond (needed_format plan) c
unfolding homes
siding_needs plan a k d within c served =
    let some : 0 < length (filter (λ siding. serves siding c) plan.sidings) = lt_true 0 _ (sym (any_kept (λ siding. serves siding c) plan.sidings)
    ∙ list_any_at (λ siding. serves siding c) plan.sidings k d within served) in
    homed_needs plan a c (omega arith)

-- the words of classes that are named
named_words : (format : Format) (classes : List Class) → All IsComputed classes → ((c : Class) → lists_class classes c ≡ true → NeedsSecond format c) →
    AreWords format classes
named_words format [] small needs = tt
named_words format (c ∷ cs) small needs = (
  word_of format c (small 0 c (omega arith)) (needs c (rw (same_self c) refl)),
  named_words format cs (All-tail IsComputed c cs small) (λ d named. needs d (ap (λ (b : Bool). same_class d c || b) named ∙ or-true (same_class d c))),
)

siding_words : (plan : Plan) → IsAccepted plan → All (λ s. AreWords (needed_format plan) s.classes) plan.sidings
unfolding serves
siding_words plan a = λ k d within. named_words (needed_format plan) (get_or plan.sidings k d).classes (a.sidings k d within).computed
    (λ c named. siding_needs plan a k d within c named)

-- the sidings are readable
right_sidings : (format : Format) (plan : Plan) (ss : List SidingPlan) → All (IsSiding plan) ss → All (λ s. AreWords format s.classes) ss →
    AreRight format (map asking_siding ss)
right_sidings format plan [] all words = tt
right_sidings format plan (s ∷ ss) all words =
    let here = all 0 s (omega arith) in
    let few = few_classes s.classes here.ordered here.computed in (
      (omega arith, words 0 s (omega arith)),
      right_sidings format plan ss (All-tail (IsSiding plan) s ss all)
          (All-tail (λ (t : SidingPlan). AreWords format t.classes) s ss words),
    )

-- format 1 has no cache
no_cache : (cache mul : Bool) → (if cache || mul then Second else First) ≡ First → cache ≡ false
no_cache true mul e = absurd (cc e)
no_cache false mul e = refl

-- the parts that request an accepted layout are readable in its format
readable : (plan : Plan) → IsAccepted plan → AreReadable (needed_format plan) (stages_of plan) (asking plan)
readable plan a = record {
  units = refl;
  stages = right_units plan a computed_classes
      (omega arith, (omega arith, (omega arith, (omega arith, (omega arith, (omega arith, (omega arith, (omega arith, (omega arith, tt)))))))));
  sidings = right_sidings (needed_format plan) plan plan.sidings a.sidings (siding_words plan a);
  few = let few = a.few_sidings in omega (arith, length-map plan.sidings asking_siding);
  cache = no_cache plan.cache (has_mul plan);
}

-- so its table requests it, and has no fault
table_asks : (plan : Plan) → IsAccepted plan → requested_parts (table_of (needed_format plan) (asking plan)) ≡ asking plan
table_asks plan a = rw (table_format (needed_format plan) (asking plan)) (table_back (needed_format plan) (stages_of plan) (asking plan) (readable plan a))

table_faultless : (plan : Plan) → IsAccepted plan → fault_of (table_of (needed_format plan) (asking plan)) ≡ None
unfolding fault_of
table_faultless plan a =
    rw (
      table_format (needed_format plan) (asking plan),
      table_right (needed_format plan) (stages_of plan) (asking plan) (readable plan a),
      table_back (needed_format plan) (stages_of plan) (asking plan) (readable plan a),
      asking_passes plan a,
    ) refl

-- its text describes it, if it is UTF-8
pub text_describes : (plan : Plan) → IsAccepted plan → IsUtf8 (layout_text plan) → Describes (layout_text plan) plan
unfolding layout_text
text_describes plan a utf8 = (
  text_short (needed_format plan) plan a,
  (
    table_of (needed_format plan) (asking plan),
    (utf8, text_read (needed_format plan) plan (distinct_from (stages_of plan) computed_classes classes-differ) (accepted_small plan a)),
    table_faultless plan a,
    sym (ap plan_of (table_asks plan a) ∙ plan_back plan a),
  ),
)

-- a file describes one layout
pub one_described : (file : List ℕ) (plan other : Plan) → Describes file plan → Describes file other → other ≡ plan
one_described file plan other d e =
    let (short, (ms, read, right, is)) = d in
    let (same_short, (ns, again, well, its)) = e in
    let same : ns ≡ ms = same_Some ns ms (sym again.1 ∙ read.1) in
    its ∙ (ap (λ m. plan_of (requested_parts m)) same ∙ sym is)

-- and a file that describes a layout has no fault
no_fault : (file : List ℕ) (plan : Plan) (e : FileErr) → Describes file plan → HasFault fault_of file e → e ≡ NoMemory
no_fault file plan e d h =
    let (short, (ms, read, right, is)) = d in
    let (ns, again, fault) = h in
    let same : ns ≡ ms = same_Some ns ms (sym again.1 ∙ read.1) in
    absurd (none-some e (sym right ∙ (ap fault_of (sym same) ∙ fault)))

is_toml : (file : List ℕ) (plan : Plan) (e : FileErr) → Describes file plan → IsNotToml file → e ≡ NoMemory
is_toml file plan e d h = let (short, (ms, read, right, is)) = d in absurd (none-some ms (sym (h read.0) ∙ read.1))

fails_within : (file : List ℕ) (plan : Plan) (e : FileErr) → Describes file plan → FailsWithin fault_of file e → e ≡ NoMemory
fails_within file plan e d (inl memory) = memory
fails_within file plan e d (inr (inl other)) = is_toml file plan e d other.1
fails_within file plan e d (inr (inr fault)) = no_fault file plan e d fault

fails_by : (file : List ℕ) (plan : Plan) (e : FileErr) → Describes file plan → LayoutFails file e → e ≡ NoMemory
fails_by file plan e d (inl long) = let short = d.0 in let over = long.1 in absurd (omega arith)
fails_by file plan e d (inr within) = fails_within file plan e d within.1

-- so it is read as that layout
pub text_reads : (plan : Plan) (file : List ℕ) → IsAccepted plan → file ≡ layout_text plan → IsUtf8 file → ReadsAs file plan
text_reads plan file a is utf8 =
    let d : Describes file plan = subst (λ (f : List ℕ). Describes f plan) (sym is) (text_describes plan a (subst IsUtf8 is utf8)) in
    record {
      describes = d;
      alone = λ other e. one_described file plan other d e;
      readable = λ e fails. fails_by file plan e d fails;
    }

-- if such a file is not read, the answer is that memory ran out
pub read_fails : {T : Type 0} (file : List ℕ) (plan : Plan) (r : Result T FileErr) → ReadsAs file plan → IfErr r (λ e. LayoutFails file e) →
    IfErr r (λ e. e ≡ NoMemory)
read_fails file plan (Ok x) reads h = tt
read_fails file plan (Err e) reads h = reads.readable e h
