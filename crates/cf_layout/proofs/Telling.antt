-- Each refusal is true.
use Rattle.std.proofs.Common.{◌≡◌, Result, Ok, Err, IfOk, IfErr, ◌⊎◌, inl, inr, ℕ, ℤ, ◌≤ℤ◌, suc, ◌+◌, ◌<◌, List, [], ◌∷◌, ◌++◌, All, Bool, true, false, cond, Option, Some, None, length, min, map, refl, subst, arith, ◌∙◌, sym, append_assoc}
use Rattle.std.specs.Prelude.{find, not, nat_lt, nat_le, int_lt, slice_get, ◌||◌, ◌&&◌}
use Rattle.std.specs.List.{Any, Contains}
use Rattle.std.proofs.lemmas.List.{map-append}
use Rattle.std.proofs.lemmas.List.Elements.{All-from_recursion}
use Rattle.std.proofs.lemmas.Int.{ints}
use Rattle.std.proofs.lemmas.Option.{same_Some}
use Rattle.std.proofs.Math.Bool.{or-true, or-false}
use Rattle.std.proofs.lemmas.Bool.Decides.{nat_tests}
use Rattle.std.specs.Option.{option_or}
use Rattle.rv_inst.specs.declared.classes.Class.{Class}
use Rattle.rv_inst.specs.declared.classes.Class.TheVariants.{Branch, Jump, Memory, Mul, Div}
use Rattle.cf_layout.specs.declared.parts.Siding as asked
use Rattle.cf_layout.specs.declared.parts.Parts.{Parts}
use Rattle.cf_layout.specs.declared.refusal.LayoutErr.{LayoutErr}
use Rattle.cf_layout.specs.declared.refusal.LayoutErr.TheVariants.{StagesOutOfRange, LaneOutOfRange, StageOutOfRange, ClassTwice, MissingUnit, EmptyUnit, MemoryNotSiding, MemorySharesSiding, SidingOrder, CellsOutOfRange, TooManySidings, EmptySiding}
use Rattle.cf_layout.specs.Layout.{same_class}
use Rattle.cf_layout.specs.Accepted.{is_needed, is_control}
use Rattle.cf_layout.specs.Asked.{natural, is_integer_within, lists_class, is_unit, is_sided, is_asked, stages_listed, ascending}
use Rattle.cf_layout.specs.Acceptable.{AreEquipped, IsAcceptable, times, sided_classes, asked_classes}
use Rattle.cf_layout.specs.Causes.{IsLayoutCause}
use Rattle.cf_layout.specs.Refusal.{unless, outside, twice, missing_class, above, limits_refusal, unit_refusal, units_refusal, first_repeated, stages_refusal, classes_refusal, filled_refusal, siding_refusal, sidings_refusal, missing_refusal, needed_classes, turn_refusal, control_refusal, turns_in, siding_for, memory_launch_in, loose_refusal, first_refusal}
use Rattle.cf_layout.proofs.Counts.{same_true, same_self, times_cons, times_append, is_unit_times, is_sided_times}
use Rattle.cf_layout.proofs.Acceptance.{equipped, acceptable}
use Rattle.cf_layout.proofs.Unrefused.{not_loosely_refused, not_refused}
use Rattle.cf_layout.proofs.Passing.{seen_more, lt_true}

-- what a failing test says
over : (a b : ℕ) → nat_le a b ≡ false → b < a
over a b e = grind (arith, nat_tests)

nothing : (n : ℕ) → nat_lt 0 n ≡ false → n ≡ 0
nothing n e = grind (arith, nat_tests)

not_off : (b : Bool) → not b ≡ false → b ≡ true
not_off true e = refl
not_off false e = sym e

not_on : (b : Bool) → not b ≡ true → b ≡ false
not_on true e = sym e
not_on false e = refl

not_lower : (y z : ℤ) → int_lt y z ≡ false → z ≤ℤ y
not_lower y z e = grind (arith, ints)

both_true : (a b : Bool) → (a && b) ≡ true → (a ≡ true) × (b ≡ true)
both_true true b e = (refl, e)
both_true false b e = cc

one_only : (m d : Bool) → (m || not d) ≡ false → (m ≡ false) × (d ≡ true)
one_only true d e = cc
one_only false true e = (refl, refl)
one_only false false e = cc

-- counts with one more class
more_before : (off seen same : Bool) (rest : ℕ) → 1 < rest + cond (off || (seen || same)) 1 0 → 1 < cond same 1 0 + rest + cond (off || seen) 1 0
more_before true seen same rest le = omega arith
more_before false true same rest le = omega arith
more_before false false true rest le = omega arith
more_before false false false rest le = omega arith

counted : (u b t r : ℕ) → 1 < t + cond (nat_lt 0 u || nat_lt 0 b) 1 0 → 1 < u + (b + (t + r))
counted u b t r le = grind (arith, nat_tests)

-- each of the needed classes is needed
all_needed : All (λ c. is_needed c ≡ true) needed_classes
all_needed = All-from_recursion (λ (c : Class). is_needed c ≡ true) needed_classes (refl, (refl, (refl, (refl, (refl, (refl, (refl, tt)))))))

-- what a refusal, if there is one, says of the parts
Says : Parts → Option LayoutErr → Type 0
Says parts None = Unit {0}
Says parts (Some e) = IsLayoutCause parts e

-- if the refusals of two tests are true, so is the first of them
says_first : (parts : Parts) (a b : Option LayoutErr) → Says parts a → Says parts b → Says parts (option_or a b)
unfolding Says
says_first parts None b s t = t
says_first parts (Some e) b s t = s

-- the refusal of a test is true if the failure of the test is a cause
says_unless : (parts : Parts) (holds : Bool) (e : LayoutErr) → (holds ≡ false → IsLayoutCause parts e) → Says parts (unless holds e)
unfolding Says
says_unless parts true e cause = tt
says_unless parts false e cause = cause refl

-- the limits
says_limits : (parts : Parts) → Says parts (limits_refusal parts)
unfolding limits_refusal
says_limits parts =
    says_first parts _ _ (says_unless parts (is_integer_within 2 32 parts.stages) (StagesOutOfRange parts.stages) (λ off. (refl, off)))
    (says_first parts _ _ (says_unless parts (is_integer_within 2 64 parts.lane) (LaneOutOfRange parts.lane) (λ off. (refl, off)))
    (says_unless parts (nat_le (length parts.sidings) 8) (TooManySidings (min (length parts.sidings) 4294967295)) (λ off. (refl, over _ _ off))))

-- what is found is in the list and passes
found_here : {X : Type 0} (test : X → Bool) (here : Bool) (x y : X) (xs : List X) → test x ≡ here → cond here (Some x) (find test xs) ≡ Some y →
    (find test xs ≡ Some y → (test y ≡ true) × Contains xs y) → (test y ≡ true) × Contains (x ∷ xs) y
found_here test true x y xs at e later = let same = same_Some x y e in (subst (λ (z : _). test z ≡ true) same at, (0, omega arith, same))
found_here test false x y xs at e later = let l = later e in (l.0, (suc l.1.0, omega arith, l.1.2))

found_in : {X : Type 0} (test : X → Bool) (xs : List X) (y : X) → find test xs ≡ Some y → (test y ≡ true) × Contains xs y
found_in test [] y e = cc
found_in test (x ∷ xs) y e = found_here test (test x) x y xs refl e (λ later. found_in test xs y later)

-- an element after others is in the list
after : {X : Type 0} (P : X → Type 0) (before : List X) (x : X) (rest : List X) → P x → Any P (before ++ x ∷ rest)
after P [] x rest p = (0, x, omega arith, refl, p)
after P (y ∷ ys) x rest p = let b = after P ys x rest p in (suc b.0, b.1, omega arith, b.3, b.4)

-- a list is unchanged if an element is moved from its rest to the elements before
taken : {X : Type 0} (before : List X) (x : X) (rest : List X) → (before ++ x ∷ []) ++ rest ≡ before ++ x ∷ rest
taken before x rest = append_assoc before (x ∷ []) rest

-- the class of a unit that is also in a unit before it is listed twice
unit_twice : (before : List (Class × List ℤ)) (unit : Class × List ℤ) (rest : List (Class × List ℤ)) → is_unit before unit.0 ≡ true →
    1 < times (map (λ u. u.0) (before ++ unit ∷ rest)) unit.0
unit_twice before unit rest e =
    let b : 0 < times (map (λ u. u.0) before) unit.0 = lt_true 0 _ (sym (is_unit_times before unit.0) ∙ e) in
    let m : times (unit.0 ∷ map (λ u. u.0) rest) unit.0 ≡ cond (same_class unit.0 unit.0) 1 0 + times (map (λ u. u.0) rest) unit.0 =
    times_cons unit.0 (map (λ u. u.0) rest) unit.0 in
    let n = rw (same_self unit.0) at m in
    rw (map-append (λ (u : Class × List ℤ). u.0) before (unit ∷ rest), times_append (map (λ u. u.0) before) (unit.0 ∷ map (λ u. u.0) rest) unit.0) (omega arith)

-- a unit for Memory
memory_unit : (before : List (Class × List ℤ)) (unit : Class × List ℤ) (rest : List (Class × List ℤ)) → unit.0 ≡ Memory →
    is_unit (before ++ unit ∷ rest) Memory ≡ true
memory_unit [] unit rest e = rw e refl
memory_unit (u ∷ us) unit rest e = rw (memory_unit us unit rest e) (or-true (same_class Memory u.0))

-- so it is listed twice among all classes
unit_more_often : (parts : Parts) (before : List (Class × List ℤ)) (unit : Class × List ℤ) (rest : List (Class × List ℤ)) →
    parts.units ≡ before ++ unit ∷ rest → is_unit before unit.0 ≡ true → 1 < times (asked_classes parts) unit.0
unit_more_often parts before unit rest whole e =
    let t = unit_twice before unit rest e in
    rw (times_append (map (λ u. u.0) parts.units) (sided_classes parts.sidings) unit.0, whole) (omega (arith, t))

-- a stage that the pipeline does not have
says_outside : (parts : Parts) (before : List (Class × List ℤ)) (unit : Class × List ℤ) (rest : List (Class × List ℤ)) → parts.units ≡ before ++ unit ∷ rest →
    (o : Option ℤ) → find (λ stage. not (is_integer_within 1 (natural parts.stages) stage)) unit.1 ≡ o → Says parts (outside unit.0 o)
unfolding Says
says_outside parts before unit rest whole None e = tt
says_outside parts before unit rest whole (Some z) e =
    let f = found_in (λ stage. not (is_integer_within 1 (natural parts.stages) stage)) unit.1 z e in
    (not_on _ f.0, inl (rw whole (after (λ (u : Class × List ℤ). (u.0 ≡ unit.0) × Contains u.1 z) before unit rest (refl, f.1))))

-- a unit
says_unit : (parts : Parts) (before : List (Class × List ℤ)) (unit : Class × List ℤ) (rest : List (Class × List ℤ)) → parts.units ≡ before ++ unit ∷ rest →
    Says parts (unit_refusal (natural parts.stages) before unit)
unfolding unit_refusal
says_unit parts before unit rest whole =
    says_first parts _ _ (says_unless parts (not (same_class unit.0 Memory)) MemoryNotSiding
    (λ off. rw whole (memory_unit before unit rest (same_true unit.0 Memory (not_off _ off)))))
    (says_first parts _ _ (says_unless parts (nat_lt 0 (length unit.1)) (EmptyUnit unit.0)
    (λ off. rw whole (after (λ (u : Class × List ℤ). (u.0 ≡ unit.0) × (length u.1 ≡ 0)) before unit rest (refl, nothing _ off))))
    (says_first parts _ _ (says_outside parts before unit rest whole (find (λ stage. not (is_integer_within 1 (natural parts.stages) stage)) unit.1) refl)
    (says_unless parts (not (is_unit before unit.0)) (ClassTwice unit.0) (λ off. unit_more_often parts before unit rest whole (not_off _ off)))))

-- all units
says_units : (parts : Parts) (before units : List (Class × List ℤ)) → parts.units ≡ before ++ units →
    Says parts (units_refusal (natural parts.stages) before units)
unfolding Says
says_units parts before [] whole = tt
says_units parts before (unit ∷ units) whole = says_first parts _ _ (says_unit parts before unit units whole)
    (says_units parts (before ++ unit ∷ []) units (whole ∙ sym (taken before unit units)))

-- a siding in the list, with what holds of it
sided : (P : asked.Siding → Type 0) (parts : Parts) (before : List asked.Siding) (siding : asked.Siding) (rest : List asked.Siding) →
    parts.sidings ≡ before ++ siding ∷ rest → P siding → Any P parts.sidings
sided P parts before siding rest whole p = rw whole (after P before siding rest p)

-- the cells and the stages of a siding with a first class
says_stages : (parts : Parts) (before : List asked.Siding) (siding : asked.Siding) (rest : List asked.Siding) (first : Class) →
    parts.sidings ≡ before ++ siding ∷ rest → Contains siding.classes first → Says parts (stages_refusal (natural parts.stages) siding first)
unfolding stages_refusal
says_stages parts before siding rest first whole has =
    says_first parts _ _ (says_unless parts (is_integer_within 1 8 siding.cells) (CellsOutOfRange siding.cells)
    (λ off. (off, sided (λ (s : asked.Siding). s.cells ≡ siding.cells) parts before siding rest whole refl)))
    (says_first parts _ _ (says_unless parts (is_integer_within 1 (natural parts.stages) siding.launch) (StageOutOfRange first siding.launch)
    (λ off. (
      off,
      inr (sided (λ (s : asked.Siding). Contains s.classes first × ((s.launch ≡ siding.launch) ⊎ (s.recover ≡ siding.launch))) parts before
          siding rest whole (has, inl refl)),
    )))
    (says_first parts _ _ (says_unless parts (is_integer_within 1 (natural parts.stages) siding.recover) (StageOutOfRange first siding.recover)
    (λ off. (
      off,
      inr (sided (λ (s : asked.Siding). Contains s.classes first × ((s.launch ≡ siding.recover) ⊎ (s.recover ≡ siding.recover))) parts before
          siding rest whole (has, inr refl)),
    )))
    (says_unless parts (int_lt siding.launch siding.recover) (SidingOrder siding.launch siding.recover)
    (λ off. (
      not_lower _ _ off,
      sided (λ (s : asked.Siding). (s.launch ≡ siding.launch) × (s.recover ≡ siding.recover)) parts before siding rest whole
          (refl, refl),
    )))))

-- a class that is repeated occurs more than once, counting elsewhere and before
repeated_here : (elsewhere : Class → Bool) (seen : List Class) (here : Bool) (x c : Class) (xs : List Class) (rest : Option Class) →
    (elsewhere x || lists_class seen x) ≡ here → cond here (Some x) rest ≡ Some c → (rest ≡ Some c →
    1 < times xs c + cond (elsewhere c || lists_class (seen ++ x ∷ []) c) 1 0) → 1 < times (x ∷ xs) c + cond (elsewhere c || lists_class seen c) 1 0
repeated_here elsewhere seen true x c xs rest at e later =
    let same = same_Some x c e in
    let here : (elsewhere c || lists_class seen c) ≡ true = subst (λ (k : Class). (elsewhere k || lists_class seen k) ≡ true) same at in
    let self : same_class c x ≡ true = subst (λ (k : Class). same_class c k ≡ true) (sym same) (same_self c) in
    rw (times_cons x xs c, self, here) (omega arith)
repeated_here elsewhere seen false x c xs rest at e later =
    let l = rw (seen_more seen x c) at (later e) in
    rw (times_cons x xs c) (more_before (elsewhere c) (lists_class seen c) (same_class c x) (times xs c) l)

repeated_more : (elsewhere : Class → Bool) (seen classes : List Class) (c : Class) → first_repeated elsewhere seen classes ≡ Some c →
    1 < times classes c + cond (elsewhere c || lists_class seen c) 1 0
repeated_more elsewhere seen [] c e = cc
repeated_more elsewhere seen (x ∷ xs) c e = repeated_here elsewhere seen (elsewhere x || lists_class seen x) x c xs
    (first_repeated elsewhere (seen ++ x ∷ []) xs) refl e (λ later. repeated_more elsewhere (seen ++ x ∷ []) xs c later)

-- the classes of sidings one after the other
sided_append : (xs ys : List asked.Siding) → sided_classes (xs ++ ys) ≡ sided_classes xs ++ sided_classes ys
sided_append [] ys = refl
sided_append (s ∷ ss) ys = rw (sided_append ss ys) (sym (append_assoc s.classes (sided_classes ss) (sided_classes ys)))

-- a class of a siding that is repeated is listed twice among all classes
says_twice : (parts : Parts) (before : List asked.Siding) (siding : asked.Siding) (rest : List asked.Siding) → parts.sidings ≡ before ++ siding ∷ rest →
    (o : Option Class) → first_repeated (λ c. is_unit parts.units c || is_sided before c) [] siding.classes ≡ o → Says parts (twice o)
unfolding Says
says_twice parts before siding rest whole None e = tt
says_twice parts before siding rest whole (Some c) e =
    let more = rw (or-false (is_unit parts.units c || is_sided before c), is_unit_times parts.units c, is_sided_times before c) at
    (repeated_more (λ k. is_unit parts.units k || is_sided before k) [] siding.classes c e) in
    rw (
      times_append (map (λ u. u.0) parts.units) (sided_classes parts.sidings) c,
      whole,
      sided_append before (siding ∷ rest),
      times_append (sided_classes before) (siding.classes ++ sided_classes rest) c,
      times_append siding.classes (sided_classes rest) c,
    )
    (counted _ (times (sided_classes before) c) (times siding.classes c) _ more)

-- the classes of a siding
says_classes : (parts : Parts) (before : List asked.Siding) (siding : asked.Siding) (rest : List asked.Siding) → parts.sidings ≡ before ++ siding ∷ rest →
    Says parts (classes_refusal (λ c. is_unit parts.units c || is_sided before c) siding.classes)
unfolding classes_refusal
says_classes parts before siding rest whole =
    says_first parts _ _ (says_twice parts before siding rest whole (first_repeated (λ c. is_unit parts.units c || is_sided before c) [] siding.classes) refl)
    (says_unless parts (not (lists_class siding.classes Memory && nat_lt 1 (length siding.classes))) MemorySharesSiding (λ off. let b =
    both_true _ _ (not_off _ off) in sided (λ (s : asked.Siding). (lists_class s.classes Memory ≡ true) × (1 < length s.classes)) parts before siding rest whole
    (b.0, lt_true 1 _ b.1)))

-- the index of the next siding is the number of those before it
number_of : (before : List asked.Siding) (siding : asked.Siding) (rest : List asked.Siding) → slice_get (before ++ siding ∷ rest) (length before) ≡ Some siding
number_of [] siding rest = refl
number_of (s ∷ ss) siding rest = number_of ss siding rest

-- a siding with no class
says_empty : (parts : Parts) (before : List asked.Siding) (siding : asked.Siding) (rest : List asked.Siding) → parts.sidings ≡ before ++ siding ∷ rest →
    length siding.classes ≡ 0 → Says parts (Some (EmptySiding (length before)))
unfolding Says
says_empty parts before siding rest whole none = sided (λ (s : asked.Siding). (slice_get parts.sidings (length before) ≡ Some s)
    × (length s.classes ≡ 0)) parts before siding rest whole (rw whole (number_of before siding rest), none)

-- a siding whose classes these are
says_filled : (parts : Parts) (before : List asked.Siding) (siding : asked.Siding) (rest : List asked.Siding) (classes : List Class) →
    parts.sidings ≡ before ++ siding ∷ rest → classes ≡ siding.classes → Says parts (classes_refusal (λ c. is_unit parts.units c
    || is_sided before c) classes) → Says parts (filled_refusal (natural parts.stages) (λ c. is_unit parts.units c || is_sided before c)
    (length before) siding classes)
says_filled parts before siding rest [] whole same said = says_empty parts before siding rest whole (rw (← same) refl)
says_filled parts before siding rest (first ∷ more) whole same said = says_first parts _ _
    (says_stages parts before siding rest first whole (rw (← same) (0, omega arith, refl))) said

-- a siding
says_siding : (parts : Parts) (before : List asked.Siding) (siding : asked.Siding) (rest : List asked.Siding) → parts.sidings ≡ before ++ siding ∷ rest →
    Says parts (siding_refusal (natural parts.stages) parts.units before siding)
unfolding siding_refusal
says_siding parts before siding rest whole = says_filled parts before siding rest siding.classes whole refl (says_classes parts before siding rest whole)

-- all sidings
says_sidings : (parts : Parts) (before sidings : List asked.Siding) → parts.sidings ≡ before ++ sidings →
    Says parts (sidings_refusal (natural parts.stages) parts.units before sidings)
unfolding Says
says_sidings parts before [] whole = tt
says_sidings parts before (siding ∷ sidings) whole = says_first parts _ _ (says_siding parts before siding sidings whole)
    (says_sidings parts (before ++ siding ∷ []) sidings (whole ∙ sym (taken before siding sidings)))

-- a class that is missing
says_absent : (parts : Parts) (o : Option Class) → find (λ c. not (is_asked parts c)) needed_classes ≡ o → Says parts (missing_class o)
unfolding Says
says_absent parts None e = tt
says_absent parts (Some c) e =
    let f = found_in (λ k. not (is_asked parts k)) needed_classes c e in
    (not_on _ f.0, inl (subst (λ (k : Class). is_needed k ≡ true) f.1.2 (all_needed f.1.0 c f.1.1)))

-- what is missing
says_missing : (parts : Parts) → Says parts (missing_refusal parts)
unfolding missing_refusal
says_missing parts =
    says_first parts _ _ (says_absent parts (find (λ c. not (is_asked parts c)) needed_classes) refl)
    (says_first parts _ _ (says_unless parts (is_asked parts Mul || not (is_asked parts Div)) (MissingUnit Mul) (λ off. let p = one_only _ _ off in
    (p.0, inr (inl (refl, p.1)))))
    (says_unless parts (is_asked parts Div || not (is_asked parts Mul)) (MissingUnit Div) (λ off. let p = one_only _ _ off in (p.0, inr (inr (refl, p.1))))))

-- a stage above the one from which memory is reached
says_above : (parts : Parts) (c : Class) → is_control c ≡ true → (o : Option ℕ) → find (nat_lt (memory_launch_in parts.sidings))
    (turns_in (ascending (stages_listed parts.units c)) (siding_for parts.sidings c)) ≡ o → Says parts (above c (memory_launch_in parts.sidings) o)
unfolding Says
says_above parts c turns None e = tt
says_above parts c turns (Some stage) e =
    let f = found_in (nat_lt (memory_launch_in parts.sidings)) (turns_in (ascending (stages_listed parts.units c)) (siding_for parts.sidings c)) stage e in
    (turns, refl, lt_true _ _ f.0, f.1)

-- where a class turns control
says_turns : (parts : Parts) (c : Class) → is_control c ≡ true → Says parts (turn_refusal parts c)
unfolding turn_refusal
says_turns parts c turns = says_above parts c turns (find (nat_lt (memory_launch_in parts.sidings))
    (turns_in (ascending (stages_listed parts.units c)) (siding_for parts.sidings c))) refl

-- where control turns
says_control : (parts : Parts) → Says parts (control_refusal parts)
unfolding control_refusal
says_control parts = says_first parts _ _ (says_turns parts Branch refl) (says_turns parts Jump refl)

-- all tests but the last
says_loosely : (parts : Parts) → Says parts (loose_refusal parts)
unfolding loose_refusal
says_loosely parts =
    says_first parts _ _ (says_limits parts)
    (says_first parts _ _ (says_units parts [] parts.units refl)
    (says_first parts _ _ (says_sidings parts [] parts.sidings refl) (says_missing parts)))

-- all tests
says_all : (parts : Parts) → Says parts (first_refusal parts)
unfolding first_refusal
says_all parts = says_first parts _ _ (says_loosely parts) (says_control parts)

-- what is returned is a cause
told_cause : (parts : Parts) (o : Option LayoutErr) (e : LayoutErr) → Says parts o → o ≡ Some e → IsLayoutCause parts e
unfolding Says
told_cause parts None e said at = cc
told_cause parts (Some f) e said at = subst (IsLayoutCause parts) (same_Some f e at) said

-- each refusal is true
pub causes : (parts : Parts) (e : LayoutErr) → first_refusal parts ≡ Some e → IsLayoutCause parts e
causes parts e at = told_cause parts (first_refusal parts) e (says_all parts) at

-- a result that refuses is true
pub refused_cause : {T : Type 0} (parts : Parts) (r : Result T LayoutErr) → IfErr r (λ e. first_refusal parts ≡ Some e) → IfErr r (λ e. IsLayoutCause parts e)
refused_cause parts (Ok x) h = tt
refused_cause parts (Err e) h = causes parts e h

-- and it is returned only if the parts are not acceptable
pub refused_unacceptable : {T : Type 0} (parts : Parts) (r : Result T LayoutErr) → IfErr r (λ e. first_refusal parts ≡ Some e) →
    IfErr r (λ e. ¬ IsAcceptable parts)
refused_unacceptable parts (Ok x) h = tt
refused_unacceptable parts (Err e) h = λ a. let n = not_refused parts a in cc

-- a result that accepts is returned only for acceptable parts
pub accepted_acceptable : {T : Type 0} (parts : Parts) (r : Result T LayoutErr) → IfOk r (λ x. first_refusal parts ≡ None) → IfOk r (λ x. IsAcceptable parts)
accepted_acceptable parts (Ok x) h = acceptable parts h
accepted_acceptable parts (Err e) h = tt

-- the same for the tests but the last
pub loosely_refused_cause : {T : Type 0} (parts : Parts) (r : Result T LayoutErr) → IfErr r (λ e. loose_refusal parts ≡ Some e) →
    IfErr r (λ e. IsLayoutCause parts e)
loosely_refused_cause parts (Ok x) h = tt
loosely_refused_cause parts (Err e) h = told_cause parts (loose_refusal parts) e (says_loosely parts) h

pub refused_unequipped : {T : Type 0} (parts : Parts) (r : Result T LayoutErr) → IfErr r (λ e. loose_refusal parts ≡ Some e) →
    IfErr r (λ e. ¬ AreEquipped parts)
refused_unequipped parts (Ok x) h = tt
refused_unequipped parts (Err e) h = λ a. let n = not_loosely_refused parts a in cc

pub laid_equipped : {T : Type 0} (parts : Parts) (r : Result T LayoutErr) → IfOk r (λ x. loose_refusal parts ≡ None) → IfOk r (λ x. AreEquipped parts)
laid_equipped parts (Ok x) h = equipped parts h
laid_equipped parts (Err e) h = tt
