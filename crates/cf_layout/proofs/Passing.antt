-- What holds of parts that pass the tests.
use Rattle.std.proofs.Common.{◌≡◌, ◌≢◌, ℕ, ℤ, pos, negsuc, ◌<ℤ◌, ◌+◌, ◌<◌, ◌≤◌, List, [], ◌∷◌, ◌++◌, All, Bool, true, false, cond, subst, OnOk, Option, Some, None, Result, Ok, length, map, refl, ap, arith, sym}
use Rattle.std.specs.Prelude.{find, not, nat_lt, nat_le, int_lt, ◌||◌, ◌&&◌}
use Rattle.std.proofs.lemmas.List.Elements.{All-cons, All-nil}
use Rattle.std.proofs.lemmas.Int.{ints}
use Rattle.std.proofs.lemmas.List.Folds.{list_any-append}
use Rattle.std.proofs.Math.Bool.{or-false}
use Rattle.std.proofs.lemmas.Bool.Decides.{nat_tests}
use Rattle.std.specs.Option.{option_or}
use Rattle.rv_inst.specs.declared.classes.Class.{Class}
use Rattle.rv_inst.specs.declared.classes.Class.TheVariants.{Memory}
use Rattle.cf_layout.specs.declared.parts.Siding as asked
use Rattle.cf_layout.specs.declared.parts.Parts.{Parts}
use Rattle.cf_layout.specs.declared.refusal.LayoutErr.{LayoutErr}
use Rattle.cf_layout.specs.Layout.{same_class}
use Rattle.cf_layout.specs.Asked.{natural, is_integer_within, lists_class, is_unit, is_sided, IsSmallSiding}
use Rattle.cf_layout.specs.Acceptable.{IsUnit, IsSiding, times, sided_classes}
use Rattle.cf_layout.specs.Refusal.{test_outcome, unless, outside, twice, limits_refusal, unit_refusal, units_refusal, first_repeated, stages_refusal, classes_refusal, filled_refusal, siding_refusal, sidings_refusal}
use Rattle.cf_layout.proofs.Counts.{same_true, names_times, times_cons, times_append, times_nil, is_unit_times}

-- a test that refuses nothing holds
pub holds : (b : Bool) (e : LayoutErr) → unless b e ≡ None → b ≡ true
holds true e p = refl
holds false e p = cc

-- if two tests refuse nothing, the first refuses nothing
pub first_passes : (a b : Option LayoutErr) → option_or a b ≡ None → a ≡ None
first_passes None b e = refl
first_passes (Some x) b e = cc

-- and neither does the second
pub next_passes : (a b : Option LayoutErr) → option_or a b ≡ None → b ≡ None
next_passes None b e = e
next_passes (Some x) b e = cc

-- a Boolean that is not true is false
pub not_true : (b : Bool) → not b ≡ true → b ≡ false
not_true true e = sym e
not_true false e = refl

-- a Boolean that is not false is true
pub not_false : (b : Bool) → not b ≡ false → b ≡ true
not_false true e = refl
not_false false e = sym e

-- no element of the list fails, by whether the first one does
none_step : {X : Type 0} (P : X → Type 0) (fails : Bool) (x : X) (rest : Option X) → (fails ≡ false → P x) → cond fails (Some x) rest ≡ None →
    P x × (rest ≡ None)
none_step P true x rest here e = cc
none_step P false x rest here e = (here refl, e)

-- if no element is found, each fails the test
pub all_fail : {X : Type 0} (test : X → Bool) (xs : List X) → find test xs ≡ None → All (λ x. test x ≡ false) xs
all_fail test [] e = All-nil (λ x. test x ≡ false)
all_fail test (x ∷ xs) e =
    let r = none_step (λ y. test y ≡ false) (test x) x (find test xs) (λ f. f) e in
    All-cons (λ y. test y ≡ false) x xs r.0 (all_fail test xs r.1)

-- if no element is found that fails, each passes
pub none_found : {X : Type 0} (test : X → Bool) (xs : List X) → find (λ x. not (test x)) xs ≡ None → All (λ x. test x ≡ true) xs
none_found test xs e = λ k d within. not_false _ (all_fail (λ x. not (test x)) xs e k d within)

-- a number within bounds fits 32 bits if the bounds do
pub within_word : (z : ℤ) (least most : ℕ) → is_integer_within least most z ≡ true → most ≤ 4294967295 → is_integer_within 0 4294967295 z ≡ true
within_word (pos n) least most e small = grind (arith, nat_tests)
within_word (negsuc n) least most e small = cc

-- and is at most the upper bound
pub within_most : (z : ℤ) (least most : ℕ) → is_integer_within least most z ≡ true → natural z ≤ most
within_most (pos n) least most e = grind (arith, nat_tests)
within_most (negsuc n) least most e = cc

-- what the tests of numbers say
pub le_true : (a b : ℕ) → nat_le a b ≡ true → a ≤ b
le_true a b e = grind (arith, nat_tests)

pub lt_true : (a b : ℕ) → nat_lt a b ≡ true → a < b
lt_true a b e = grind (arith, nat_tests)

-- the limits
pub limits_hold : (parts : Parts) → limits_refusal parts ≡ None → (is_integer_within 2 32 parts.stages ≡ true) × (is_integer_within 2 64 parts.lane ≡ true)
    × (length parts.sidings ≤ 8)
unfolding limits_refusal
limits_hold parts e =
    (holds _ _ (first_passes _ _ e), holds _ _ (first_passes _ _ (next_passes _ _ e)), le_true _ _ (holds _ _ (next_passes _ _ (next_passes _ _ e))))

-- no stage outside
none_outside : (c : Class) (o : Option ℤ) → outside c o ≡ None → o ≡ None
none_outside c None e = refl
none_outside c (Some z) e = cc

-- a class passes the test if it is not Memory
not_memory : (c : Class) → not (same_class c Memory) ≡ true → c ≢ Memory
not_memory c t = λ e. let s : same_class c Memory ≡ true = rw e refl in cc

-- a unit
pub unit_holds : (n : ℕ) (before : List (Class × List ℤ)) (unit : Class × List ℤ) → unit_refusal n before unit ≡ None →
    IsUnit n unit × (is_unit before unit.0 ≡ false)
unfolding unit_refusal
unit_holds n before unit e =
    let f = next_passes _ _ e in
    let g = next_passes _ _ f in (
      record {
        beside_memory = not_memory unit.0 (holds _ _ (first_passes _ _ e));
        some = lt_true _ _ (holds _ _ (first_passes _ _ f));
        stages = none_found (is_integer_within 1 n) unit.1 (none_outside unit.0 _ (first_passes _ _ g));
      },
      not_true _ (holds _ _ (next_passes _ _ g)),
    )

-- all units
pub units_hold : (n : ℕ) (before units : List (Class × List ℤ)) → units_refusal n before units ≡ None → All (IsUnit n) units
units_hold n before [] e = All-nil (IsUnit n)
units_hold n before (unit ∷ units) e = All-cons (IsUnit n) unit units (unit_holds n before unit (first_passes _ _ e)).0
    (units_hold n (before ++ unit ∷ []) units (next_passes _ _ e))

-- what the sign test says
int_order : (y z : ℤ) → int_lt y z ≡ true → y <ℤ z
int_order y z e = grind (arith, ints)

-- the cells and the stages of a siding
stages_hold : (n : ℕ) (siding : asked.Siding) (first : Class) → stages_refusal n siding first ≡ None →
    (is_integer_within 1 8 siding.cells ≡ true) × (is_integer_within 1 n siding.launch ≡ true) × (is_integer_within 1 n siding.recover ≡ true) ×
    (siding.launch <ℤ siding.recover)
unfolding stages_refusal
stages_hold n siding first e =
    let f = next_passes _ _ e in
    let g = next_passes _ _ f in
    (holds _ _ (first_passes _ _ e), holds _ _ (first_passes _ _ f), holds _ _ (first_passes _ _ g), int_order _ _ (holds _ _ (next_passes _ _ g)))

-- Memory shares its siding with no other class
alone_holds : (named : Bool) (n : ℕ) → not (named && nat_lt 1 n) ≡ true → 0 < n → named ≡ true → n ≡ 1
alone_holds true n e some t = grind (arith, nat_tests)
alone_holds false n e some t = cc

-- the classes of a siding
classes_alone : (elsewhere : Class → Bool) (classes : List Class) → classes_refusal elsewhere classes ≡ None → 0 < length classes →
    lists_class classes Memory ≡ true → length classes ≡ 1
unfolding classes_refusal
classes_alone elsewhere classes e some t = alone_holds (lists_class classes Memory) (length classes) (holds _ _ (next_passes _ _ e)) some t

-- a siding with these classes
filled_holds : (n : ℕ) (elsewhere : Class → Bool) (index : ℕ) (siding : asked.Siding) (classes : List Class) →
    filled_refusal n elsewhere index siding classes ≡ None → classes ≡ siding.classes → IsSiding n siding
filled_holds n elsewhere index siding [] e same = cc
filled_holds n elsewhere index siding (first ∷ rest) e same =
    let s = stages_hold n siding first (first_passes _ _ e) in
    let some : 0 < length (first ∷ rest) = omega arith in
    record {
      some = rw (← same) some;
      cells = s.0;
      launch = s.1;
      recover = s.2;
      order = s.3;
      memory_alone = rw (← same) (classes_alone elsewhere (first ∷ rest) (next_passes _ _ e) some);
    }

-- a siding
siding_holds : (n : ℕ) (units : List (Class × List ℤ)) (before : List asked.Siding) (siding : asked.Siding) → siding_refusal n units before siding ≡ None →
    IsSiding n siding
unfolding siding_refusal
siding_holds n units before siding e = filled_holds n (λ c. is_unit units c || is_sided before c) (length before) siding siding.classes e refl

-- all sidings
pub sidings_hold : (n : ℕ) (units : List (Class × List ℤ)) (before sidings : List asked.Siding) → sidings_refusal n units before sidings ≡ None →
    All (IsSiding n) sidings
sidings_hold n units before [] e = All-nil (IsSiding n)
sidings_hold n units before (siding ∷ sidings) e = All-cons (IsSiding n) siding sidings (siding_holds n units before siding (first_passes _ _ e))
    (sidings_hold n units (before ++ siding ∷ []) sidings (next_passes _ _ e))

-- a siding in a pipeline that is not too long has small numbers
small_siding : (n : ℕ) (siding : asked.Siding) → n ≤ 32 → IsSiding n siding → IsSmallSiding siding
small_siding n siding few s = record {
  launch = within_word siding.launch 1 n s.launch (omega arith);
  recover = within_word siding.recover 1 n s.recover (omega arith);
  cells = within_word siding.cells 1 8 s.cells (omega arith);
}

-- so all sidings that are not refused have small numbers
pub small_sidings : (n : ℕ) (units : List (Class × List ℤ)) (sidings : List asked.Siding) → sidings_refusal n units [] sidings ≡ None → n ≤ 32 →
    All IsSmallSiding sidings
small_sidings n units sidings e few = λ k d within. small_siding n _ few (sidings_hold n units [] sidings e k d within)

-- if the result of a test is that it passes, there is no refusal
pub none_told : (o : Option LayoutErr) (answer : Result (Unit {0}) LayoutErr) (u : Unit {0}) → answer ≡ test_outcome o → answer ≡ Ok u → o ≡ None
none_told None answer u told_so passes = refl
none_told (Some e) answer u told_so passes = cc

-- so the sidings are small after such a result
pub told_small : (n : ℕ) (units : List (Class × List ℤ)) (sidings : List asked.Siding) (o : Option LayoutErr) → sidings_refusal n units [] sidings ≡ o →
    n ≤ 32 → OnOk (test_outcome o) (All IsSmallSiding sidings)
told_small n units sidings None e few = small_sidings n units sidings e few
told_small n units sidings (Some x) e few = tt

-- whether a list names a class, with one more class in it
pub seen_more : (seen : List Class) (x c : Class) → lists_class (seen ++ x ∷ []) c ≡ (lists_class seen c || same_class c x)
seen_more seen x c = rw (list_any-append (same_class c) seen (x ∷ [])) (ap (λ (b : Bool). lists_class seen c || b) (or-false (same_class c x)))

-- one more class, which is nowhere else
once_same : (rest : ℕ) (off seen : Bool) → (off || seen) ≡ false → rest + cond (off || (seen || true)) 1 0 ≤ 1 → 1 + rest + cond (off || seen) 1 0 ≤ 1
once_same rest true seen e le = cc
once_same rest false true e le = cc
once_same rest false false e le = omega arith

-- another class
once_other : (rest : ℕ) (off seen : Bool) → rest + cond (off || (seen || false)) 1 0 ≤ 1 → 0 + rest + cond (off || seen) 1 0 ≤ 1
once_other rest off true le = omega arith
once_other rest off false le = omega arith

-- a class that is not found earlier or elsewhere occurs at most once
once_step : (off seen same : Bool) (rest : ℕ) → (same ≡ true → (off || seen) ≡ false) → rest + cond (off || (seen || same)) 1 0 ≤ 1 →
    cond same 1 0 + rest + cond (off || seen) 1 0 ≤ 1
once_step off seen true rest free le = once_same rest off seen (free refl) le
once_step off seen false rest free le = once_other rest off seen le

-- the search does not stop at the next class
first_alone : (b : Bool) (x : Class) (rest : Option Class) → cond b (Some x) rest ≡ None → b ≡ false
first_alone true x rest e = cc
first_alone false x rest e = refl

-- and it does not stop at those after it
rest_alone : (b : Bool) (x : Class) (rest : Option Class) → cond b (Some x) rest ≡ None → rest ≡ None
rest_alone true x rest e = cc
rest_alone false x rest e = e

-- 0 plus at most one is at most one
one_at_most : (b : Bool) → 0 + cond b 1 0 ≤ 1
one_at_most true = omega arith
one_at_most false = omega arith

-- classes that are not repeated, here or elsewhere, occur at most once, counting elsewhere
repeated_once : (elsewhere : Class → Bool) (seen classes : List Class) → first_repeated elsewhere seen classes ≡ None → (c : Class) →
    times classes c + cond (elsewhere c || lists_class seen c) 1 0 ≤ 1
repeated_once elsewhere seen [] e c = rw (times_nil c) (one_at_most (elsewhere c || lists_class seen c))
repeated_once elsewhere seen (x ∷ xs) e c =
    let r = repeated_once elsewhere (seen ++ x ∷ []) xs (rest_alone _ _ _ e) c in
    let l = rw (seen_more seen x c) at r in
    rw (times_cons x xs c) (once_step (elsewhere c) (lists_class seen c) (same_class c x) (times xs c)
    (λ same. subst (λ (k : Class). (elsewhere k || lists_class seen k) ≡ false) (sym (same_true c x same)) (first_alone _ _ _ e)) l)

-- no class is listed twice
none_twice : (o : Option Class) → twice o ≡ None → o ≡ None
none_twice None e = refl
none_twice (Some c) e = cc

-- three tests, grouped differently
or_regroup : (a b c : Bool) → (a || (b || c)) ≡ ((a || b) || c)
or_regroup true b c = refl
or_regroup false b c = refl

-- a siding that has the class, or does not have it
sided_by : (t r : ℕ) (some : Bool) → nat_lt 0 t ≡ some → t + 0 ≤ 1 → r + cond (false || some) 1 0 ≤ 1 → t + r + 0 ≤ 1
sided_by t r true e one rest = omega arith
sided_by t r false e one rest = let none : t ≡ 0 = grind (arith, nat_tests) in omega arith

-- a class in the first list or not
both_by : (u t : ℕ) (some : Bool) → nat_lt 0 u ≡ some → u + 0 ≤ 1 → t + cond some 1 0 ≤ 1 → u + t ≤ 1
both_by u t true e one rest = omega arith
both_by u t false e one rest = let none : u ≡ 0 = grind (arith, nat_tests) in omega arith

-- a class is once in either of two lists
both_once : (u t : ℕ) → u + 0 ≤ 1 → t + cond (nat_lt 0 u) 1 0 ≤ 1 → u + t ≤ 1
both_once u t one rest = both_by u t (nat_lt 0 u) refl one rest

-- a class among units, with one more unit
pub unit_more : (before : List (Class × List ℤ)) (unit : Class × List ℤ) (c : Class) → is_unit (before ++ unit ∷ []) c
    ≡ (is_unit before c || same_class c unit.0)
unit_more before unit c = rw (list_any-append (λ (u : Class × List ℤ). same_class c u.0) before (unit ∷ []))
    (ap (λ (b : Bool). is_unit before c || b) (or-false (same_class c unit.0)))

-- a class among units and sidings, with one more siding
pub sided_more : (units : List (Class × List ℤ)) (before : List asked.Siding) (siding : asked.Siding) (c : Class) →
    (is_unit units c || is_sided (before ++ siding ∷ []) c) ≡ ((is_unit units c || is_sided before c) || nat_lt 0 (times siding.classes c))
sided_more units before siding c =
    rw (
      list_any-append (λ (s : asked.Siding). lists_class s.classes c) before (siding ∷ []),
      or-false (lists_class siding.classes c),
      names_times siding.classes c,
    )
    (or_regroup (is_unit units c) (is_sided before c) (nat_lt 0 (times siding.classes c)))

-- the classes of a siding
classes_once : (elsewhere : Class → Bool) (classes : List Class) → classes_refusal elsewhere classes ≡ None → (c : Class) →
    times classes c + cond (elsewhere c) 1 0 ≤ 1
unfolding classes_refusal
classes_once elsewhere classes e c = let r = repeated_once elsewhere [] classes (none_twice _ (first_passes _ _ e)) c in rw (or-false (elsewhere c)) at r

-- the same of a siding with these classes
filled_once : (n : ℕ) (elsewhere : Class → Bool) (index : ℕ) (siding : asked.Siding) (classes : List Class) →
    filled_refusal n elsewhere index siding classes ≡ None → (c : Class) → times classes c + cond (elsewhere c) 1 0 ≤ 1
filled_once n elsewhere index siding [] e c = cc
filled_once n elsewhere index siding (first ∷ rest) e c = classes_once elsewhere (first ∷ rest) (next_passes _ _ e) c

-- the classes of units, none of which is repeated, occur at most once, counting those before
units_once : (n : ℕ) (before units : List (Class × List ℤ)) → units_refusal n before units ≡ None → (c : Class) →
    times (map (λ unit. unit.0) units) c + cond (is_unit before c) 1 0 ≤ 1
units_once n before [] e c = rw (times_nil c) (one_at_most (is_unit before c))
units_once n before (unit ∷ units) e c =
    let r = units_once n (before ++ unit ∷ []) units (next_passes _ _ e) c in
    let l = rw (unit_more before unit c) at r in
    let alone = (unit_holds n before unit (first_passes _ _ e)).1 in
    rw (times_cons unit.0 (map (λ u. u.0) units) c) (once_step false (is_unit before c) (same_class c unit.0) (times (map (λ u. u.0) units) c)
    (λ same. subst (λ (k : Class). is_unit before k ≡ false) (sym (same_true c unit.0 same)) alone) l)

-- classes of a siding, none of which is repeated
siding_once : (n : ℕ) (units : List (Class × List ℤ)) (before : List asked.Siding) (siding : asked.Siding) → siding_refusal n units before siding ≡ None →
    (c : Class) → times siding.classes c + cond (is_unit units c || is_sided before c) 1 0 ≤ 1
unfolding siding_refusal
siding_once n units before siding e c = filled_once n (λ k. is_unit units k || is_sided before k) (length before) siding siding.classes e c

-- of one more siding and those after it
sided_step : (t r : ℕ) (w : Bool) → t + cond w 1 0 ≤ 1 → r + cond (w || nat_lt 0 t) 1 0 ≤ 1 → t + r + cond w 1 0 ≤ 1
sided_step t r true one rest = omega arith
sided_step t r false one rest = sided_by t r (nat_lt 0 t) refl one rest

-- the classes of sidings, none of which is repeated, occur at most once, counting units and the sidings before
sidings_once : (n : ℕ) (units : List (Class × List ℤ)) (before sidings : List asked.Siding) → sidings_refusal n units before sidings ≡ None → (c : Class) →
    times (sided_classes sidings) c + cond (is_unit units c || is_sided before c) 1 0 ≤ 1
sidings_once n units before [] e c = rw (times_nil c) (one_at_most (is_unit units c || is_sided before c))
sidings_once n units before (siding ∷ sidings) e c =
    let one = siding_once n units before siding (first_passes _ _ e) c in
    let r = sidings_once n units (before ++ siding ∷ []) sidings (next_passes _ _ e) c in
    let l = rw (sided_more units before siding c) at r in
    rw (times_append siding.classes (sided_classes sidings) c) (sided_step (times siding.classes c) (times (sided_classes sidings) c) (is_unit units c
    || is_sided before c) one l)

-- of units and sidings together
pub all_once : (n : ℕ) (units : List (Class × List ℤ)) (sidings : List asked.Siding) → units_refusal n [] units ≡ None →
    sidings_refusal n units [] sidings ≡ None → (c : Class) → times (map (λ unit. unit.0) units ++ sided_classes sidings) c ≤ 1
all_once n units sidings e f c =
    let u = units_once n [] units e c in
    let s = sidings_once n units [] sidings f c in
    let t = rw (or-false (is_unit units c), is_unit_times units c) at s in
    rw (times_append (map (λ v. v.0) units) (sided_classes sidings) c) (both_once _ _ u t)
