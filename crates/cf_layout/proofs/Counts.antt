-- How often a class is in a list.
use Rattle.std.proofs.Common.{◌≡◌, ℕ, ℤ, ◌+◌, List, [], ◌∷◌, ◌++◌, Bool, true, false, cond, get_or, length, map, length-append, sym, refl, ap, arith, ◌∙◌}
use Rattle.std.specs.Prelude.{filter, nat_lt, ◌||◌}
use Rattle.std.specs.List.{list_any}
use Rattle.std.proofs.lemmas.List.Elements.{filter-append}
use Rattle.std.proofs.lemmas.Bool.Decides.{nat_tests}
use Rattle.rv_inst.specs.declared.classes.Class.{Class}
use Rattle.rv_inst.specs.declared.classes.Class.TheVariants.{Add, Logic, Shift, Compare, Branch, Jump, Memory, Serial, Free, Mul, Div}
use Rattle.cf_layout.specs.declared.parts.Siding.{Siding}
use Rattle.cf_layout.specs.declared.parts.Parts.{Parts}
use Rattle.cf_layout.specs.Layout.{place_of, same_class}
use Rattle.cf_layout.specs.Asked.{lists_class, is_unit, is_sided, is_asked}
use Rattle.cf_layout.specs.Acceptable.{times, sided_classes, asked_classes}

-- the class at an index
class_at : ℕ → Class
class_at place = get_or (Add ∷ Logic ∷ Shift ∷ Compare ∷ Branch ∷ Jump ∷ Memory ∷ Mul ∷ Div ∷ Serial ∷ []) place Free

-- the class at the index of a class is that class
class_back : (c : Class) → class_at (place_of c) ≡ c
unfolding class_at
class_back Add = refl
class_back Logic = refl
class_back Shift = refl
class_back Compare = refl
class_back Branch = refl
class_back Jump = refl
class_back Memory = refl
class_back Serial = refl
class_back Free = refl
class_back Mul = refl
class_back Div = refl

-- two classes with the same index are the same class
pub same_place : (c d : Class) → place_of c ≡ place_of d → c ≡ d
same_place c d e = sym (class_back c) ∙ ap class_at e ∙ class_back d

-- two classes that the test says are the same are the same
pub same_true : (c d : Class) → same_class c d ≡ true → c ≡ d
same_true c d e = same_place c d (grind (arith, nat_tests))

-- the test says of a class that it is itself
pub same_self : (c : Class) → same_class c c ≡ true
same_self c = grind (arith, nat_tests)

-- one more element, if it is kept
any_here : {X : Type 0} (passes : Bool) (x : X) (kept : List X) (rest : Bool) → rest ≡ nat_lt 0 (length kept) →
    (passes || rest) ≡ nat_lt 0 (length (cond passes (x ∷ kept) kept))
any_here true x kept rest e = grind (arith, nat_tests)
any_here false x kept rest e = e

-- with one more element there are some if it passes or if there were some already
more_than_none : (b : Bool) (n : ℕ) → (b || nat_lt 0 n) ≡ nat_lt 0 (cond b 1 0 + n)
more_than_none true n = grind (arith, nat_tests)
more_than_none false n = grind (arith, nat_tests)

-- a sum is above 0 if either number is
either : (m n : ℕ) → (nat_lt 0 m || nat_lt 0 n) ≡ nat_lt 0 (m + n)
either m n = grind (arith, nat_tests)

-- an element passes if some are kept
pub any_kept : {X : Type 0} (test : X → Bool) (xs : List X) → list_any test xs ≡ nat_lt 0 (length (filter test xs))
any_kept test [] = refl
any_kept test (x ∷ xs) = any_here (test x) x (filter test xs) (list_any test xs) (any_kept test xs)

-- a list names a class if the class is in it
pub names_times : (classes : List Class) (c : Class) → lists_class classes c ≡ nat_lt 0 (times classes c)
unfolding times
names_times classes c = any_kept (same_class c) classes

-- two lists joined have a class as often as both together
pub times_append : (xs ys : List Class) (c : Class) → times (xs ++ ys) c ≡ times xs c + times ys c
unfolding times
times_append xs ys c = rw (filter-append, length-append) refl

-- how many are kept with one more element
pub kept_cons : {X : Type 0} (passes : Bool) (x : X) (kept : List X) → length (cond passes (x ∷ kept) kept) ≡ cond passes 1 0 + length kept
kept_cons true x kept = omega arith
kept_cons false x kept = omega arith

-- one more class
pub times_cons : (x : Class) (xs : List Class) (c : Class) → times (x ∷ xs) c ≡ cond (same_class c x) 1 0 + times xs c
unfolding times
times_cons x xs c = kept_cons (same_class c x) x (filter (same_class c) xs)

-- no class is in an empty list
pub times_nil : (c : Class) → times [] c ≡ 0
unfolding times
times_nil c = refl

-- a class is in a unit if it is among the classes of the units
pub is_unit_times : (units : List (Class × List ℤ)) (c : Class) → is_unit units c ≡ nat_lt 0 (times (map (λ unit. unit.0) units) c)
is_unit_times [] c = rw (times_nil c) refl
is_unit_times (unit ∷ units) c = rw (times_cons, is_unit_times units c) (more_than_none (same_class c unit.0) (times (map (λ u. u.0) units) c))

-- a class is in a siding if it is among the classes of the sidings
pub is_sided_times : (sidings : List Siding) (c : Class) → is_sided sidings c ≡ nat_lt 0 (times (sided_classes sidings) c)
is_sided_times [] c = rw (times_nil c) refl
is_sided_times (siding ∷ sidings) c = rw (times_append siding.classes (sided_classes sidings) c, is_sided_times sidings c, names_times siding.classes c)
    (either (times siding.classes c) (times (sided_classes sidings) c))

-- a class is requested if it is among all classes
pub is_asked_times : (parts : Parts) (c : Class) → is_asked parts c ≡ nat_lt 0 (times (asked_classes parts) c)
unfolding is_asked
is_asked_times parts c =
    rw (times_append (map (λ u. u.0) parts.units) (sided_classes parts.sidings) c, is_unit_times parts.units c, is_sided_times parts.sidings c)
    (either (times (map (λ u. u.0) parts.units) c) (times (sided_classes parts.sidings) c))
