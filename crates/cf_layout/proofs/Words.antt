-- Sets as bits of a word.
use Rattle.std.proofs.Common.{◌++◌, append_assoc, append-nil, get_or, drop, drop-cons, add-one, ◌≡◌, ◌≢◌, ◌≤◌, ◌⊎◌, inl, inr, ap, ℕ, ℤ, pos, suc, zero, ◌+◌, ◌-◌, ◌*◌, ◌/◌, ◌%◌, ◌^◌, ◌<◌, List, [], ◌∷◌, length, take, Bool, true, false, cond, refl, arith, ◌∙◌, sym}
use Rattle.std.specs.Prelude.{filter, find, Some, nat_eq, nat_lt, nat_le, ◌||◌, ◌&&◌}
use Rattle.std.specs.Int.RustNames.{bit_or}
use Rattle.std.specs.List.{range_with_len, list_any}
use Rattle.std.proofs.lemmas.Bool.Decides.{nat_tests}
use Rattle.std.proofs.lemmas.Nat.{one_shl, or_lt}
use Rattle.std.proofs.Math.Pow.{pow-lt}
use Rattle.std.proofs.Math.Nat.{div-eq_of_lt, pow-le-pow_right}
use Rattle.std.proofs.Math.Bool.{and-true, and-false}
use Rattle.std.proofs.lemmas.List.{take_all, drop_all}
use Rattle.rv_inst.specs.declared.classes.Class.TheVariants.{Add, Logic, Shift, Compare, Branch, Jump, Memory, Serial, Free, Mul, Div}
use Rattle.std.specs.List.{AllByRecursion}
use Rattle.std.proofs.lemmas.Map.Views.{any-filter_same}
use Rattle.cf_layout.specs.Asked.{is_integer, ascending, lists_class, in_class_order}
use Rattle.std.proofs.lemmas.Nat.Bits.{bit_at_set_same, bit_at_set_other, bit_at-zero}
use mir.Syntax.{w32}
use Rattle.rv_inst.specs.declared.classes.Class.{Class}
use Rattle.cf_layout.specs.Layout.{place_of, same_class, computed_classes}
use Rattle.cf_layout.specs.Asked.{stage_numbers}
use Rattle.cf_layout.specs.Kept.{stages_kept}
use Rattle.cf_layout.specs.Words.{has_bit, members, word_of_list, bit_of, stages_of_word, classes_of_word}

-- one more bit in a word, by whether it is the bit asked for
set_bit_case : (w k i : ℕ) (same : Bool) → nat_eq i k ≡ same → k < 32 → has_bit (bit_or w (1 * 2 ^ k % 2 ^ 32)) i ≡ (same || has_bit w i)
unfolding has_bit
set_bit_case w k i true e small = let at : i ≡ k = grind (arith, nat_tests) in rw at (let s = bit_at_set_same w32 w k small in rw s refl)
set_bit_case w k i false e small = let off : i ≢ k = grind (arith, nat_tests) in let s = bit_at_set_other w32 w k small i off in rw s refl

-- one more bit in a word
pub set_bit : (w k i : ℕ) → k < 32 → has_bit (bit_or w (1 * 2 ^ k % 2 ^ 32)) i ≡ (nat_eq i k || has_bit w i)
set_bit w k i small = set_bit_case w k i (nat_eq i k) refl small

-- one more bit below a power of two leaves a word below that power
pub set_small : (w k n : ℕ) → k < 32 → k < n → w < 2 ^ n → bit_or w (1 * 2 ^ k % 2 ^ 32) < 2 ^ n
set_small w k n small below less = let e : 1 * 2 ^ k % 2 ^ 32 ≡ 2 ^ k = one_shl k 32 small in rw e (or_lt n w (2 ^ k) less (pow-lt below))

-- the list of members, given a test that agrees with the bits
pub members_by : {X : Type 0} (bit : X → ℕ) (test : X → Bool) (w : ℕ) (xs : List X) → AllByRecursion (λ x. has_bit w (bit x) ≡ test x) xs →
    members bit xs w ≡ filter test xs
unfolding members
members_by bit test w [] same = refl
members_by {X = X} bit test w (x ∷ xs) same = let r = members_by bit test w xs same.1 in rw (same.0) (ap (λ (l : List X). cond (test x) (x ∷ l) l) r)

-- the number is in a range of numbers
any_range : (a n s : ℕ) → list_any (nat_eq s) (range_with_len a n) ≡ (nat_le a s && nat_lt s (a + n))
any_range a zero s = grind (arith, nat_tests)
any_range a (suc n) s = let r = any_range (a + 1) n s in rw r (grind (arith, nat_tests))

-- a stage of a word is a bit of it
any_stage : (w s : ℕ) → list_any (nat_eq s) (stages_of_word w) ≡ (has_bit w (s - 1) && (nat_le 1 s && nat_lt s 33))
unfolding members stage_numbers
any_stage w s = any-filter_same (nat_eq s) (λ i. has_bit w (i - 1)) (has_bit w (s - 1)) (λ k e. let at : s ≡ k = grind (arith, nat_tests) in
    rw at refl) (range_with_len 1 32) ∙ ap (λ (b : Bool). has_bit w (s - 1) && b) (any_range 1 32 s)

-- a stage from 1 to 32
pub stage_in : (w s : ℕ) → 1 ≤ s → s ≤ 32 → list_any (nat_eq s) (stages_of_word w) ≡ has_bit w (s - 1)
stage_in w s low high = let e = any_stage w s in grind (arith, nat_tests)

-- a number below
pub stage_below : (w s : ℕ) → s < 1 → list_any (nat_eq s) (stages_of_word w) ≡ false
stage_below w s low = let e = any_stage w s in grind (arith, nat_tests)

-- a number above
pub stage_above : (w s : ℕ) → 32 < s → list_any (nat_eq s) (stages_of_word w) ≡ false
stage_above w s high = let e = any_stage w s in grind (arith, nat_tests)

-- the stages of a word from a given stage on
pub stages_from : ℕ → ℕ → List ℕ
stages_from w s = members bit_of (range_with_len s (33 - s)) w

-- the next of them
pub from_next : (w s : ℕ) → 1 ≤ s → s < 33 → stages_from w s ≡ cond (has_bit w (s - 1)) (s ∷ stages_from w (s + 1)) (stages_from w (s + 1))
unfolding stages_from members
from_next w s low high = let e : 33 - s ≡ suc (33 - (s + 1)) = omega arith in rw e refl

-- the first element found in a list that may begin with one more number
found : (has : Bool) (test : ℕ → Bool) (s : ℕ) (ss : List ℕ) → find test (cond has (s ∷ ss) ss) ≡ cond (test s && has) (Some s) (find test ss)
found true test s ss = rw (and-true (test s)) refl
found false test s ss = rw (and-false (test s)) refl

-- the first of them above another number
pub find_next : (w other s : ℕ) → 1 ≤ s → s < 33 → find (nat_lt other) (stages_from w s) ≡ cond (nat_lt other s && has_bit w (s - 1)) (Some s)
    (find (nat_lt other) (stages_from w (s + 1)))
find_next w other s low high = let e = from_next w s low high in rw e (found (has_bit w (s - 1)) (nat_lt other) s (stages_from w (s + 1)))

-- the next one is skipped if it is not above the number or is not a stage of the word
pub find_on : (w other s : ℕ) → 1 ≤ s → s < 33 → (nat_lt other s && has_bit w (s - 1)) ≡ false →
    find (nat_lt other) (stages_from w (s + 1)) ≡ find (nat_lt other) (stages_from w s)
find_on w other s low high off = sym (rw off at (find_next w other s low high))

-- all of them are the stages of the word
pub from_first : (w : ℕ) → stages_from w 1 ≡ stages_of_word w
unfolding stages_from stage_numbers
from_first w = refl

-- there are no stages after the last
pub from_end : (w : ℕ) → stages_from w 33 ≡ []
unfolding stages_from members
from_end w = refl

-- the bit of a stage
pub stage_bit : (w v n : ℕ) (stage : ℤ) → ((k : ℕ) → has_bit v k ≡ (nat_eq k (n - 1) || has_bit w k)) → stage ≡ pos n → 1 ≤ n → (k : ℕ) →
    has_bit v k ≡ (has_bit w k || is_integer (k + 1) stage)
stage_bit w v n stage new at low k = let h = new k in rw at (grind (arith, nat_tests, h))

-- the word 0 has no bit
pub no_bits : (i : ℕ) → has_bit 0 i ≡ false
unfolding has_bit
no_bits i = let e : 0 / 2 ^ i % 2 ≡ 0 = bit_at-zero i in rw e refl

-- if the tests of the bits from k on agree with other tests, they keep the same members
stages_agree : (w : ℕ) (test : ℕ → Bool) (n k : ℕ) → ((i : ℕ) → i < k + n → has_bit w i ≡ test (i + 1)) →
    members bit_of (range_with_len (k + 1) n) w ≡ filter test (range_with_len (k + 1) n)
unfolding members
stages_agree w test zero k same = refl
stages_agree w test (suc n) k same =
    let r = stages_agree w test n (k + 1) (λ i below. same i (omega arith)) in
    let e : k + 1 - 1 ≡ k = omega arith in
    let h = same k (omega arith) in
    rw (e, h) (ap (λ (l : List ℕ). cond (test (k + 1)) ((k + 1) ∷ l) l) r)

-- the stages of a word, given a test that agrees with the bits
pub stages_by : (w n : ℕ) (stages : List ℤ) → length stages ≤ n → ((i : ℕ) → i < 32 → has_bit w i ≡ list_any (is_integer (i + 1)) (take n stages)) →
    stages_of_word w ≡ ascending stages
unfolding ascending stage_numbers
stages_by w n stages all same = stages_agree w (λ i. list_any (is_integer i) stages) 32 0 (λ i below. rw (take_all n stages all) at (same i below))

-- a word with the bit of one more class has the bits of the same classes and of that class
pub class_bit : (w v : ℕ) (class c : Class) → ((k : ℕ) → has_bit v k ≡ (nat_eq k (place_of class) || has_bit w k)) →
    has_bit v (place_of c) ≡ (has_bit w (place_of c) || same_class c class)
class_bit w v class c new = let h = new (place_of c) in grind (arith, nat_tests, h)

-- a class that has no bit is not one of those that have one
pub no_class_bit : (class c : Class) → 9 ≤ place_of class → place_of c < 9 → same_class c class ≡ false
no_class_bit class c high low = grind (arith, nat_tests)

-- the classes of a word, given a test that agrees with the bits
classes_agree : (w : ℕ) (classes : List Class) → ((c : Class) → place_of c < 9 → has_bit w (place_of c) ≡ lists_class classes c) →
    classes_of_word w ≡ in_class_order classes
unfolding in_class_order
classes_agree w classes same = members_by place_of (lists_class classes) w computed_classes (
  same Add (omega arith),
  (
    same Logic (omega arith),
    (
      same Shift (omega arith),
      (
        same Compare (omega arith),
        (same Branch (omega arith), (same Jump (omega arith), (same Memory (omega arith), (same Mul (omega arith), (same Div (omega arith), tt))))),
      ),
    ),
  ),
)

-- the same once all classes of the list were visited
pub classes_by : (w n : ℕ) (classes : List Class) → length classes ≤ n →
    ((c : Class) → place_of c < 9 → has_bit w (place_of c) ≡ lists_class (take n classes) c) →
    classes_of_word w ≡ in_class_order classes
classes_by w n classes all same = classes_agree w classes (rw (take_all n classes all) at same)

-- a small word has no high bit
high_bit : (w i : ℕ) → w < 2 ^ 9 → 9 ≤ i → has_bit w i ≡ false
unfolding has_bit
high_bit w i small high = let p : 2 ^ 9 ≤ 2 ^ i = pow-le-pow_right (omega arith) high in let e : w / 2 ^ i ≡ 0 = div-eq_of_lt (omega arith) in rw e refl

-- a class of a word is a bit of it
any_class : (w : ℕ) (c : Class) → lists_class (classes_of_word w) c ≡ (has_bit w (place_of c) && lists_class computed_classes c)
unfolding members
any_class w c = any-filter_same (same_class c) (λ k. has_bit w (place_of k)) (has_bit w (place_of c)) (λ k e. let at : place_of c ≡ place_of k =
    grind (arith, nat_tests) in rw at refl) computed_classes

-- the class is one of those that have a bit, or has a high index
computed_or : (c : Class) → (lists_class computed_classes c ≡ true) ⊎ ((lists_class computed_classes c ≡ false) × (9 ≤ place_of c))
computed_or Add = inl refl
computed_or Logic = inl refl
computed_or Shift = inl refl
computed_or Compare = inl refl
computed_or Branch = inl refl
computed_or Jump = inl refl
computed_or Memory = inl refl
computed_or Mul = inl refl
computed_or Div = inl refl
computed_or Serial = inr (refl, omega arith)
computed_or Free = inr (refl, omega arith)

-- a class of a word by its bit
pub class_in : (w : ℕ) (c : Class) → w < 2 ^ 9 → lists_class (classes_of_word w) c ≡ has_bit w (place_of c)
class_in w c small = let e = any_class w c in elim (computed_or c) [
  | inl in_order ↦ rw in_order at e ∙ and-true (has_bit w (place_of c))
  | inr after ↦ let h = high_bit w (place_of c) small after.1 in rw (after.0, h) at e ∙ sym h
]

-- the word 0 has no stage
pub no_stages : stages_of_word 0 ≡ []
unfolding members stage_numbers has_bit
no_stages = refl

-- a list of stages is empty if its word is 0
word_of_none : (stages : List ℕ) → length stages ≡ 0 → word_of_list bit_of stages ≡ 0
unfolding word_of_list
word_of_none [] none = refl
word_of_none (stage ∷ stages) none = absurd (omega arith)

-- the two tests agree
some_case : (w : ℕ) (a b : Bool) → nat_eq (length (stages_of_word w)) 0 ≡ a → nat_eq w 0 ≡ b → w < 2 ^ 32 → a ≡ b
some_case w true true p q small = refl
some_case w false false p q small = refl
some_case w true false p q small = let none : length (stages_of_word w) ≡ 0 = grind (arith, nat_tests) in let z = word_of_none (stages_of_word w) none in
    let k = stages_kept w small in absurd (grind (arith, nat_tests))
some_case w false true p q small = let z : w ≡ 0 = grind (arith, nat_tests) in let e : length (stages_of_word w) ≡ 0 = rw (z, no_stages) refl in
    absurd (grind (arith, nat_tests))

-- a word other than 0 has a stage
pub some_stage : (w : ℕ) → w < 2 ^ 32 → nat_eq (length (stages_of_word w)) 0 ≡ nat_eq w 0
some_stage w small = some_case w (nat_eq (length (stages_of_word w)) 0) (nat_eq w 0) refl refl small

-- and no class
pub no_classes : classes_of_word 0 ≡ []
unfolding members has_bit
no_classes = refl

-- the members of a list from an index on
pub members_next : {X : Type 0} (bit : X → ℕ) (w : ℕ) (xs : List X) (i : ℕ) (d : X) → i < length xs →
    members bit (drop i xs) w ≡ cond (has_bit w (bit (get_or xs i d))) (get_or xs i d ∷ members bit (drop (i + 1) xs) w) (members bit (drop (i + 1) xs) w)
unfolding members
members_next bit w xs i d within = rw (drop-cons xs i d, add-one) refl

-- a list that may begin with one more element
split : {X : Type 0} (has : Bool) (x : X) (xs : List X) → cond has (x ∷ xs) xs ≡ cond has (x ∷ []) [] ++ xs
split true x xs = refl
split false x xs = refl

-- a list of stages with the next one
pub stage_listed : (w s : ℕ) (list before all : List ℕ) → 1 ≤ s → s < 33 → list ≡ before ++ cond (has_bit w (s - 1)) (s ∷ []) [] →
    before ++ stages_from w s ≡ all → list ++ stages_from w (s + 1) ≡ all
stage_listed w s list before all low high e so_far = rw (e, append_assoc, ← so_far, from_next w s low high, split (has_bit w (s - 1)) s (stages_from w (s + 1)))
    refl

-- a list of all stages
pub stages_listed : (w s : ℕ) (list : List ℕ) → 33 ≤ s → s ≤ 33 → list ++ stages_from w s ≡ stages_from w 1 → list ≡ stages_of_word w
stages_listed w s list low high e = let at : s ≡ 33 = omega arith in let f = rw (at, from_end w, append-nil) at e in f ∙ from_first w

-- a list of classes with the next one
pub class_listed : (w i : ℕ) (d : Class) (xs list before all : List Class) → i < length xs →
    list ≡ before ++ cond (has_bit w (place_of (get_or xs i d))) (get_or xs i d ∷ []) [] → before ++ members place_of (drop i xs) w ≡ all →
    list ++ members place_of (drop (i + 1) xs) w ≡ all
class_listed w i d xs list before all within e so_far =
    rw (
      e,
      append_assoc,
      ← so_far,
      members_next place_of w xs i d within,
      split (has_bit w (place_of (get_or xs i d))) (get_or xs i d)
          (members place_of (drop (i + 1) xs) w),
    ) refl

-- a list of all classes
pub classes_listed : (w i : ℕ) (xs list : List Class) → length xs ≤ i → list ++ members place_of (drop i xs) w ≡ members place_of xs w →
    list ≡ members place_of xs w
unfolding members
classes_listed w i xs list after e = rw (drop_all i xs after, append-nil) at e
