-- Where a text is cut, and how long the name of a class is.
use Rattle.std.proofs.Common.{◌≡◌, ℕ, zero, suc, ◌<◌, ◌≤◌, List, Bool, true, false, cond, length, take, refl, subst, arith, ◌⊎◌, inl, inr}
use Rattle.std.specs.Prelude.{nat_le, nat_lt, slice_index}
use Rattle.std.specs.Str.{IsCharBoundary}
use Rattle.std.specs.Fmt.{is_char_start}
use Rattle.std.specs.Fmt.Cut.{floor_char_boundary}
use Rattle.std.proofs.lemmas.List.{take_all}
use Rattle.std.proofs.lemmas.Bool.{cases_Bool}
use Rattle.std.proofs.lemmas.Bool.Decides.{nat_tests}
use Rattle.rv_inst.specs.declared.classes.Class.{Class}
use Rattle.rv_inst.specs.declared.classes.Class.TheVariants.{Add, Logic, Shift, Compare, Branch, Jump, Memory, Serial, Free, Mul, Div}
use Rattle.layout_file.specs.Names.{class_name}
use Rattle.report_refusals.specs.Variants.{cut}

-- the first of two numbers is below the second, or it is not
order : (m n : ℕ) → (m < n) ⊎ (n ≤ m)
order m n = elim (cases_Bool (nat_lt m n)) [
  | inl less ↦ inl (grind (arith, nat_tests))
  | inr more ↦ inr (grind (arith, nat_tests))
]

-- the index is the last one up to i at which a character begins or the text ends
abbrev IsLast : List ℕ → ℕ → ℕ → Type 0
IsLast text i place = (place ≤ i) × IsCharBoundary text place × ((j : ℕ) → place < j → j ≤ i → ¬ (IsCharBoundary text j))

-- a byte that is the first of a character, and one that is not
starts : (b : ℕ) → is_char_start b ≡ true → 128 ≤ b → 192 ≤ b
starts b e high = grind (arith, nat_tests)

continues : (b : ℕ) → is_char_start b ≡ false → ¬ (128 ≤ b → 192 ≤ b)
continues b e h = let high : 128 ≤ b = grind (arith, nat_tests) in let top = h high in absurd (grind (arith, nat_tests))

-- the last index, depending on whether a character begins at the next byte
floor_by : (text : List ℕ) (i place : ℕ) (start : Bool) → is_char_start (slice_index text (suc i)) ≡ start → suc i < length text → IsLast text (suc i) place →
    (IsLast text i place → floor_char_boundary text i ≡ place) → cond start (suc i) (floor_char_boundary text i) ≡ place
floor_by text i place true e within last below =
    elim (order place (suc i)) [
      | inl less ↦ absurd (last.2 (suc i) less (omega arith) (omega arith, λ _. starts _ e))
      | inr more ↦ let high = last.0 in omega arith
    ]
floor_by text i place false e within last below =
    elim (order place (suc i)) [
      | inl less ↦ below (omega arith, last.1, λ j p q. last.2 j p (omega arith))
      | inr more ↦ let high = last.0 in let same : place ≡ suc i = omega arith in absurd (continues _ e ((subst (IsCharBoundary text) same last.1).1 within))
    ]

floor_is : (text : List ℕ) (i place : ℕ) → i < length text → IsLast text i place → floor_char_boundary text i ≡ place
unfolding floor_char_boundary
floor_is text zero place within last = let low = last.0 in omega arith
floor_is text (suc i) place within last = floor_by text i place (is_char_start (slice_index text (suc i))) refl within last
    (λ down. floor_is text i place (omega arith) down)

-- the text up to that index is the truncated text, depending on whether it is short
cut_by : (text : List ℕ) (place : ℕ) (short : Bool) → nat_le (length text) 40 ≡ short → IsLast text 40 place →
    take place text ≡ cond short text (take (floor_char_boundary text 40) text)
cut_by text place true e last =
    let few : length text ≤ 40 = grind (arith, nat_tests) in
    let within = last.1.0 in
    elim (order place (length text)) [
      | inl less ↦ absurd (last.2 (length text) less few (omega arith, λ beyond. absurd (omega arith)))
      | inr more ↦ take_all place text more
    ]
cut_by text place false e last = let long : 40 < length text = grind (arith, nat_tests) in rw (floor_is text 40 place long last) refl

pub cut_here : (text : List ℕ) (place : ℕ) → place ≤ 40 → IsCharBoundary text place → ((j : ℕ) → place < j → j ≤ 40 → ¬ (IsCharBoundary text j)) →
    take place text ≡ cut text
unfolding cut
cut_here text place low at none = cut_by text place (nat_le (length text) 40) refl (low, at, none)

-- the word of a class has at most eight letters
pub short_name : (c : Class) → length (class_name c) ≤ 8
short_name Add = omega arith
short_name Logic = omega arith
short_name Shift = omega arith
short_name Compare = omega arith
short_name Branch = omega arith
short_name Jump = omega arith
short_name Memory = omega arith
short_name Serial = omega arith
short_name Free = omega arith
short_name Mul = omega arith
short_name Div = omega arith
