-- Symbols that are found by their values.
use Rattle.std.proofs.Common.{◌≡◌, ℕ, ◌≤◌, zero, suc, Bool, true, false, List, [], ◌∷◌, ◌++◌, All, map, length, take, drop, filter, cond, refl, sym, ap, ◌∙◌, ltb, leb, arith}
use Rattle.std.specs.Prelude.{◌==◌, ◌&&◌, not}
use Rattle.std.specs.List.{AllWithin}
use Rattle.std.specs.List.Sorted.{IsPermutation, IsStableByKey, ties}
use Rattle.std.specs.Ordering.{is_lt, nat_cmp}
use Rattle.std.proofs.lemmas.Bool.Decides.{nat_tests}
use Rattle.std.proofs.lemmas.List.Sorted.{length_permutation}
use Rattle.elf_view.specs.Symbols.{NamedSymbol, has_name, shown_lazy}
use Rattle.elf_view.specs.declared.symbols.LazySymbol.{LazySymbol}
use Rattle.asm_listing.specs.Labels.{Ascend, HaveLines, has_value}
use Rattle.asm_listing.specs.Lines.{symbol_line, label_lines}

-- no symbols are in order
pub none_ascend : Ascend []
none_ascend = λ i j d le within. absurd (omega arith)

pub ruleset none = (none_ascend)

-- none of the earlier symbols, of lower values, has the value
pub passed : (value i : ℕ) (xs : List LazySymbol) → AllWithin (λ x. ltb x.value value ≡ true) xs 0 i
    → filter (has_value value) (drop i xs) ≡ filter (has_value value) xs
passed value zero xs h = refl
passed value (suc i) [] h = refl
passed value (suc i) (x ∷ xs) h =
    let below : ltb x.value value ≡ true = h 0 x (omega arith) (omega arith) in
    let apart : (x.value == value) ≡ false = grind (arith, nat_tests) in
    passed value i xs (λ k d le within. h (suc k) d (omega arith) (omega arith)) ∙ rw apart refl

-- and those after them have no lower values
pub from_value : (value i : ℕ) (xs : List LazySymbol) → AllWithin (λ x. ltb x.value value ≡ false) xs i (length xs)
    → All (λ x. value ≤ x.value) (drop i xs)
from_value value zero xs h = λ k d within.
    let test = h k d (omega arith) within in
    grind (arith, nat_tests)
from_value value (suc i) [] h = λ k d within. absurd (omega arith)
from_value value (suc i) (x ∷ xs) h = from_value value i xs (λ k d le within. h (suc k) d (omega arith) (omega arith))

-- no symbol of a larger value has the value
none_of : (value : ℕ) (xs : List LazySymbol) → AllWithin (λ x. leb x.value value ≡ false) xs 0 (length xs) → filter (has_value value) xs ≡ []
none_of value [] h = refl
none_of value (x ∷ xs) h =
    let above : leb x.value value ≡ false = h 0 x (omega arith) (omega arith) in
    let apart : (x.value == value) ≡ false = grind (arith, nat_tests) in
    rw apart (none_of value xs (λ k d le within. h (suc k) d (omega arith) (omega arith)))

-- of symbols that have no lower values, those up to the value are those with it
pub front_is : (value i : ℕ) (xs : List LazySymbol) → All (λ x. value ≤ x.value) xs
    → AllWithin (λ x. leb x.value value ≡ true) xs 0 i → AllWithin (λ x. leb x.value value ≡ false) xs i (length xs)
    → take i xs ≡ filter (has_value value) xs
front_is value zero xs least low high = sym (none_of value xs high)
front_is value (suc i) [] least low high = refl
front_is value (suc i) (x ∷ xs) least low high =
    let above : value ≤ x.value = least 0 x (omega arith) in
    let test : leb x.value value ≡ true = low 0 x (omega arith) (omega arith) in
    let same : (x.value == value) ≡ true = grind (arith, nat_tests) in
    let rest : take i xs ≡ filter (has_value value) xs =
    front_is value i xs (λ k d within. least (suc k) d (omega arith)) (λ k d le within. low (suc k) d (omega arith) (omega arith))
    (λ k d le within. high (suc k) d (omega arith) (omega arith)) in
    rw same (ap (λ (l : List LazySymbol). x ∷ l) rest)

-- a symbol with another value has no line
one_line : (pc : ℕ) (x : LazySymbol) (kept xs : List LazySymbol) (t : Bool) → has_value pc x ≡ t
    → label_lines (map shown_lazy kept) pc ≡ label_lines (map shown_lazy xs) pc
    → label_lines (map shown_lazy (cond t (x ∷ kept) kept)) pc ≡ symbol_line pc (shown_lazy x) ++ label_lines (map shown_lazy xs) pc
unfolding symbol_line
one_line pc x kept xs true e h = ap (λ (l : List ℕ). symbol_line pc (shown_lazy x) ++ l) h
one_line pc x kept xs false e h = rw e h

-- the symbols with a value have the lines at it
pub lines_of_value : (pc : ℕ) (xs : List LazySymbol)
    → label_lines (map shown_lazy (filter (has_value pc) xs)) pc ≡ label_lines (map shown_lazy xs) pc
lines_of_value pc [] = refl
lines_of_value pc (x ∷ xs) = one_line pc x (filter (has_value pc) xs) xs (has_value pc x) refl (lines_of_value pc xs)

pub ruleset values = (lines_of_value)

both_false : (a : Bool) → (a && false) ≡ false
both_false true = refl
both_false false = refl

-- a symbol without a name has no line
named_line : (pc : ℕ) (x : NamedSymbol) (kept xs : List NamedSymbol) (t : Bool) → has_name x ≡ t
    → label_lines kept pc ≡ label_lines xs pc
    → label_lines (cond t (x ∷ kept) kept) pc ≡ symbol_line pc x ++ label_lines xs pc
unfolding symbol_line
named_line pc x kept xs true e h = ap (λ (l : List ℕ). symbol_line pc x ++ l) h
named_line pc x kept xs false e h = rw (e, both_false (x.value == pc)) h

-- the symbols that have a name have the lines
pub lines_of_named : (pc : ℕ) (xs : List NamedSymbol) → label_lines (filter has_name xs) pc ≡ label_lines xs pc
lines_of_named pc [] = refl
lines_of_named pc (x ∷ xs) = named_line pc x (filter has_name xs) xs (has_name x) refl (lines_of_named pc xs)

-- numbers tie if they are equal
tie : (a b : ℕ) → (not (is_lt (nat_cmp a b)) && not (is_lt (nat_cmp b a))) ≡ (b == a)
tie a b = grind (arith, nat_tests)

same_filter : (p q : LazySymbol → Bool) → ((x : LazySymbol) → p x ≡ q x) → (xs : List LazySymbol) → filter p xs ≡ filter q xs
same_filter p q same [] = refl
same_filter p q same (x ∷ xs) = rw (same x, same_filter p q same xs) refl

-- the order of values by which the symbols are sorted
abbrev is_below : LazySymbol → LazySymbol → Bool
is_below x y = is_lt (nat_cmp x.value y.value)

-- the symbols with a value are in the same order as before
stays : (xs ys : List LazySymbol) → IsStableByKey (λ (x : LazySymbol). x.value) nat_cmp xs ys → (x : LazySymbol)
    → filter (has_value x.value) ys ≡ filter (has_value x.value) xs
stays xs ys stable x =
    let same = same_filter (ties is_below x) (has_value x.value) (λ y. tie x.value y.value) in
    sym (same ys) ∙ stable x ∙ same xs

empty_stays : (ys : List LazySymbol) → length ys ≡ 0 → (pc : ℕ) → label_lines (map shown_lazy ys) pc ≡ []
empty_stays [] h pc = refl
empty_stays (y ∷ ys) h pc = absurd (omega arith)

line_stays : (xs ys : List LazySymbol) → length ys ≡ length xs → IsStableByKey (λ (x : LazySymbol). x.value) nat_cmp xs ys
    → (pc : ℕ) → label_lines (map shown_lazy ys) pc ≡ label_lines (map shown_lazy xs) pc
line_stays [] ys long stable pc = empty_stays ys long pc
line_stays (x ∷ xs) ys long stable pc =
    let of_value : LazySymbol = record x { value = pc } in
    let same : filter (has_value pc) ys ≡ filter (has_value pc) (x ∷ xs) = stays (x ∷ xs) ys stable of_value in
    sym (lines_of_value pc ys) ∙ ap (λ (l : List LazySymbol). label_lines (map shown_lazy l) pc) same ∙ lines_of_value pc (x ∷ xs)

-- the same symbols in a stable order of their values have the same lines at each address
pub lines_stay : (xs ys : List LazySymbol) → IsPermutation xs ys → IsStableByKey (λ (x : LazySymbol). x.value) nat_cmp xs ys
    → HaveLines (map shown_lazy xs) (map shown_lazy ys)
lines_stay xs ys moved stable = record { at = line_stays xs ys (length_permutation xs ys moved) stable }

-- the symbols with a name have the same lines as all symbols, and so has each reordering of them
pub lines_ordered : (symbols named labels : List NamedSymbol) → named ≡ filter has_name symbols → HaveLines named labels → HaveLines symbols labels
lines_ordered symbols named labels e lines = record {
  at = λ pc. lines.at pc ∙ ap (λ (l : List NamedSymbol). label_lines l pc) e ∙ lines_of_named pc symbols;
}

pub ruleset ordered = (lines_ordered)
