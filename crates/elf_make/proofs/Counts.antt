-- How many labels are local, and how long their names are.
use Rattle.std.proofs.Common.{◌≡◌, ℕ, ◌+◌, ◌≤◌, Bool, true, false, List, [], ◌∷◌, length, refl, ap, ◌∙◌, sym, cond, arith, length-append}
use Rattle.std.specs.Prelude.{map, not}
use Rattle.std.specs.List.{count_by}
use Rattle.std.proofs.lemmas.List.Recursion.{is_count_by}
use Rattle.std.proofs.lemmas.List.{length-map}
use Rattle.rv_asm.specs.declared.label.Label.{Label}
use Rattle.rv_asm.specs.Labels.{LabelView, label_view}
use Rattle.rv_asm.specs.Small.{joined_names}
use Rattle.elf_make.specs.declared.binding.SymbolBinding.{SymbolBinding}
use Rattle.elf_make.specs.declared.binding.SymbolBinding.TheVariants.{Local, Global}
use Rattle.elf_make.specs.Symbols.{is_bound, bound, terminated, terminated_names, locals_first, symbol_names}
use Rattle.elf_make.proofs.Entries.{names-append, length-names}

length-by : {X : Type 0} (b : Bool) (x : X) (xs : List X) → length (cond b (x ∷ xs) xs) ≡ cond b (1 + length xs) (length xs)
length-by true x xs = omega arith
length-by false x xs = refl

either : (b : Bool) (n m : ℕ) → n ≤ m → cond b (1 + n) n ≤ 1 + m
either true n m h = omega arith
either false n m h = omega arith

-- labels that pass a test are counted
pub counted-locals : (labels : List Label) → count_by (λ label. not label.global) labels ≡ length (bound Local (map label_view labels))
counted-locals labels =
    sym (is_count_by (λ (ls : List Label). length (bound Local (map label_view ls))) (λ (label : Label). not label.global) refl
    (λ x xs. length-by (not x.global) (label_view x) (bound Local (map label_view xs))) labels)

pub length-bound : (g : SymbolBinding) (xs : List LabelView) → length (bound g xs) ≤ length xs
length-bound g [] = omega arith
length-bound g (x ∷ xs) =
    let step = length-by (is_bound g x) x (bound g xs) in
    let rest = length-bound g xs in
    omega (arith, step, either (is_bound g x) (length (bound g xs)) (length xs) rest)

-- each name is one byte longer with its NUL
pub length-closed : (xs : List LabelView) → length (terminated_names xs) ≡ length (joined_names xs) + length xs
length-closed [] = refl
length-closed (x ∷ xs) =
    omega (arith, length-names x xs, length-append x.name (0 ∷ []), length-append x.name (joined_names xs), length-closed xs)

split : (g : Bool) (x : LabelView) (ps qs : List LabelView)
    → length (terminated_names (cond (not g) (x ∷ ps) ps)) + length (terminated_names (cond g (x ∷ qs) qs))
    ≡ length (terminated x.name) + (length (terminated_names ps) + length (terminated_names qs))
split true x ps qs = omega (arith, length-names x qs)
split false x ps qs = omega (arith, length-names x ps)

-- the names of all labels are those of the local ones and of the others
pub length-halves : (xs : List LabelView) → length (terminated_names (bound Local xs)) + length (terminated_names (bound Global xs))
    ≡ length (terminated_names xs)
length-halves [] = refl
length-halves (x ∷ xs) =
    let rest = length-halves xs in
    let first = split x.global x (bound Local xs) (bound Global xs) in
    omega (arith, rest, first, length-names x xs)

pub length-in_order : (xs : List LabelView) → length (terminated_names (locals_first xs)) ≡ length (terminated_names xs)
unfolding locals_first
length-in_order xs =
    ap (λ (n : List ℕ). length n) (names-append (bound Local xs) (bound Global xs))
    ∙ length-append (terminated_names (bound Local xs)) (terminated_names (bound Global xs)) ∙ length-halves xs

pub ruleset counts = (counted-locals, length-bound)

bound-by : (g : Bool) (x : LabelView) (ps qs : List LabelView)
    → length (cond (not g) (x ∷ ps) ps) + length (cond g (x ∷ qs) qs) ≡ 1 + (length ps + length qs)
bound-by true x ps qs = omega arith
bound-by false x ps qs = omega arith

bound-all : (xs : List LabelView) → length (bound Local xs) + length (bound Global xs) ≡ length xs
bound-all [] = refl
bound-all (x ∷ xs) = omega (arith, bound-all xs, bound-by x.global x (bound Local xs) (bound Global xs))

-- reordering keeps all labels
pub length-order : (xs : List LabelView) → length (locals_first xs) ≡ length xs
unfolding locals_first
length-order xs = length-append (bound Local xs) (bound Global xs) ∙ bound-all xs

pub length-symbol_names : (xs : List LabelView) → length (symbol_names xs) ≡ 1 + length (terminated_names xs)
unfolding symbol_names
length-symbol_names xs = omega (arith, length-in_order xs)

pub length-named : (ls : List Label) (xs : List LabelView) → map label_view ls ≡ xs → length xs ≡ length ls
length-named ls xs e = ap (λ (l : List LabelView). length l) (sym e) ∙ length-map ls label_view

pub ruleset sums = (length-symbol_names, length-closed)

pub ruleset sizes = (length-named, length-bound, length-closed)
