-- The entries and the names of labels, one label after another.
use Rattle.std.proofs.Common.{◌≡◌, ℕ, ◌+◌, ◌^◌, ◌<◌, ◌≤◌, Bool, true, false, List, [], ◌∷◌, ◌++◌, length, refl, ap, ◌∙◌, sym, cond, arith, append_assoc, append-nil, length-append}
use Rattle.std.specs.Prelude.{nat_lt}
use Rattle.std.proofs.lemmas.Grind.{flat_map-append}
use Rattle.std.proofs.lemmas.List.Folds.{list_all-append}
use Rattle.std.proofs.lemmas.Bool.Decides.{nat_tests}
use Rattle.rv_asm.specs.Labels.{LabelView}
use Rattle.elf_make.specs.declared.binding.SymbolBinding.{SymbolBinding}
use Rattle.elf_make.specs.declared.binding.SymbolBinding.TheVariants.{Local, Global}
use Rattle.elf_make.specs.Symbols.{is_bound, bound, terminated, terminated_names, locals_first, entry, entries_from, are_addresses}

-- a label before it, or not
names-by : (b : Bool) (x : LabelView) (xs : List LabelView) → terminated_names (cond b (x ∷ xs) xs) ≡ terminated_names (cond b (x ∷ []) [])
    ++ terminated_names xs
names-by true x xs = ap (λ (n : List ℕ). n ++ terminated_names xs) (sym (append-nil (terminated x.name)))
names-by false x xs = refl

pub bound-names : (g : SymbolBinding) (x : LabelView) (xs : List LabelView) → terminated_names (bound g (x ∷ xs)) ≡ terminated_names (bound g (x ∷ []))
    ++ terminated_names (bound g xs)
bound-names g x xs = names-by (is_bound g x) x (bound g xs)

length-names-by : (b : Bool) (x : LabelView) → length (terminated_names (cond b (x ∷ []) [])) ≤ length (terminated x.name)
length-names-by true x = rw (append-nil (terminated x.name)) (omega arith)
length-names-by false x = omega arith

-- the names of one label, or of none
bound-name-shorter : (g : SymbolBinding) (x : LabelView) → length (terminated_names (bound g (x ∷ []))) ≤ length (terminated x.name)
bound-name-shorter g x = length-names-by (is_bound g x) x

pub length-names : (x : LabelView) (xs : List LabelView) → length (terminated_names (x ∷ xs)) ≡ length (terminated x.name) + length (terminated_names xs)
length-names x xs = length-append (terminated x.name) (terminated_names xs)

pub bound-shorter : (g : SymbolBinding) (xs : List LabelView) → length (terminated_names (bound g xs)) ≤ length (terminated_names xs)
bound-shorter g [] = omega arith
bound-shorter g (x ∷ xs) =
    rw (bound-names g x xs, length-append (terminated_names (bound g (x ∷ []))) (terminated_names (bound g xs)), length-names x xs)
    (omega (arith, bound-name-shorter g x, bound-shorter g xs))

pub entries-append : (at : ℕ) (xs ys : List LabelView) → entries_from at (xs ++ ys) ≡ entries_from at xs ++ entries_from (at + length (terminated_names xs)) ys
entries-append at [] ys = let end : at + 0 ≡ at = omega arith in rw end refl
entries-append at (x ∷ xs) ys =
    let after : (at + length (terminated x.name)) + length (terminated_names xs) ≡ at + length (terminated_names (x ∷ xs)) = omega (arith, length-names x xs) in
    let rest = entries-append (at + length (terminated x.name)) xs ys in
    ap (λ (e : List ℕ). entry at x ++ e) rest
    ∙ sym (append_assoc (entry at x) (entries_from (at + length (terminated x.name)) xs) (entries_from
    ((at + length (terminated x.name)) + length (terminated_names xs)) ys))
    ∙ ap (λ (end : ℕ). (entry at x ++ entries_from (at + length (terminated x.name)) xs) ++ entries_from end ys) after

pub names-append : (xs ys : List LabelView) → terminated_names (xs ++ ys) ≡ terminated_names xs ++ terminated_names ys
names-append xs ys = flat_map-append (λ (label : LabelView). terminated label.name) xs ys

-- the labels of two lists were appended after the first symbol
pub symbols-put : (old none first second new : List ℕ) (start : ℕ) (xs ys : List LabelView)
    → new ≡ second ++ entries_from start ys → second ≡ first ++ entries_from 1 xs → first ≡ old ++ none
    → start ≡ 1 + length (terminated_names xs) → new ≡ old ++ (none ++ entries_from 1 (xs ++ ys))
symbols-put old none first second new start xs ys e h k at =
    rw (e, h, k, at, entries-append 1 xs ys) (simp append_assoc)

-- a label whose value has 32 bits, or no label
one-address : (b : Bool) (x : LabelView) → x.value < 2 ^ 32 → are_addresses (cond b (x ∷ []) []) ≡ true
one-address true x h = let test : nat_lt x.value (2 ^ 32) ≡ true = grind (arith, nat_tests) in rw test refl
one-address false x h = refl

pub bound-address : (g : SymbolBinding) (x : LabelView) → x.value < 2 ^ 32 → are_addresses (bound g (x ∷ [])) ≡ true
bound-address g x h = one-address (is_bound g x) x h

no-address : (b : Bool) (x : LabelView) → b ≡ false → are_addresses (cond b (x ∷ []) []) ≡ true
no-address true x e = absurd (cc)
no-address false x e = refl

pub unbound-address : (g : SymbolBinding) (x : LabelView) → is_bound g x ≡ false → are_addresses (bound g (x ∷ [])) ≡ true
unbound-address g x e = no-address (is_bound g x) x e

pub both-addresses : (xs : List LabelView) → are_addresses (bound Local xs) ≡ true → are_addresses (bound Global xs) ≡ true →
    are_addresses (locals_first xs) ≡ true
unfolding locals_first
both-addresses xs h k = rw (list_all-append (λ (label : LabelView). nat_lt label.value (2 ^ 32)) (bound Local xs) (bound Global xs), h, k) refl

pub ruleset address = (bound-address, unbound-address)

pub ruleset entries = (symbols-put, bound-shorter, both-addresses)

pub ruleset names = (names-append, append_assoc)
