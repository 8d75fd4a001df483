-- The entries of tables: where they begin, and which of them are cut off.
use Rattle.std.proofs.Common.{◌≡◌, ℕ, zero, suc, ◌+◌, ◌-◌, ◌*◌, ◌<◌, ◌≤◌, List, ◌∷◌, length, refl, sym, subst, arith, Bool, true, false, cond, Option, Some, None}
use Rattle.std.specs.Prelude.{find, position, nat_lt, IfSome}
use Rattle.std.specs.List.{position_or_len}
use Rattle.std.proofs.lemmas.Bool.Decides.{nat_tests}
use Rattle.elf_view.specs.Fields.{entry_offsets, ends_beyond, entries}

-- the remaining indices begin with the next one
pub next_place : (place size count counter : ℕ) → counter < count → entry_offsets place size (count - counter) ≡ place
    ∷ entry_offsets (place + size) size (count - (counter + 1))
next_place place size count counter below = let e : count - counter ≡ suc (count - (counter + 1)) = omega arith in rw e refl

-- an entry in the file is not the first that is not in the file
pub not_cut : (file : List ℕ) (place size count counter : ℕ) → counter < count → place + size ≤ length file →
    find (λ at. ends_beyond file at size) (entry_offsets (place + size) size (count - (counter + 1)))
    ≡ find (λ at. ends_beyond file at size) (entry_offsets place size (count - counter))
not_cut file place size count counter below within =
    let passes : nat_lt (length file) (place + size) ≡ false = grind (arith, nat_tests) in
    rw (next_place place size count counter below, passes) refl

-- if neither of two tests gives an index, the first does not hold, and the second gives none
told_none : (t : Bool) (place : ℕ) (o : Option ℕ) → cond t (Some place) o ≡ None → (t ≡ false) × (o ≡ None)
told_none true place o e = cc
told_none false place o e = (refl, e)

-- a table is in the file if its first entry and the others are
one_more_fits : (file : List ℕ) (at size count : ℕ) → at + size ≤ length file → (0 < count → (at + size) + size * count ≤ length file) →
    at + size * suc count ≤ length file
one_more_fits file at size zero first others = omega arith
one_more_fits file at size (suc count) first others = let more = others (omega arith) in grind arith

-- a table is in the file if none of its entries ends beyond it
pub none_cut : (file : List ℕ) (at size count : ℕ) → find (λ place. ends_beyond file place size) (entry_offsets at size count) ≡ None → 0 < count →
    at + size * count ≤ length file
none_cut file at size zero e some = absurd (omega arith)
none_cut file at size (suc count) e some =
    let told : (nat_lt (length file) (at + size) ≡ false) × (find (λ place. ends_beyond file place size) (entry_offsets (at + size) size count) ≡ None) =
    told_none (nat_lt (length file) (at + size)) at _ e in
    let test : nat_lt (length file) (at + size) ≡ false = told.0 in
    let first : at + size ≤ length file = grind (arith, nat_tests) in
    one_more_fits file at size count first (none_cut file (at + size) size count told.1)

-- a table has as many entries as its count says
pub length-entries : {E : Type 0} (read : List ℕ → ℕ → E) (size : ℕ) (file : List ℕ) (at count : ℕ) → length (entries read size file at count) ≡ count
length-entries read size file at zero = refl
length-entries read size file at (suc count) = let e = length-entries read size file (at + size) count in omega (arith, e)

-- an index that is given is one in the list
told_within : (t : Bool) (n size count : ℕ) → size ≤ count → nat_lt n size ≡ t → IfSome (cond t (Some n) None) (λ i. i < count)
told_within true n size count le e = grind (arith, nat_tests)
told_within false n size count le e = tt

-- the index of an element is below the length
pub position_within : {X : Type 0} (p : X → Bool) (xs : List X) (o : Option ℕ) (count : ℕ) → length xs ≤ count → o ≡ position p xs → IfSome o (λ i. i < count)
position_within p xs o count e told = subst (λ (r : Option ℕ). IfSome r (λ i. i < count)) (sym told)
    (told_within (nat_lt (position_or_len p xs) (length xs)) (position_or_len p xs) (length xs) count e refl)
