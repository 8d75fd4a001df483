-- The word of the cells from which an operation can move on.
use Rattle.std.proofs.Common.{◌≡◌, ◌∙◌, ℕ, suc, ◌+◌, ◌/◌, ◌%◌, ◌^◌, ◌<◌, ◌≤◌, List, Option, Some, None, Bool, true, false, nat_eq, nat_lt, length, refl, sym, ap, arith}
use Rattle.std.specs.Prelude.{◌&&◌, not}
use Rattle.std.specs.Int.{bit_not, w64}
use Rattle.std.specs.Int.RustNames.{bit_and}
use Rattle.std.proofs.lemmas.Bool.Decides.{nat_tests}
use Rattle.std.proofs.lemmas.Nat.Bits.{bit_at-suc}
use Rattle.std.proofs.lemmas.Option.{slice_get_within}
use Rattle.cf_bind.specs.declared.cell.Op.{Op}
use Rattle.cf_layout.specs.Words.{has_bit}
use Rattle.cf_semantics.specs.state.Options.{is_some}
use Rattle.cf_semantics.specs.moves.Bars.{cell_is_taken}
use Rattle.cf_sidings.specs.Sidings.{HaveWords, cell_is_free, cells_in, next_cell, numbered_cell, slides_on}
use Rattle.cf_sidings.proofs.Bits.{high_bit, of_both, other_bit}

-- after a shift down each bit is that of the next one
of_next : (w k : ℕ) → has_bit (w / 2) k ≡ has_bit w (k + 1)
unfolding has_bit
of_next w k = let z : k + 1 ≡ suc k = omega arith in rw z (ap (λ (b : ℕ). nat_eq b 1) (sym (bit_at-suc w k)))

-- a cell that exists is free or taken
free_cell : (cell : Option (Option Op)) → (is_some cell && not (cell_is_taken cell)) ≡ cell_is_free cell
free_cell None = refl
free_cell (Some None) = refl
free_cell (Some (Some op)) = refl

-- the next cell of the same siding has the next number, if there is one
next_number : (sidings : List (List (Option Op))) (j : ℕ) (o : Option Op) → length (cells_in sidings (j / 8)) ≤ 8 → next_cell sidings j ≡ Some o →
    next_cell sidings j ≡ numbered_cell sidings (j + 1)
next_number sidings j o short e =
    let within = slice_get_within (cells_in sidings (j / 8)) (j % 8 + 1) o e in
    let q : (j + 1) / 8 ≡ j / 8 = omega arith in
    let r : (j + 1) % 8 ≡ j % 8 + 1 = omega arith in
    rw (q, r) refl

free_next : (sidings : List (List (Option Op))) (j : ℕ) (cell : Option (Option Op)) → length (cells_in sidings (j / 8)) ≤ 8 → next_cell sidings j ≡ cell →
    (is_some cell && not (cell_is_taken (numbered_cell sidings (j + 1)))) ≡ cell_is_free cell
free_next sidings j None short e = refl
free_next sidings j (Some o) short e =
    let n = sym (next_number sidings j o short e) ∙ e in
    rw n (free_cell (Some o))

grouped : (a b c : Bool) → ((a && b) && c) ≡ (a && (b && c))
grouped a b c = grind arith

low_case : (sidings : List (List (Option Op))) (taken inner j : ℕ) (low : Bool) → nat_lt j 64 ≡ low → taken < 2 ^ 64 → HaveWords sidings taken inner →
    ((has_bit taken j && has_bit inner j) && has_bit (bit_not w64 (taken / 2)) j) ≡ slides_on sidings j
unfolding slides_on
low_case sidings taken inner j true e small w =
    let below : j < 64 = grind (arith, nat_tests) in
    let n = other_bit (taken / 2) j (omega arith) below ∙ ap not (of_next taken j ∙ w.with_op (j + 1)) in
    let f = free_next sidings j (next_cell sidings j) (w.small.short (j / 8)) refl in
    rw n (
    grouped (has_bit taken j) (has_bit inner j) (not (cell_is_taken (numbered_cell sidings (j + 1))))
    ∙ rw (w.with_op j, w.with_next j, f) refl)
low_case sidings taken inner j false e small w =
    let high : 64 ≤ j = grind (arith, nat_tests) in
    let none = high_bit taken j small high in
    let off = sym (w.with_op j) ∙ none in
    rw (none, off) refl

pub sliding-bits : (sidings : List (List (Option Op))) (taken inner j : ℕ) → taken < 2 ^ 64 → HaveWords sidings taken inner →
    has_bit (bit_and (bit_and taken inner) (bit_not w64 (taken / 2))) j ≡ slides_on sidings j
sliding-bits sidings taken inner j small w =
    of_both (bit_and taken inner) (bit_not w64 (taken / 2)) j
    ∙ ap (λ (b : Bool). b && has_bit (bit_not w64 (taken / 2)) j) (of_both taken inner j)
    ∙ low_case sidings taken inner j (nat_lt j 64) refl small w

pub ruleset sliding = (sliding-bits)
