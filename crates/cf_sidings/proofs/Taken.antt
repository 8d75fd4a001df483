-- Any operation is there where the word of the cells with an operation is not 0.
use Rattle.std.proofs.Common.{◌≡◌, ◌∙◌, ℕ, zero, suc, ◌+◌, ◌*◌, ◌/◌, ◌%◌, ◌<◌, List, [], ◌∷◌, Option, Bool, true, false, nat_eq, length, refl, sym, subst, arith}
use Rattle.std.specs.Prelude.{not, slice_get}
use Rattle.std.specs.List.{list_any}
use Rattle.std.specs.Int.{bit_at}
use Rattle.std.proofs.lemmas.Bool.Decides.{nat_tests}
use Rattle.std.proofs.lemmas.Nat.Bits.{bit_at-lt, bit_at-zero, same_from_bits}
use Rattle.cf_bind.specs.declared.cell.Op.{Op}
use Rattle.cf_layout.specs.Words.{has_bit}
use Rattle.cf_layout.proofs.Words.{no_bits}
use Rattle.cf_semantics.specs.state.Options.{is_some, on}
use Rattle.cf_semantics.specs.moves.Bars.{cell_is_taken}
use Rattle.cf_sidings.specs.Sidings.{HaveWords, cells_in, numbered_cell}

-- a siding of which a cell is taken holds an operation
any_cell : (cells : List (Option Op)) (c : ℕ) → cell_is_taken (slice_get cells c) ≡ true → list_any is_some cells ≡ true
any_cell [] c e = absurd (cc)
any_cell (o ∷ cells) zero e = rw e refl
any_cell (o ∷ cells) (suc c) e = let h = any_cell cells c e in grind (arith, h)

any_siding : (sidings : List (List (Option Op))) (k c : ℕ) → cell_is_taken (slice_get (cells_in sidings k) c) ≡ true →
    list_any (list_any is_some) sidings ≡ true
any_siding [] k c e = absurd (cc)
any_siding (cells ∷ sidings) zero c e = let h = any_cell cells c e in grind (arith, h)
any_siding (cells ∷ sidings) (suc k) c e = let h = any_siding sidings k c e in grind (arith, h)

-- one of which none is taken holds none
no_cell : (cells : List (Option Op)) → ((c : ℕ) → c < length cells → cell_is_taken (slice_get cells c) ≡ false) → list_any is_some cells ≡ false
no_cell [] none = refl
no_cell (o ∷ cells) none =
    let here = none 0 (omega arith) in
    let later = no_cell cells (λ c within. none (suc c) (omega arith)) in
    rw (here, later) refl

no_siding : (sidings : List (List (Option Op))) → ((k c : ℕ) → c < length (cells_in sidings k) → cell_is_taken (slice_get (cells_in sidings k) c) ≡ false) →
    list_any (list_any is_some) sidings ≡ false
no_siding [] none = refl
no_siding (cells ∷ sidings) none =
    let here = no_cell cells (none 0) in
    let later = no_siding sidings (λ k. none (suc k)) in
    rw (here, later) refl

-- where none is held the word has no bit
off_unless : (b : Bool) → (b ≡ true → true ≡ false) → b ≡ false
off_unless true on = on refl
off_unless false on = refl

no_bit : (w k : ℕ) → has_bit w k ≡ false → bit_at w k ≡ bit_at 0 k
unfolding has_bit
no_bit w k e = let g = bit_at-lt w k in let z = bit_at-zero k in let low : bit_at w k ≡ 0 = grind (arith, nat_tests) in low ∙ sym z

word_none : (sidings : List (List (Option Op))) (taken inner : ℕ) → HaveWords sidings taken inner → list_any (list_any is_some) sidings ≡ false → taken ≡ 0
word_none sidings taken inner w none = same_from_bits taken 0 (λ j. no_bit taken j (w.with_op j ∙ off_unless (cell_is_taken (numbered_cell sidings j)) (λ on.
    sym (any_siding sidings (j / 8) (j % 8) on) ∙ none)))

-- and where the word has no bit none is held
none_word : (sidings : List (List (Option Op))) (inner : ℕ) → HaveWords sidings 0 inner → list_any (list_any is_some) sidings ≡ false
none_word sidings inner w = no_siding sidings (λ k c within.
    let short = w.small.short k in
    let q : (8 * k + c) / 8 ≡ k = omega arith in
    let r : (8 * k + c) % 8 ≡ c = omega arith in
    rw (q, r) at (sym (w.with_op (8 * k + c)) ∙ no_bits (8 * k + c)))

holds_case : (sidings : List (List (Option Op))) (taken inner : ℕ) (none any : Bool) → nat_eq taken 0 ≡ none → list_any (list_any is_some) sidings ≡ any →
    HaveWords sidings taken inner → not none ≡ any
holds_case sidings taken inner true true e f w =
    let z : taken ≡ 0 = grind (arith, nat_tests) in
    sym (none_word sidings inner (subst (λ (n : ℕ). HaveWords sidings n inner) z w)) ∙ f
holds_case sidings taken inner true false e f w = refl
holds_case sidings taken inner false true e f w = refl
holds_case sidings taken inner false false e f w = let z = word_none sidings taken inner w f in absurd (grind (arith, nat_tests))

pub holds-some : (sidings : List (List (Option Op))) (taken inner : ℕ) → HaveWords sidings taken inner →
    not (nat_eq taken 0) ≡ list_any (list_any is_some) sidings
holds-some sidings taken inner w = holds_case sidings taken inner (nat_eq taken 0) (list_any (list_any is_some) sidings) refl refl w
