-- The contents of the stages, from the two pipes and the bit words, and after a change of one entry of each.
use Rattle.std.proofs.Common.{◌≡◌, ◌≢◌, ◌∙◌, ℕ, zero, suc, ◌+◌, ◌-◌, ◌<◌, ◌≤◌, List, [], ◌∷◌, Option, Some, Bool, true, false, length, refl, sym, ap, arith}
use Rattle.std.specs.Prelude.{slice_get, slice_set, nat_eq}
use Rattle.std.proofs.lemmas.Bool.Decides.{nat_tests}
use Rattle.std.proofs.lemmas.List.{set-set}
use Rattle.std.proofs.lemmas.Option.{slice_get_within}
use Rattle.cf_bind.specs.declared.cell.Cell.{Cell}
use Rattle.cf_bind.specs.declared.packet.Packet.{Packet}
use Rattle.cf_bind.specs.declared.passenger.Passenger.{Passenger}
use Rattle.cf_layout.specs.Words.{has_bit}
use Rattle.cf_semantics.specs.state.Options.{on}
use Rattle.cf_semantics.specs.state.State.{cell_at, put_cell}
use Rattle.cf_stages.specs.Parts.{cells_from, all_cells}
use Rattle.cf_stages.specs.Words.{word_of, word_where, with_bit}
use Rattle.cf_stages.proofs.Bits.{word-agrees, word-with-bit}
use Rattle.cf_stages.proofs.Cells.{length-put}

-- there are as many as in each pipe
pub length-cells : (k : ℕ) (ps : List (Option Passenger)) (qs : List (Option Packet)) (met : ℕ) → length qs ≡ length ps →
    length (cells_from k ps qs met) ≡ length ps
unfolding cells_from
length-cells k [] qs met e = refl
length-cells k (p ∷ ps) [] met e = absurd (cc)
length-cells k (p ∷ ps) (q ∷ qs) met e = ap suc (length-cells (suc k) ps qs met (omega arith))

-- what is in a stage
get_cells : (k : ℕ) (ps : List (Option Passenger)) (qs : List (Option Packet)) (met j : ℕ) (p : Option Passenger) (q : Option Packet) →
    slice_get ps j ≡ Some p → slice_get qs j ≡ Some q → slice_get (cells_from k ps qs met) j
    ≡ Some (record { passenger = p; packet = q; met = has_bit met (k + j) })
unfolding cells_from
get_cells k [] qs met j p q e f = absurd (cc)
get_cells k (x ∷ ps) [] met j p q e f = absurd (cc)
get_cells k (x ∷ ps) (y ∷ qs) met zero p q e f =
    let g : x ≡ p = cc in
    let h : y ≡ q = cc in
    let z : k + zero ≡ k = omega arith in
    rw (g, h, z) refl
get_cells k (x ∷ ps) (y ∷ qs) met (suc j) p q e f =
    let z : k + suc j ≡ suc k + j = omega arith in
    rw z (get_cells (suc k) ps qs met j p q e f)

pub cell-parts : (ps : List (Option Passenger)) (qs : List (Option Packet)) (met i : ℕ) (p : Option Passenger) (q : Option Packet) → 0 < i →
    slice_get ps (i - 1) ≡ Some p → slice_get qs (i - 1) ≡ Some q → cell_at (all_cells ps qs met) i
    ≡ Some (record { passenger = p; packet = q; met = has_bit met (i - 1) })
cell-parts ps qs met zero p q low e f = absurd (omega arith)
cell-parts ps qs met (suc j) p q low e f =
    let z : suc j - 1 ≡ j = omega arith in
    let o : 0 + j ≡ j = omega arith in
    let r = rw o at (get_cells 0 ps qs met j p q (rw z at e) (rw z at f)) in
    rw z r

-- an entry gets what it had
pub set-same : {A : Type 0} (xs : List A) (j : ℕ) (x : A) → slice_get xs j ≡ Some x → slice_set xs j x ≡ xs
set-same [] j x e = refl
set-same (y ∷ xs) zero x e = let g : y ≡ x = cc in rw g refl
set-same {A = A} (y ∷ xs) (suc j) x e = ap (λ (l : List A). y ∷ l) (set-same xs j x e)

-- the words agree from a stage on
same_cells : (k : ℕ) (ps : List (Option Passenger)) (qs : List (Option Packet)) (met other : ℕ) → k + length ps ≤ 32 →
    ((i : ℕ) → i < 32 → k ≤ i → has_bit other i ≡ has_bit met i) → cells_from k ps qs other ≡ cells_from k ps qs met
unfolding cells_from
same_cells k [] qs met other most same = refl
same_cells k (p ∷ ps) [] met other most same = refl
same_cells k (p ∷ ps) (q ∷ qs) met other most same =
    rw (same k (omega arith) (omega arith), same_cells (suc k) ps qs met other (omega arith) (λ i below high. same i below (omega arith))) refl

-- one entry of each pipe gets new contents, and the words agree except there
set_cells : (k : ℕ) (ps : List (Option Passenger)) (qs : List (Option Packet)) (met other j : ℕ) (p : Option Passenger) (q : Option Packet) → j < length ps →
    length qs ≡ length ps → k + length ps ≤ 32 →
    ((i : ℕ) → i < 32 → i ≢ k + j → has_bit other i ≡ has_bit met i) →
    cells_from k (slice_set ps j p) (slice_set qs j q) other ≡ slice_set (cells_from k ps qs met) j
    (record { passenger = p; packet = q; met = has_bit other (k + j) })
unfolding cells_from
set_cells k [] qs met other j p q within e most same = absurd (omega arith)
set_cells k (x ∷ ps) [] met other j p q within e most same = absurd (cc)
set_cells k (x ∷ ps) (y ∷ qs) met other zero p q within e most same =
    let z : k + zero ≡ k = omega arith in
    rw (z, same_cells (suc k) ps qs met other (omega arith) (λ i below high. same i below (λ g. absurd (omega arith)))) refl
set_cells k (x ∷ ps) (y ∷ qs) met other (suc j) p q within e most same =
    let z : k + suc j ≡ suc k + j = omega arith in
    let r = set_cells (suc k) ps qs met other j p q (omega arith) (omega arith) (omega arith) (λ i below off. same i below (λ g. off (g ∙ z))) in
    rw (z, same k (omega arith) (λ g. absurd (omega arith)), r) refl

pub put-parts : (ps : List (Option Passenger)) (qs : List (Option Packet)) (met other i : ℕ) (p : Option Passenger) (q : Option Packet) → 0 < i →
    i ≤ length ps → length qs ≡ length ps → length ps ≤ 32 →
    ((k : ℕ) → k < 32 → k ≢ i - 1 → has_bit other k ≡ has_bit met k) →
    all_cells (slice_set ps (i - 1) p) (slice_set qs (i - 1) q) other ≡ put_cell (all_cells ps qs met) i
    (record { passenger = p; packet = q; met = has_bit other (i - 1) })
put-parts ps qs met other zero p q low within e most same = absurd (omega arith)
put-parts ps qs met other (suc j) p q low within e most same =
    let z : suc j - 1 ≡ j = omega arith in
    let o : 0 + j ≡ j = omega arith in
    let r = rw o at (set_cells 0 ps qs met other j p q (omega arith) e (omega arith) (λ k below off. same k below (λ g. off (g ∙ z ∙ sym o)))) in
    rw z r

-- a stage with other contents
get_set : {A : Type 0} (xs : List A) (j : ℕ) (x : A) → j < length xs → slice_get (slice_set xs j x) j ≡ Some x
get_set [] j x within = absurd (omega arith)
get_set (y ∷ xs) zero x within = refl
get_set (y ∷ xs) (suc j) x within = get_set xs j x (omega arith)

get_set_other : {A : Type 0} (xs : List A) (j k : ℕ) (x : A) → k ≢ j → slice_get (slice_set xs j x) k ≡ slice_get xs k
get_set_other [] j k x off = refl
get_set_other (y ∷ xs) zero zero x off = absurd (off refl)
get_set_other (y ∷ xs) zero (suc k) x off = refl
get_set_other (y ∷ xs) (suc j) zero x off = refl
get_set_other (y ∷ xs) (suc j) (suc k) x off = get_set_other xs j k x (λ g. off (ap suc g))

pub cell-put : (cells : List Cell) (i : ℕ) (c : Cell) → 0 < i → i ≤ length cells → cell_at (put_cell cells i c) i ≡ Some c
cell-put cells zero c low within = absurd (omega arith)
cell-put cells (suc j) c low within = get_set cells j c (omega arith)

pub cell-put-other : (cells : List Cell) (i j : ℕ) (c : Cell) → j ≢ i → cell_at (put_cell cells i c) j ≡ cell_at cells j
cell-put-other cells zero j c off = refl
cell-put-other cells (suc i) zero c off = refl
cell-put-other cells (suc i) (suc j) c off = get_set_other cells i j c (λ g. off (ap suc g))

-- a stage in which something is listed is one of the stages
pub stage-low : (cells : List Cell) (i : ℕ) (c : Cell) → cell_at cells i ≡ Some c → 0 < i
stage-low cells zero c e = absurd (cc)
stage-low cells (suc k) c e = omega arith

pub stage-high : (cells : List Cell) (i : ℕ) (c : Cell) → cell_at cells i ≡ Some c → i ≤ length cells
stage-high cells zero c e = absurd (cc)
stage-high cells (suc k) c e = let h = slice_get_within cells k c e in omega arith

-- a stage that exists
pub stood : (cells : List Cell) (i : ℕ) → 0 < i → i ≤ length cells → (c : Cell) × (cell_at cells i ≡ Some c)
stood cells zero low within = absurd (omega arith)
stood [] (suc k) low within = absurd (omega arith)
stood (c ∷ cells) (suc zero) low within = (c, refl)
stood (c ∷ cells) (suc (suc k)) low within = stood cells (suc k) (omega arith) (omega arith)

-- what is put last into a stage is its contents
pub put-put : (cells : List Cell) (i : ℕ) (c d : Cell) → put_cell (put_cell cells i c) i d ≡ put_cell cells i d
put-put cells zero c d = refl
put-put cells (suc k) c d = set-set cells k c d

-- a stage gets what it had
pub put-same : (cells : List Cell) (i : ℕ) (c : Cell) → cell_at cells i ≡ Some c → put_cell cells i c ≡ cells
put-same cells zero c e = refl
put-same cells (suc k) c e = set-same cells k c e

-- the word of a test, with other contents in a stage
pub word-put : (test : Cell → Bool) (cells : List Cell) (i : ℕ) (c : Cell) → 0 < i → i ≤ length cells → length cells ≤ 32 →
    word_where test (put_cell cells i c) ≡ with_bit (word_where test cells) (i - 1) (test c)
word-put test cells zero c low within few = absurd (omega arith)
word-put test cells (suc k) c low within few =
    let z : suc k - 1 ≡ k = omega arith in
    let tests = λ (cs : List Cell) (j : ℕ). on (cell_at cs j) false test in
    let e = word-with-bit (tests cells) (tests (put_cell cells (suc k) c)) (length cells) k few (omega arith)
    (λ j off. ap (λ (o : Option Cell). on o false test) (cell-put-other cells (suc k) j c off)) in
    let n = ap (λ (n : ℕ). word_of (tests (put_cell cells (suc k) c)) n) (length-put cells (suc k) c) in
    let h = ap (λ (o : Option Cell). with_bit (word_of (tests cells) (length cells)) k (on o false test)) (cell-put cells (suc k) c low within) in
    rw z (n ∙ e ∙ h)

-- the same word, if the test says the same
abbrev tested : (Cell → Bool) → List Cell → ℕ → Bool
tested test cells j = on (cell_at cells j) false test

same_test : (test : Cell → Bool) (cells : List Cell) (i : ℕ) (b c : Cell) → cell_at cells i ≡ Some b → test c ≡ test b → (j : ℕ) (at : Bool) → nat_eq j i ≡ at →
    tested test (put_cell cells i c) j ≡ tested test cells j
same_test test cells i b c here same j true e =
    let at : j ≡ i = grind (arith, nat_tests) in
    rw (at, cell-put cells i c (stage-low cells i b here) (stage-high cells i b here), here) same
same_test test cells i b c here same j false e =
    let off : j ≢ i = grind (arith, nat_tests) in
    ap (λ (o : Option Cell). on o false test) (cell-put-other cells i j c off)

pub word-put-same : (test : Cell → Bool) (cells : List Cell) (i : ℕ) (b c : Cell) → cell_at cells i ≡ Some b → test c ≡ test b →
    word_where test (put_cell cells i c) ≡ word_where test cells
word-put-same test cells i b c here same =
    ap (λ (n : ℕ). word_of (tested test (put_cell cells i c)) n) (length-put cells i c)
    ∙ word-agrees (tested test (put_cell cells i c)) (tested test cells) (length cells) (λ j low high. same_test test cells i b c here same j (nat_eq j i) refl)
