-- Empty stages.
use Rattle.std.proofs.Common.{◌≡◌, ◌∙◌, ℕ, zero, suc, ◌-◌, ◌<◌, ◌≤◌, ◌++◌, List, [], ◌∷◌, take, All, Option, None, Bool, true, false, length, replicate, get_or, refl, sym, ap, subst, arith}
use Rattle.std.specs.Prelude.{not, ◌&&◌, nat_eq}
use Rattle.std.specs.List.{list_any}
use Rattle.std.proofs.lemmas.List.{get_or-replicate, length-replicate}
use Rattle.std.proofs.lemmas.List.Folds.{list_any_none}
use Rattle.std.proofs.lemmas.Option.{slice_get-get_or}
use Rattle.std.proofs.lemmas.Bool.Decides.{nat_tests}
use Rattle.cf_bind.specs.declared.cell.Cell.{Cell}
use Rattle.cf_bind.specs.declared.packet.Packet.{Packet}
use Rattle.cf_bind.specs.declared.passenger.Passenger.{Passenger}
use Rattle.cf_layout.specs.Words.{has_bit}
use Rattle.cf_layout.proofs.Words.{no_bits}
use Rattle.cf_semantics.specs.state.Options.{on, is_some}
use Rattle.cf_semantics.specs.state.Drained.{is_occupied}
use Rattle.cf_semantics.specs.state.State.{cell_at}
use Rattle.cf_semantics.specs.runs.Runs.{empty_cell}
use Rattle.cf_stages.specs.Changes.{IsCell}
use Rattle.cf_stages.specs.Parts.{AreParts, AreStages, all_cells, cells_from, held_from, stages_of}
use Rattle.cf_stages.specs.Words.{word_of, word_where, passenger_word, packet_word}
use Rattle.cf_stages.proofs.Bits.{word-agrees, word-bit}
use Rattle.cf_stages.proofs.Parts.{length-cells}

-- two pipes of empty entries are empty stages
empty_cells : (k n : ℕ) → cells_from k (replicate n None) (replicate n None) 0 ≡ replicate n empty_cell
unfolding cells_from
empty_cells k zero = refl
empty_cells k (suc n) = rw (no_bits k, empty_cells (suc k) n) refl

-- a test that holds nowhere gives the word 0
pub word-none : (n : ℕ) → word_of (λ i. false) n ≡ 0
unfolding word_of
word-none zero = refl
word-none (suc n) = rw (word-none n) (omega arith)

nowhere : (test : Cell → Bool) (n : ℕ) → test empty_cell ≡ false → (j : ℕ) → on (cell_at (replicate n empty_cell) j) false test ≡ false
nowhere test n e zero = refl
nowhere test zero e (suc k) = refl
nowhere test (suc n) e (suc zero) = e
nowhere test (suc n) e (suc (suc k)) = nowhere test n e (suc k)

word_empty : (test : Cell → Bool) (n : ℕ) → test empty_cell ≡ false → 0 ≡ word_where test (replicate n empty_cell)
word_empty test n e = sym (word-agrees (λ i. on (cell_at (replicate n empty_cell) i) false test) (λ i. false) (length (replicate n empty_cell))
    (λ j low high. nowhere test n e j) ∙ word-none (length (replicate n empty_cell)))

all_empty : (n : ℕ) → All IsCell (replicate n empty_cell)
all_empty n = λ k d within. rw (get_or-replicate n k empty_cell d (rw length-replicate at within)) (λ g. absurd (cc))

empty_parts : (n : ℕ) → 2 ≤ n → n ≤ 32 → AreParts (replicate n None) (replicate n None) 0 0 0
empty_parts n least most =
    let e = sym (empty_cells 0 n) in
    let a = length-replicate {A = Option Passenger} n None in
    let b = length-replicate {A = Option Packet} n None in
    record {
      pipes = b ∙ sym a;
      least = omega arith;
      most = omega arith;
      cells = subst (All IsCell) e (all_empty n);
      passenger_bits = word_empty (λ c. is_some c.passenger) n refl ∙ ap (word_where (λ c. is_some c.passenger)) e;
      packet_bits = word_empty (λ c. is_some c.packet) n refl ∙ ap (word_where (λ c. is_some c.packet)) e;
      met_bits = word_empty (λ c. c.met) n refl ∙ ap (word_where (λ c. c.met)) e;
    }

-- without a bit the entries hold nothing
none_held : {X : Type 0} (k n : ℕ) (x : X) → held_from k 0 (replicate n x) ≡ replicate n None
unfolding held_from
none_held k zero x = refl
none_held k (suc n) x = rw (no_bits k, none_held (suc k) n x) refl

pub empty-stages : (n : ℕ) (p : Passenger) (q : Packet) → stages_of (replicate n p) (replicate n q) 0 0 0 ≡ replicate n empty_cell
empty-stages n p q = rw (none_held 0 n p, none_held 0 n q) (empty_cells 0 n)

pub empty-are : (ps : List Passenger) (qs : List Packet) (n : ℕ) (p : Passenger) (q : Packet) → 2 ≤ n → n ≤ 32 → ps ≡ replicate n p → qs ≡ replicate n q →
    AreStages ps qs 0 0 0
empty-are ps qs n p q least most e f = rw (e, f, none_held 0 n p, none_held 0 n q) (empty_parts n least most)

-- what an empty list is filled with
taken_none : {X : Type 0} (n : ℕ) → ◌≡◌ {A = List X} (take n []) []
taken_none zero = refl
taken_none (suc n) = refl

pub filled : {X : Type 0} (n m : ℕ) (xs ys : List X) (x : X) → xs ≡ [] → m ≡ 0 → ys ≡ take n xs ++ replicate (n - m) x → ys ≡ replicate n x
filled {X = X} n m xs ys x none least e = let z : n - 0 ≡ n = omega arith in e ∙ rw (none, least, z, taken_none {X = X} n) refl

pub ruleset emptying = (empty-stages, empty-are)

-- if a word is 0, its test holds nowhere
none_at : (test : Cell → Bool) (cells : List Cell) (k : ℕ) (d : Cell) → length cells ≤ 32 → word_where test cells ≡ 0 → k < length cells →
    test (get_or cells k d) ≡ false
none_at test cells k d few e within =
    sym (ap (λ (o : Option Cell). on o false test) (slice_get-get_or cells k d within))
    ∙ sym (word-bit (λ i. on (cell_at cells i) false test) (length cells) k within)
    ∙ ap (λ (w : ℕ). has_bit w k) e ∙ no_bits k

pub none-occupied : (cells : List Cell) → length cells ≤ 32 → passenger_word cells ≡ 0 → packet_word cells ≡ 0 → list_any is_occupied cells ≡ false
none-occupied cells few e f = list_any_none is_occupied cells
    (λ k d within. rw (none_at (λ c. is_some c.passenger) cells k d few e within, none_at (λ c. is_some c.packet) cells k d few f within) refl)

-- if a test holds nowhere, its word is 0
nowhere_from : (test : Cell → Bool) (cells : List Cell) → list_any test cells ≡ false → (j : ℕ) → on (cell_at cells j) false test ≡ false
nowhere_from test cells e zero = refl
nowhere_from test [] e (suc k) = refl
nowhere_from test (c ∷ cells) e (suc zero) = grind arith
nowhere_from test (c ∷ cells) e (suc (suc k)) = nowhere_from test cells (grind arith) (suc k)

word_nowhere : (test : Cell → Bool) (cells : List Cell) → list_any test cells ≡ false → word_where test cells ≡ 0
word_nowhere test cells e = word-agrees (λ i. on (cell_at cells i) false test) (λ i. false) (length cells) (λ j low high. nowhere_from test cells e j)
    ∙ word-none (length cells)

either_none : (cells : List Cell) → list_any is_occupied cells ≡ false → (list_any (λ c. is_some c.passenger) cells ≡ false)
    × (list_any (λ c. is_some c.packet) cells ≡ false)
either_none [] e = (refl, refl)
either_none (c ∷ cells) e = let r = either_none cells (grind arith) in grind (arith, r)

pub no-passenger : (cells : List Cell) → list_any is_occupied cells ≡ false → passenger_word cells ≡ 0
no-passenger cells e = word_nowhere (λ c. is_some c.passenger) cells (either_none cells e).0

pub no-packet : (cells : List Cell) → list_any is_occupied cells ≡ false → packet_word cells ≡ 0
no-packet cells e = word_nowhere (λ c. is_some c.packet) cells (either_none cells e).1

-- what the two words decide
answered_as : (cells : List Cell) (a b some : Bool) → list_any is_occupied cells ≡ some → length cells ≤ 32 → nat_eq (passenger_word cells) 0 ≡ a →
    nat_eq (packet_word cells) 0 ≡ b → (a && b) ≡ not some
answered_as cells a b false e few f g =
    let p = no-passenger cells e in
    let q = no-packet cells e in
    grind (arith, nat_tests)
answered_as cells true true true e few f g =
    let p : passenger_word cells ≡ 0 = grind (arith, nat_tests) in
    let q : packet_word cells ≡ 0 = grind (arith, nat_tests) in
    let n = none-occupied cells few p q in
    absurd (cc)
answered_as cells true false true e few f g = refl
answered_as cells false true true e few f g = refl
answered_as cells false false true e few f g = refl

pub none-answered : (cells : List Cell) → length cells ≤ 32 → (nat_eq (passenger_word cells) 0 && nat_eq (packet_word cells) 0)
    ≡ not (list_any is_occupied cells)
none-answered cells few = answered_as cells (nat_eq (passenger_word cells) 0) (nat_eq (packet_word cells) 0) (list_any is_occupied cells) refl few refl refl

-- the same for the words that are kept
kept : (ps : List (Option Passenger)) (qs : List (Option Packet)) (r f m : ℕ) (now : List Cell) → AreParts ps qs r f m → all_cells ps qs m ≡ now →
    (nat_eq r 0 && nat_eq f 0) ≡ not (list_any is_occupied now)
kept ps qs r f m now h e =
    let n = length-cells 0 ps qs m h.pipes in
    let l = ap length e in
    rw (h.passenger_bits, h.packet_bits, e) (none-answered now (omega (arith, h.most)))

pub empty-then : (ps : List (Option Passenger)) (qs : List (Option Packet)) (r f m : ℕ) (now : List Cell) → AreParts ps qs r f m → all_cells ps qs m ≡ now →
    r ≡ 0 → nat_eq f 0 ≡ not (list_any is_occupied now)
empty-then ps qs r f m now h e none = let k = kept ps qs r f m now h e in grind (arith, nat_tests)

pub empty-else : (ps : List (Option Passenger)) (qs : List (Option Packet)) (r f m : ℕ) (now : List Cell) → AreParts ps qs r f m → all_cells ps qs m ≡ now →
    (r ≡ 0 → ⊥) → nat_eq r 0 ≡ not (list_any is_occupied now)
empty-else ps qs r f m now h e some = let k = kept ps qs r f m now h e in grind (arith, nat_tests)
