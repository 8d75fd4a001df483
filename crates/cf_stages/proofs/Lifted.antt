-- The contents of the stages and the bit words after an instruction moved to a higher stage, or a result to the one
-- below.
use Rattle.std.proofs.Common.{◌≡◌, ◌∙◌, ℕ, suc, ◌-◌, ◌^◌, ◌<◌, ◌≤◌, ◌≢◌, All, List, Option, Some, None, Bool, true, false, IsTrue, length, length-set, refl, sym, ap, subst, arith}
use Rattle.std.specs.Prelude.{IsNone, IsSome, slice_index_or, slice_set}
use Rattle.std.proofs.lemmas.Option.{slice_get-get_or}
use Rattle.cf_bind.specs.declared.cell.Cell.{Cell}
use Rattle.cf_bind.specs.declared.packet.Packet.{Packet}
use Rattle.cf_bind.specs.declared.passenger.Passenger.{Passenger}
use Rattle.cf_layout.specs.Words.{has_bit}
use Rattle.cf_semantics.specs.state.Options.{on, is_some}
use Rattle.cf_semantics.specs.state.State.{cell_at}
use Rattle.cf_stages.specs.Changes.{IsCell, changed, cells_lifted, falls, cells_fallen, packet_at, passenger_at, with_new_passenger}
use Rattle.cf_stages.specs.Parts.{AreParts, all_cells, with_place}
use Rattle.cf_stages.specs.Words.{with_bit, word_where}
use Rattle.cf_stages.proofs.Bits.{bit-other, with_bit-lt, word-bit, word-small}
use Rattle.cf_stages.proofs.Carries.{bit-kept}
use Rattle.cf_stages.proofs.Cells.{cell-in}
use Rattle.cf_stages.proofs.Kept.{count-read, passenger-parts, passenger-placed, passenger-read, packet-parts, packet-placed, packet-read}
use Rattle.cf_stages.proofs.Neighbours.{lifted-is, fallen-is, falls-low, falls-result, falls-room, falls-within}

-- what was read does not depend on the value that is used if there is no entry
read_any : {A : Type 0} (xs : List A) (k : ℕ) (x y : A) → k < length xs → slice_index_or xs k x ≡ slice_index_or xs k y
read_any xs k x y within =
    let a = slice_get-get_or xs k x within in
    let b = slice_get-get_or xs k y within in
    cc

-- the instruction of stage i can go to the higher stage j
record Lifts (ps : List (Option Passenger)) (qs : List (Option Packet)) (met i j : ℕ) : Type 0 where
  low : 0 < i
  order : i < j
  within : j ≤ length ps
  is : slice_index_or ps (i - 1) None ≡ passenger_at (all_cells ps qs met) i
  rides : true ≡ is_some (slice_index_or ps (i - 1) None)
  -- nothing has met in stage j
  unmet : with_bit (with_bit met (i - 1) false) (j - 1) false ≡ with_bit met (i - 1) false

some_true : (o : Option Passenger) → IsSome o → true ≡ is_some o
some_true None g = absurd (cc)
some_true (Some p) g = refl

-- the bits of the stage and of its neighbour, before a move
record Bits (w met j k : ℕ) : Type 0 where
  pub small : w < 2 ^ 32
  pub set : has_bit w j ≡ true
  pub clear : has_bit w k ≡ false
  -- nothing has met in the neighbour
  pub unmet : with_bit (with_bit met j false) k false ≡ with_bit met j false

-- the bit of a stage says what the test says of its contents
pub bit-of : (test : Cell → Bool) (cells : List Cell) (w k : ℕ) → w ≡ word_where test cells → k < length cells → has_bit w k
    ≡ on (cell_at cells (suc k)) false test
bit-of test cells w k is within =
    ap (λ (v : ℕ). has_bit v k) is ∙ word-bit (λ j. on (cell_at cells j) false test) (length cells) k within

-- where something is missing nothing has met
not_met : (cells : List Cell) (i : ℕ) (o : Option Cell) (half : Cell → Bool) → All IsCell cells → cell_at cells i ≡ o → ((c : Cell) → IsCell c → IsTrue c.met →
    half c ≡ true) → on o false half ≡ false → on o false (λ c. c.met) ≡ false
not_met cells i None half all e both none = refl
not_met cells i (Some c) half all e both none = by c.met refl
  where
    by : (b : Bool) → c.met ≡ b → c.met ≡ false
    by false m = m
    by true m = let t = both c (cell-in cells i c all e) (rw m refl) in absurd (cc)

pub result-some : (o : Option Cell) → IsSome (on o None (λ c. c.packet)) → on o false (λ c. is_some c.packet) ≡ true
result-some None h = absurd (cc)
result-some (Some c) h = grind arith

rider_met : (c : Cell) → IsCell c → IsTrue c.met → is_some c.passenger ≡ true
rider_met c one met = let b = one met in grind arith

result_met : (c : Cell) → IsCell c → IsTrue c.met → is_some c.packet ≡ true
result_met c one met = let b = one met in grind arith

-- a bit of the stage is cleared, and that of the neighbour was not set
unmet_there : (met j k : ℕ) → j < 32 → k < 32 → k ≢ j → met < 2 ^ 32 → has_bit met k ≡ false → with_bit (with_bit met j false) k false ≡ with_bit met j false
unmet_there met j k below high off small clear =
    bit-kept (with_bit met j false) k false high (with_bit-lt met j false below small) (bit-other met j k false below high off ∙ clear)

no_rider : (o : Option Cell) → IsNone (on o None (λ c. c.passenger)) → on o false (λ c. is_some c.passenger) ≡ false
no_rider None h = refl
no_rider (Some c) h = by c.passenger h
  where
    by : (o : Option Passenger) → IsNone o → is_some o ≡ false
    by None g = refl
    by (Some p) g = absurd (cc)

lifts : (ps : List (Option Passenger)) (qs : List (Option Packet)) (riding flying met i j : ℕ) → AreParts ps qs riding flying met →
    0 < i → i < j → j ≤ length ps → IsSome (passenger_at (all_cells ps qs met) i) → IsNone (passenger_at (all_cells ps qs met) j) → Lifts ps qs met i j
lifts ps qs riding flying met i j h low order within rides room =
    let cells = all_cells ps qs met in
    let n = count-read ps qs riding flying met h in
    let rider = slice_index_or ps (i - 1) None in
    let e = passenger-read ps qs riding flying met i rider h low (omega arith) (read_any ps (i - 1) None rider (omega arith)) in
    let there : suc (j - 1) ≡ j = omega arith in
    let none = not_met cells j (cell_at cells j) (λ d. is_some d.passenger) h.cells refl rider_met (no_rider (cell_at cells j) room) in
    let clear = bit-of (λ d. d.met) cells met (j - 1) h.met_bits (omega arith) ∙ ap (λ (k : ℕ). on (cell_at cells k) false (λ d. d.met)) there ∙ none in
    record {
      low = low;
      order = order;
      within = within;
      is = e;
      rides = some_true rider (subst (λ (o : Option Passenger). IsSome o) (sym e) rides);
      unmet = unmet_there met (i - 1) (j - 1) (omega (arith, h.most)) (omega (arith, h.most)) (λ g. absurd (omega arith))
          (rw h.met_bits (word-small _ (length cells) (omega (arith, h.most)))) clear;
    }

-- the pipes and the words once the instruction has left its stage
left_parts : (ps : List (Option Passenger)) (qs : List (Option Packet)) (riding flying met i j : ℕ) → AreParts ps qs riding flying met →
    Lifts ps qs met i j → AreParts (slice_set ps (i - 1) None) qs (with_bit riding (i - 1) false) flying (with_bit met (i - 1) false)
left_parts ps qs riding flying met i j h l =
    passenger-parts ps qs riding flying met (with_bit riding (i - 1) false) (with_bit met (i - 1) false) i None false h l.low
    (omega (arith, l.order, l.within)) refl refl refl

pub lifted-parts : (ps : List (Option Passenger)) (qs : List (Option Packet)) (riding flying met riding1 met1 i j : ℕ) → AreParts ps qs riding flying met →
    0 < i → i < j → j ≤ length ps → IsSome (passenger_at (all_cells ps qs met) i) → IsNone (passenger_at (all_cells ps qs met) j) →
    riding1 ≡ with_bit (with_bit riding (i - 1) false) (j - 1) true → met1 ≡ with_bit met (i - 1) false →
    AreParts (slice_set (slice_set ps (i - 1) None) (j - 1) (slice_index_or ps (i - 1) None)) qs riding1 flying met1
lifted-parts ps qs riding flying met riding1 met1 i j h low order within rides room r m =
    let l = lifts ps qs riding flying met i j h low order within rides room in
    let empty : Option Passenger = None in
    let long = length-set ps (i - 1) empty in
    passenger-parts (slice_set ps (i - 1) None) qs (with_bit riding (i - 1) false) flying (with_bit met (i - 1) false) riding1 met1 j
    (slice_index_or ps (i - 1) None) true (left_parts ps qs riding flying met i j h l) (omega arith) (omega arith) l.rides r (m ∙ sym l.unmet)

pub lifted-placed : (ps : List (Option Passenger)) (qs : List (Option Packet)) (riding flying met met1 i j : ℕ) → AreParts ps qs riding flying met →
    0 < i → i < j → j ≤ length ps → IsSome (passenger_at (all_cells ps qs met) i) → IsNone (passenger_at (all_cells ps qs met) j) →
    met1 ≡ with_bit met (i - 1) false →
    all_cells (slice_set (slice_set ps (i - 1) None) (j - 1) (slice_index_or ps (i - 1) None)) qs met1 ≡ cells_lifted (all_cells ps qs met) i j
lifted-placed ps qs riding flying met met1 i j h low order within rides room m =
    let l = lifts ps qs riding flying met i j h low order within rides room in
    let q = slice_index_or ps (i - 1) None in
    let empty : Option Passenger = None in
    let long = length-set ps (i - 1) empty in
    let n = count-read ps qs riding flying met h in
    let first = passenger-placed ps qs riding flying met (with_bit met (i - 1) false) i None h low (omega arith) refl in
    let second = passenger-placed (slice_set ps (i - 1) None) qs (with_bit riding (i - 1) false) flying (with_bit met (i - 1) false) met1 j q
    (left_parts ps qs riding flying met i j h l) (omega arith) (omega arith) (m ∙ sym l.unmet) in
    second
    ∙ ap (λ (cells : List Cell). changed cells j (with_new_passenger q)) first
    ∙ lifted-is (all_cells ps qs met) i j q low order (omega arith) l.is

-- the result is in the stage below, and none is left in the stage where it was
record Drops (ps : List (Option Passenger)) (qs : List (Option Packet)) (met i : ℕ) (q : Option Packet) : Type 0 where
  low : 1 < i
  within : i ≤ length ps
  is : q ≡ packet_at (all_cells ps qs met) i
  flies : true ≡ is_some q

some_packet : (o : Option Packet) → IsSome o → true ≡ is_some o
some_packet None g = absurd (cc)
some_packet (Some q) g = refl

drops : (ps : List (Option Passenger)) (qs : List (Option Packet)) (riding flying met i : ℕ) (q : Option Packet) → AreParts ps qs riding flying met →
    IsTrue (falls (all_cells ps qs met) i) →
    q ≡ slice_index_or qs (i - 1) q → Drops ps qs met i q
drops ps qs riding flying met i q h c e =
    let cells = all_cells ps qs met in
    let n = count-read ps qs riding flying met h in
    let low = falls-low cells i c in
    let high = falls-within cells i c in
    let is = packet-read ps qs riding flying met i q h (omega arith) (omega arith) e in
    record {
      low = low;
      within = omega arith;
      is = is;
      flies = some_packet q (subst (λ (o : Option Packet). IsSome o) (sym is) (falls-result cells i c));
    }

sinks : (ps : List (Option Passenger)) (qs : List (Option Packet)) (riding flying met i : ℕ) → AreParts ps qs riding flying met →
    IsTrue (falls (all_cells ps qs met) i) → Bits flying met (i - 1) (i - 2)
sinks ps qs riding flying met i h c =
    let cells = all_cells ps qs met in
    let n = count-read ps qs riding flying met h in
    let low = falls-low cells i c in
    let high = falls-within cells i c in
    let here : suc (i - 1) ≡ i = omega arith in
    let below : suc (i - 2) ≡ i - 1 = omega arith in
    let clear = ap (λ (j : ℕ). on (cell_at cells j) false (λ d. is_some d.packet)) below ∙ falls-room cells i c in
    let none = not_met cells (suc (i - 2)) (cell_at cells (suc (i - 2))) (λ d. is_some d.packet) h.cells refl result_met clear in
    record {
      small = rw h.packet_bits (word-small _ (length cells) (omega (arith, h.most)));
      set = bit-of (λ d. is_some d.packet) cells flying (i - 1) h.packet_bits (omega arith)
          ∙ ap (λ (j : ℕ). on (cell_at cells j) false (λ d. is_some d.packet)) here ∙ result-some (cell_at cells i) (falls-result cells i c);
      clear = bit-of (λ d. is_some d.packet) cells flying (i - 2) h.packet_bits (omega arith) ∙ clear;
      unmet = unmet_there met (i - 1) (i - 2) (omega (arith, h.most)) (omega (arith, h.most)) (λ g. absurd (omega arith))
          (rw h.met_bits (word-small _ (length cells) (omega (arith, h.most)))) (bit-of (λ d. d.met) cells met (i - 2) h.met_bits (omega arith) ∙ none);
    }

pub dropped-parts : (ps : List (Option Passenger)) (qs : List (Option Packet)) (riding flying met flying1 met1 i : ℕ) (q : Option Packet) →
    AreParts ps qs riding flying met → IsTrue (falls (all_cells ps qs met) i) →
    q ≡ slice_index_or qs (i - 1) q → flying1 ≡ with_bit (with_bit flying (i - 1) false) (i - 2) true →
    met1 ≡ with_bit met (i - 1) false →
    AreParts ps (slice_set (slice_set qs (i - 1) None) (i - 2) q) riding flying1 met1
dropped-parts ps qs riding flying met flying1 met1 i q h c e f m =
    let l = drops ps qs riding flying met i q h c e in
    let j : i - 1 - 1 ≡ i - 2 = omega (arith, l.low) in
    let still : met1 ≡ with_bit (with_bit met (i - 1) false) (i - 1 - 1) false = rw j (m ∙ sym (sinks ps qs riding flying met i h c).unmet) in
    let one = packet-parts ps qs riding flying met (with_bit flying (i - 1) false) (with_bit met (i - 1) false) i None false false h
    (omega (arith, l.low)) l.within (λ g. absurd (cc)) (λ g. absurd (cc)) refl refl refl in
    let two = packet-parts ps (slice_set qs (i - 1) None) riding (with_bit flying (i - 1) false) (with_bit met (i - 1) false) flying1 met1
    (i - 1) q false true one (omega (arith, l.low)) (omega (arith, l.within)) (λ g. absurd (cc)) (λ g. absurd (cc)) l.flies (rw j f) still in
    rw j at two

pub dropped-is : (ps : List (Option Passenger)) (qs : List (Option Packet)) (riding flying met met1 i : ℕ) (q : Option Packet) →
    AreParts ps qs riding flying met → IsTrue (falls (all_cells ps qs met) i) →
    q ≡ slice_index_or qs (i - 1) q → met1 ≡ with_bit met (i - 1) false →
    all_cells ps (slice_set (slice_set qs (i - 1) None) (i - 2) q) met1 ≡ cells_fallen (all_cells ps qs met) i
dropped-is ps qs riding flying met met1 i q h c e m =
    let l = drops ps qs riding flying met i q h c e in
    let j : i - 1 - 1 ≡ i - 2 = omega (arith, l.low) in
    let still : met1 ≡ with_bit (with_bit met (i - 1) false) (i - 1 - 1) false = rw j (m ∙ sym (sinks ps qs riding flying met i h c).unmet) in
    let one = packet-parts ps qs riding flying met (with_bit flying (i - 1) false) (with_bit met (i - 1) false) i None false false h
    (omega (arith, l.low)) l.within (λ g. absurd (cc)) (λ g. absurd (cc)) refl refl refl in
    let first = packet-placed ps qs riding flying met (with_bit met (i - 1) false) i None false h (omega (arith, l.low)) l.within refl in
    let second = packet-placed ps (slice_set qs (i - 1) None) riding (with_bit flying (i - 1) false) (with_bit met (i - 1) false) met1 (i - 1) q false one
    (omega (arith, l.low)) (omega (arith, l.within)) still in
    ap (λ (k : ℕ). all_cells ps (slice_set (slice_set qs (i - 1) None) k q) met1) (sym j)
    ∙ second
    ∙ ap (λ (cells : List Cell). changed cells (i - 1) (with_place q false)) first
    ∙ fallen-is (all_cells ps qs met) i q c l.is

-- the bits of a stage that a result leaves, and of the one below
pub sinking-set : (ps : List (Option Passenger)) (qs : List (Option Packet)) (riding flying met i : ℕ) → AreParts ps qs riding flying met →
    IsTrue (falls (all_cells ps qs met) i) → has_bit flying (i - 1) ≡ true
sinking-set ps qs riding flying met i h c = (sinks ps qs riding flying met i h c).set

pub sinking-clear : (ps : List (Option Passenger)) (qs : List (Option Packet)) (riding flying met i : ℕ) → AreParts ps qs riding flying met →
    IsTrue (falls (all_cells ps qs met) i) → has_bit flying (i - 2) ≡ false
sinking-clear ps qs riding flying met i h c = (sinks ps qs riding flying met i h c).clear
