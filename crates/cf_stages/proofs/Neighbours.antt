-- Two stages are changed one after the other.
use Rattle.std.proofs.Common.{◌≡◌, ◌≢◌, ◌∙◌, ℕ, ◌+◌, ◌-◌, ◌<◌, ◌≤◌, List, Option, Some, None, false, IsTrue, length, refl, sym, ap, arith}
use Rattle.std.specs.Prelude.{IsNone, IsSome}
use Rattle.cf_bind.specs.declared.cell.Cell.{Cell}
use Rattle.cf_bind.specs.declared.packet.Packet.{Packet}
use Rattle.cf_bind.specs.declared.passenger.Passenger.{Passenger}
use Rattle.cf_semantics.specs.state.Options.{on, is_some}
use Rattle.cf_semantics.specs.state.State.{cell_at, put_cell}
use Rattle.cf_semantics.specs.moves.Moves.{without_passenger, without_packet}
use Rattle.cf_stages.specs.Changes.{can_climb, can_fall, changed, passenger_at, packet_at, cells_lifted, cells_fallen, climbs, falls, with_new_passenger, with_new_packet}
use Rattle.cf_stages.specs.Parts.{with_place}
use Rattle.cf_stages.proofs.Cells.{length-put}
use Rattle.cf_stages.proofs.Parts.{cell-put-other, stage-low, stage-high, stood}

-- the contents of two different stages are changed
two_changed : (cells : List Cell) (i j : ℕ) (c d : Cell) (f g : Cell → Cell) → j ≢ i → cell_at cells i ≡ Some c → cell_at cells j ≡ Some d →
    changed (changed cells i f) j g ≡ put_cell (put_cell cells i (f c)) j (g d)
two_changed cells i j c d f g off here there =
    let e = cell-put-other cells i j (f c) off ∙ there in
    rw here (rw e refl)

pub lifted-there : (cells : List Cell) (i j : ℕ) (c d : Cell) → cell_at cells i ≡ Some c → cell_at cells j ≡ Some d →
    cells_lifted cells i j ≡ put_cell (put_cell cells i (without_passenger c)) j (with_new_passenger c.passenger d)
unfolding cells_lifted
lifted-there cells i j c d here there = rw (here, there) refl

fallen_there : (cells : List Cell) (i : ℕ) (c d : Cell) → cell_at cells i ≡ Some c → cell_at cells (i - 1) ≡ Some d →
    cells_fallen cells i ≡ put_cell (put_cell cells i (without_packet c)) (i - 1) (with_new_packet c.packet d)
unfolding cells_fallen
fallen_there cells i c d here there = rw (here, there) refl

-- the two stages of a move up
record Climbs (cells : List Cell) (i : ℕ) : Type 0 where
  from : Cell
  to : Cell
  here : cell_at cells i ≡ Some from
  there : cell_at cells (i + 1) ≡ Some to

climbs_as : (cells : List Cell) (i : ℕ) (o q : Option Cell) → cell_at cells i ≡ o → cell_at cells (i + 1) ≡ q → IsTrue (on o false (λ c. can_climb c q)) →
    Climbs cells i
climbs_as cells i None q e f h = absurd (cc)
climbs_as cells i (Some c) None e f h = absurd (cc)
climbs_as cells i (Some c) (Some d) e f h = record { from = c; to = d; here = e; there = f }

climbs_from : (cells : List Cell) (i : ℕ) → IsTrue (climbs cells i) → Climbs cells i
unfolding climbs
climbs_from cells i h = climbs_as cells i (cell_at cells i) (cell_at cells (i + 1)) refl refl h

pub climbs-low : (cells : List Cell) (i : ℕ) → IsTrue (climbs cells i) → 0 < i
climbs-low cells i h = let r = climbs_from cells i h in stage-low cells i r.from r.here

pub climbs-high : (cells : List Cell) (i : ℕ) → IsTrue (climbs cells i) → i + 1 ≤ length cells
climbs-high cells i h = let r = climbs_from cells i h in stage-high cells (i + 1) r.to r.there

pub climbs-rider : (cells : List Cell) (i : ℕ) → IsTrue (climbs cells i) → IsSome (passenger_at cells i)
unfolding climbs
climbs-rider cells i h = rider_by (cell_at cells i) (cell_at cells (i + 1)) h
  where
    rider_by : (o q : Option Cell) → IsTrue (on o false (λ c. can_climb c q)) → IsSome (on o None (λ c. c.passenger))
    rider_by None q g = absurd (cc)
    rider_by (Some c) None g = absurd (cc)
    rider_by (Some c) (Some d) g = grind arith

pub climbs-room : (cells : List Cell) (i : ℕ) → IsTrue (climbs cells i) → IsNone (passenger_at cells (i + 1))
unfolding climbs
climbs-room cells i h = room_by (cell_at cells i) (cell_at cells (i + 1)) h
  where
    room_by : (o q : Option Cell) → IsTrue (on o false (λ c. can_climb c q)) → IsNone (on q None (λ c. c.passenger))
    room_by None q g = absurd (cc)
    room_by (Some c) None g = absurd (cc)
    room_by (Some c) (Some d) g = grind arith

pub ruleset climbing = (climbs-low, climbs-high, climbs-rider, climbs-room)

-- the instruction leaves its stage first, and then it is put into the other
pub lifted-is : (cells : List Cell) (i j : ℕ) (p : Option Passenger) → 0 < i → i < j → j ≤ length cells → p ≡ passenger_at cells i →
    changed (changed cells i (with_new_passenger None)) j (with_new_passenger p) ≡ cells_lifted cells i j
lifted-is cells i j p low order within e =
    let from = stood cells i low (omega arith) in
    let to = stood cells j (omega arith) within in
    let rides : p ≡ from.0.passenger = e ∙ ap (λ (o : Option Cell). on o None (λ c. c.passenger)) from.1 in
    rw rides (two_changed cells i j from.0 to.0 (with_new_passenger None) (with_new_passenger from.0.passenger) (λ g. absurd (omega arith)) from.1 to.1
    ∙ sym (lifted-there cells i j from.0 to.0 from.1 to.1))

-- the two stages of a move down
record Falls (cells : List Cell) (i : ℕ) : Type 0 where
  from : Cell
  to : Cell
  here : cell_at cells i ≡ Some from
  there : cell_at cells (i - 1) ≡ Some to

falls_as : (cells : List Cell) (i : ℕ) (o q : Option Cell) → cell_at cells i ≡ o → cell_at cells (i - 1) ≡ q → IsTrue (on o false (λ c. can_fall c q)) →
    Falls cells i
falls_as cells i None q e f h = absurd (cc)
falls_as cells i (Some c) None e f h = absurd (cc)
falls_as cells i (Some c) (Some d) e f h = record { from = c; to = d; here = e; there = f }

falls_from : (cells : List Cell) (i : ℕ) → IsTrue (falls cells i) → Falls cells i
unfolding falls
falls_from cells i h = falls_as cells i (cell_at cells i) (cell_at cells (i - 1)) refl refl h

pub falls-low : (cells : List Cell) (i : ℕ) → IsTrue (falls cells i) → 1 < i
falls-low cells i h = let r = falls_from cells i h in let e = stage-low cells (i - 1) r.to r.there in omega arith

pub falls-within : (cells : List Cell) (i : ℕ) → IsTrue (falls cells i) → i ≤ length cells
falls-within cells i h = let r = falls_from cells i h in stage-high cells i r.from r.here

-- as many stages as before
pub fallen-count : (cells : List Cell) (i : ℕ) → IsTrue (falls cells i) → length (cells_fallen cells i) ≡ length cells
fallen-count cells i h =
    let r = falls_from cells i h in
    rw (fallen_there cells i r.from r.to r.here r.there) (length-put (put_cell cells i (without_packet r.from)) (i - 1) _ ∙ length-put cells i _)

pub falls-result : (cells : List Cell) (i : ℕ) → IsTrue (falls cells i) → IsSome (packet_at cells i)
unfolding falls
falls-result cells i h = result_by (cell_at cells i) (cell_at cells (i - 1)) h
  where
    result_by : (o q : Option Cell) → IsTrue (on o false (λ c. can_fall c q)) → IsSome (on o None (λ c. c.packet))
    result_by None q g = absurd (cc)
    result_by (Some c) None g = absurd (cc)
    result_by (Some c) (Some d) g = grind arith

pub falls-room : (cells : List Cell) (i : ℕ) → IsTrue (falls cells i) → on (cell_at cells (i - 1)) false (λ c. is_some c.packet) ≡ false
unfolding falls
falls-room cells i h = room_by (cell_at cells i) (cell_at cells (i - 1)) h
  where
    room_by : (o q : Option Cell) → IsTrue (on o false (λ c. can_fall c q)) → on q false (λ c. is_some c.packet) ≡ false
    room_by None q g = absurd (cc)
    room_by (Some c) None g = absurd (cc)
    room_by (Some c) (Some d) g = grind arith

pub fallen-is : (cells : List Cell) (i : ℕ) (q : Option Packet) → IsTrue (falls cells i) → q ≡ packet_at cells i →
    changed (changed cells i (with_place None false)) (i - 1) (with_place q false) ≡ cells_fallen cells i
fallen-is cells i q h e =
    let r = falls_from cells i h in
    let low = falls-low cells i h in
    let flies : q ≡ r.from.packet = e ∙ ap (λ (o : Option Cell). on o None (λ c. c.packet)) r.here in
    rw flies (two_changed cells i (i - 1) r.from r.to (with_place None false) (with_place r.from.packet false) (λ g. absurd (omega arith)) r.here r.there
    ∙ sym (fallen_there cells i r.from r.to r.here r.there))

pub ruleset falling = (falls-low, falls-within, fallen-is, fallen-count)
