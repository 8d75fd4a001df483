-- A stage after its instruction and its result have met.
use Rattle.std.proofs.Common.{◌≡◌, ◌∙◌, ℕ, zero, suc, List, Option, Some, None, Bool, false, refl, sym, subst, IsTrue, ap}
use Rattle.std.specs.Prelude.{IsSome, ◌&&◌, not}
use Rattle.std.proofs.lemmas.List.{set-set}
use Rattle.cf_bind.specs.Meeting.{meeting}
use Rattle.cf_bind.specs.declared.cell.Cell.{Cell}
use Rattle.cf_bind.specs.declared.packet.Packet.{Packet}
use Rattle.cf_bind.specs.declared.passenger.Passenger.{Passenger}
use Rattle.cf_semantics.specs.moves.Bars.{is_full}
use Rattle.cf_semantics.specs.moves.Moves.{with_passenger}
use Rattle.cf_semantics.specs.state.Options.{on, is_some}
use Rattle.cf_semantics.specs.state.State.{cell_at, put_cell}
use Rattle.cf_stages.specs.Changes.{changed, is_full_at, met_in, packet_at, passenger_at, rider_met}
use Rattle.cf_stages.specs.Parts.{with_place}
use Rattle.cf_stages.proofs.Parts.{cell-put, stage-high, stage-low}

put_twice : (cells : List Cell) (i : ℕ) (c d : Cell) → put_cell (put_cell cells i c) i d ≡ put_cell cells i d
put_twice cells zero c d = refl
put_twice cells (suc k) c d = set-set cells k c d

-- the instruction that has met the result is what the meeting makes of the one that was there
pub rider-met-is : (cells : List Cell) (i : ℕ) (p q : Passenger) (k : Packet) → Some p ≡ passenger_at cells i → q ≡ (meeting p k).passenger →
    changed cells i (λ c. with_passenger c q) ≡ changed cells i (rider_met k)
rider-met-is cells i p q k rides e = by (cell_at cells i) rides
  where
    by : (o : Option Cell) → Some p ≡ on o None (λ c. c.passenger) → on o cells (λ c. put_cell cells i (with_passenger c q))
        ≡ on o cells (λ c. put_cell cells i (rider_met k c))
    by None here = absurd (cc)
    by (Some b) here = rw (← here, e) refl

pub left-is : (cells : List Cell) (i : ℕ) (p : Passenger) (k : Packet) (left : Option Packet) → Some p ≡ passenger_at cells i → left ≡ (meeting p k).packet →
    left ≡ on (passenger_at cells i) None (λ r. (meeting r k).packet)
left-is cells i p k left rides e = rw (← rides) e

-- the stage then holds it and what is left of the result
met_there : (cells : List Cell) (i : ℕ) (b : Cell) (k : Packet) (left : Option Packet) (met : Bool) (o : Option Passenger) → cell_at cells i ≡ Some b →
    b.passenger ≡ o → IsTrue (is_some o) → b.packet ≡ Some k →
    left ≡ on o None (λ r. (meeting r k).packet) → met ≡ is_some left →
    changed (changed cells i (rider_met k)) i (with_place left met) ≡ changed cells i met_in
met_there cells i b k left met None here rides some flies f g = absurd (cc)
met_there cells i b k left met (Some p) here rides some flies f g =
    let there = cell-put cells i (rider_met k b) (stage-low cells i b here) (stage-high cells i b here) in
    rw (here, there, put_twice cells i (rider_met k b) (with_place left met (rider_met k b)), g, f, rides, flies) refl

both_there : (p : Option Passenger) (b c : Bool) → IsTrue (is_some p && b && not c) → IsTrue (is_some p)
both_there None b c h = absurd (cc)
both_there (Some p) b c h = refl

pub met-is : (cells : List Cell) (i : ℕ) (k : Packet) (left : Option Packet) (met : Bool) → IsTrue (is_full_at cells i) → Some k ≡ packet_at cells i →
    left ≡ on (passenger_at cells i) None (λ r. (meeting r k).packet) → met ≡ is_some left →
    changed (changed cells i (rider_met k)) i (with_place left met) ≡ changed cells i met_in
met-is cells i k left met full flies f g = by_cell (cell_at cells i) refl
  where
    by_cell : (o : Option Cell) → cell_at cells i ≡ o → changed (changed cells i (rider_met k)) i (with_place left met) ≡ changed cells i met_in
    by_cell None here = let n : Some k ≡ None = flies ∙ ap (λ (o : Option Cell). on o None (λ c. c.packet)) here in absurd (cc)
    by_cell (Some b) here =
        let full_here : IsTrue (is_full b) = subst (λ (o : Option Cell). IsTrue (on o false is_full)) here full in
        met_there cells i b k left met b.passenger here refl (both_there b.passenger (is_some b.packet) b.met full_here)
        (sym (flies ∙ ap (λ (o : Option Cell). on o None (λ c. c.packet)) here))
        (f ∙ ap (λ (o : Option Cell). on (on o None (λ c. c.passenger)) None (λ r. (meeting r k).packet)) here) g

pub rider-there : (cells : List Cell) (i : ℕ) → IsTrue (is_full_at cells i) → IsSome (passenger_at cells i)
rider-there cells i full = by (cell_at cells i) full
  where
    by : (o : Option Cell) → IsTrue (on o false is_full) → IsSome (on o None (λ c. c.passenger))
    by None full = absurd (cc)
    by (Some b) full = some_of b.passenger (both_there b.passenger (is_some b.packet) b.met full)
      where
        some_of : (o : Option Passenger) → IsTrue (is_some o) → IsSome o
        some_of None h = absurd (cc)
        some_of (Some p) h = refl

pub result-there : (cells : List Cell) (i : ℕ) → IsTrue (is_full_at cells i) → IsSome (packet_at cells i)
result-there cells i full = by (cell_at cells i) full
  where
    by : (o : Option Cell) → IsTrue (on o false is_full) → IsSome (on o None (λ c. c.packet))
    by None full = absurd (cc)
    by (Some b) full = some_of b.passenger b.packet b.met full
      where
        some_of : (p : Option Passenger) (q : Option Packet) (met : Bool) → IsTrue (is_some p && is_some q && not met) → IsSome q
        some_of None q met h = absurd (cc)
        some_of (Some p) None met h = absurd (cc)
        some_of (Some p) (Some k) met h = refl

pub ruleset meeting_ones = (rider-there, result-there)

pub none-there : (o : Option Passenger) → o ≡ None → IsSome o → ⊥
none-there None e some = absurd (cc)
none-there (Some p) e some = absurd (cc)
