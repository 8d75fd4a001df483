-- The earlier contents of a stage are put back, the instruction first.
use Rattle.std.proofs.Common.{◌≡◌, ◌∙◌, ℕ, ◌<◌, ◌≤◌, List, Option, Some, None, IsTrue, length, refl}
use Rattle.std.specs.Prelude.{IsSome, ◌&&◌}
use Rattle.cf_bind.specs.declared.cell.Cell.{Cell}
use Rattle.cf_bind.specs.declared.packet.Packet.{Packet}
use Rattle.cf_bind.specs.declared.passenger.Passenger.{Passenger}
use Rattle.cf_semantics.specs.state.Options.{is_some}
use Rattle.cf_semantics.specs.state.State.{cell_at, put_cell}
use Rattle.cf_stages.specs.Changes.{IsCell, changed, passenger_at, with_new_passenger}
use Rattle.cf_stages.specs.Parts.{with_place}
use Rattle.cf_stages.proofs.Parts.{cell-put, put-put, stood}

changed_there : (cells : List Cell) (i : ℕ) (c : Cell) (f : Cell → Cell) → cell_at cells i ≡ Some c → changed cells i f ≡ put_cell cells i (f c)
changed_there cells i c f here = rw here refl

pub stage-returned : (cells : List Cell) (i : ℕ) (c : Cell) → 0 < i → i ≤ length cells → changed (changed cells i (with_new_passenger c.passenger)) i
    (with_place c.packet c.met) ≡ put_cell cells i c
stage-returned cells i c low within =
    let s = stood cells i low within in
    let first = changed_there cells i s.0 (with_new_passenger c.passenger) s.1 in
    let there = cell-put cells i (with_new_passenger c.passenger s.0) low within in
    rw first (changed_there (put_cell cells i (with_new_passenger c.passenger s.0)) i _ (with_place c.packet c.met) there ∙ put-put cells i _ c)

pub passenger-returned : (cells : List Cell) (i : ℕ) (c : Cell) → 0 < i → i ≤ length cells → IsCell c → IsTrue c.met →
    IsSome (passenger_at (changed cells i (with_new_passenger c.passenger)) i)
passenger-returned cells i c low within one met =
    let s = stood cells i low within in
    let first = changed_there cells i s.0 (with_new_passenger c.passenger) s.1 in
    let there = cell-put cells i (with_new_passenger c.passenger s.0) low within in
    rw (first, there) (by c.passenger c.packet (one met))
  where
    by : (p : Option Passenger) (q : Option Packet) → IsTrue (is_some p && is_some q) → IsSome p
    by None q h = absurd (cc)
    by (Some p) q h = refl

pub packet-returned : (c : Cell) → IsCell c → IsTrue c.met → IsTrue (is_some c.packet)
packet-returned c one met = by c.passenger c.packet (one met)
  where
    by : (p : Option Passenger) (q : Option Packet) → IsTrue (is_some p && is_some q) → IsTrue (is_some q)
    by None q h = absurd (cc)
    by (Some p) None h = absurd (cc)
    by (Some p) (Some q) h = refl

pub ruleset returning = (stage-returned, passenger-returned, packet-returned)
