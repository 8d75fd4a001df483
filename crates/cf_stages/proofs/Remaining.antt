-- What is left of a result after a meeting: it stays and has met the instruction, or it was killed.
use Rattle.std.proofs.Common.{◌≡◌, ◌∙◌, ℕ, suc, ◌-◌, ◌^◌, ◌<◌, ◌≤◌, List, Option, Some, None, Bool, true, false, IsTrue, length, refl, sym, ap, arith}
use Rattle.std.specs.Prelude.{IsSome, slice_set}
use Rattle.cf_bind.specs.declared.cell.Cell.{Cell}
use Rattle.cf_bind.specs.declared.packet.Packet.{Packet}
use Rattle.cf_bind.specs.declared.passenger.Passenger.{Passenger}
use Rattle.cf_semantics.specs.moves.Bars.{is_full}
use Rattle.cf_semantics.specs.state.Options.{on, is_some}
use Rattle.cf_semantics.specs.state.State.{cell_at}
use Rattle.cf_stages.specs.Changes.{changed, has_met_at, is_full_at, packet_at, passenger_at, rider_met}
use Rattle.cf_stages.specs.Parts.{AreParts, all_cells, with_place}
use Rattle.cf_stages.specs.Words.{with_bit}
use Rattle.cf_stages.proofs.Bits.{word-small}
use Rattle.cf_stages.proofs.Carries.{bit-kept}
use Rattle.cf_stages.proofs.Kept.{count-read, packet-parts, packet-placed}
use Rattle.cf_stages.proofs.Lifted.{bit-of, result-some}
use Rattle.cf_stages.proofs.Parts.{cell-put, stage-high, stage-low}

-- it stays: its bit is set already
pub staying-parts : (ps : List (Option Passenger)) (qs : List (Option Packet)) (riding flying met met1 i : ℕ) (q : Packet) →
    AreParts ps qs riding flying met → 0 < i → i ≤ length ps → IsSome (packet_at (all_cells ps qs met) i) → IsSome (passenger_at (all_cells ps qs met) i) →
    met1 ≡ with_bit met (i - 1) true → AreParts ps (slice_set qs (i - 1) (Some q)) riding flying met1
staying-parts ps qs riding flying met met1 i q h low within flies rides m =
    let cells = all_cells ps qs met in
    let n = count-read ps qs riding flying met h in
    let here : suc (i - 1) ≡ i = omega arith in
    let set = bit-of (λ d. is_some d.packet) cells flying (i - 1) h.packet_bits (omega arith)
    ∙ ap (λ (j : ℕ). on (cell_at cells j) false (λ d. is_some d.packet)) here ∙ result-some (cell_at cells i) flies in
    let small : flying < 2 ^ 32 = rw h.packet_bits (word-small _ (length cells) (omega (arith, h.most))) in
    packet-parts ps qs riding flying met flying met1 i (Some q) true true h low within (λ g. refl) (λ g. rides) refl
    (sym (bit-kept flying (i - 1) true (omega (arith, h.most)) small set)) m

pub staying-placed : (ps : List (Option Passenger)) (qs : List (Option Packet)) (riding flying met met1 i : ℕ) (q : Packet) →
    AreParts ps qs riding flying met → 0 < i → i ≤ length ps → met1 ≡ with_bit met (i - 1) true →
    all_cells ps (slice_set qs (i - 1) (Some q)) met1 ≡ changed (all_cells ps qs met) i (with_place (Some q) true)
staying-placed ps qs riding flying met met1 i q h low within m = packet-placed ps qs riding flying met met1 i (Some q) true h low within m

-- it was killed: the two had not met
kept_clear : (ps : List (Option Passenger)) (qs : List (Option Packet)) (riding flying met i : ℕ) → AreParts ps qs riding flying met → 0 < i → i ≤ length ps →
    has_met_at (all_cells ps qs met) i ≡ false → met ≡ with_bit met (i - 1) false
kept_clear ps qs riding flying met i h low within unmet =
    let cells = all_cells ps qs met in
    let n = count-read ps qs riding flying met h in
    let here : suc (i - 1) ≡ i = omega arith in
    let clear = bit-of (λ d. d.met) cells met (i - 1) h.met_bits (omega arith) ∙ ap (λ (j : ℕ). on (cell_at cells j) false (λ d. d.met)) here ∙ unmet in
    let small : met < 2 ^ 32 = rw h.met_bits (word-small _ (length cells) (omega (arith, h.most))) in
    sym (bit-kept met (i - 1) false (omega (arith, h.most)) small clear)

pub killed-parts : (ps : List (Option Passenger)) (qs : List (Option Packet)) (riding flying met flying1 i : ℕ) → AreParts ps qs riding flying met → 0 < i →
    i ≤ length ps → has_met_at (all_cells ps qs met) i ≡ false → flying1 ≡ with_bit flying (i - 1) false →
    AreParts ps (slice_set qs (i - 1) None) riding flying1 met
killed-parts ps qs riding flying met flying1 i h low within unmet f =
    packet-parts ps qs riding flying met flying1 met i None false false h low within (λ g. absurd (cc)) (λ g. absurd (cc)) refl f
    (kept_clear ps qs riding flying met i h low within unmet)

pub killed-placed : (ps : List (Option Passenger)) (qs : List (Option Packet)) (riding flying met i : ℕ) → AreParts ps qs riding flying met → 0 < i →
    i ≤ length ps → has_met_at (all_cells ps qs met) i ≡ false →
    all_cells ps (slice_set qs (i - 1) None) met ≡ changed (all_cells ps qs met) i (with_place None false)
killed-placed ps qs riding flying met i h low within unmet =
    packet-placed ps qs riding flying met met i None false h low within (kept_clear ps qs riding flying met i h low within unmet)

-- the stage while its instruction has met the result, and the result is still as it was
full_parts : (o : Option Cell) → IsTrue (on o false is_full) → IsSome (on o None (λ c. c.passenger)) × IsSome (on o None (λ c. c.packet))
    × (on o false (λ c. c.met) ≡ false)
full_parts None h = absurd (cc)
full_parts (Some c) h = by c.passenger c.packet c.met h
  where
    by : (p : Option Passenger) (q : Option Packet) (m : Bool) → IsTrue (is_full (record { passenger = p; packet = q; met = m })) → IsSome p × IsSome q
        × (m ≡ false)
    by None q m h = absurd (cc)
    by (Some p) None m h = absurd (cc)
    by (Some p) (Some q) true h = absurd (cc)
    by (Some p) (Some q) false h = (refl, refl, refl)

still_full : (cells : List Cell) (i : ℕ) (k : Packet) (o : Option Cell) → cell_at cells i ≡ o → IsTrue (on o false is_full) →
    IsTrue (is_full_at (changed cells i (rider_met k)) i)
still_full cells i k None e h = absurd (cc)
still_full cells i k (Some c) e h =
    let there = cell-put cells i (rider_met k c) (stage-low cells i c e) (stage-high cells i c e) in
    rw (e, there) (by c.passenger h)
  where
    by : (p : Option Passenger) → IsTrue (is_full (record c { passenger = p })) → IsTrue (is_full (rider_met k (record c { passenger = p })))
    by None g = g
    by (Some p) g = g

pub met-rider : (cells : List Cell) (i : ℕ) (k : Packet) → IsTrue (is_full_at cells i) → IsSome (passenger_at (changed cells i (rider_met k)) i)
met-rider cells i k h = (full_parts (cell_at (changed cells i (rider_met k)) i) (still_full cells i k (cell_at cells i) refl h)).0

pub met-result : (cells : List Cell) (i : ℕ) (k : Packet) → IsTrue (is_full_at cells i) → IsSome (packet_at (changed cells i (rider_met k)) i)
met-result cells i k h = (full_parts (cell_at (changed cells i (rider_met k)) i) (still_full cells i k (cell_at cells i) refl h)).1

pub not-met : (cells : List Cell) (i : ℕ) (k : Packet) → IsTrue (is_full_at cells i) → has_met_at (changed cells i (rider_met k)) i ≡ false
not-met cells i k h = (full_parts (cell_at (changed cells i (rider_met k)) i) (still_full cells i k (cell_at cells i) refl h)).2

pub ruleset staying = (staying-parts, staying-placed)

pub ruleset killing = (killed-parts, killed-placed)

pub ruleset still_there = (met-rider, met-result, not-met)
