-- What is read of the entries of the pipes by the bit words.
use Rattle.std.proofs.Common.{◌≡◌, ◌∙◌, ℕ, suc, ◌-◌, ◌<◌, ◌≤◌, List, All, Option, Some, None, Bool, true, false, length, refl, sym, ap, arith}
use Rattle.std.specs.Bool.{then_some}
use Rattle.std.specs.Prelude.{IsSome, slice_index_or}
use Rattle.std.proofs.lemmas.Option.{get_or_from_slice_get}
use Rattle.cf_bind.specs.declared.cell.Cell.{Cell}
use Rattle.cf_bind.specs.declared.packet.Packet.{Packet}
use Rattle.cf_bind.specs.declared.passenger.Passenger.{Passenger}
use Rattle.cf_layout.specs.Words.{has_bit}
use Rattle.cf_semantics.specs.state.Options.{on, is_some}
use Rattle.cf_semantics.specs.state.State.{cell_at}
use Rattle.cf_stages.specs.Changes.{IsCell, has_met_at, packet_at, passenger_at}
use Rattle.cf_stages.specs.Parts.{AreStages, held, stages_of}
use Rattle.cf_stages.proofs.Cells.{cell-in}
use Rattle.cf_stages.proofs.Held.{get-held, length-held}
use Rattle.cf_stages.proofs.Kept.{at_index, count-read, few-read, least-read, packet-read, passenger-read, pipes-read, stage-ridden}
use Rattle.cf_stages.proofs.Lifted.{bit-of}
use Rattle.cf_stages.proofs.Parts.{stage-high, stage-low, stood}

-- there are as many stages as entries in each pipe
pub entries-count : (ps : List Passenger) (qs : List Packet) (riding flying met : ℕ) → AreStages ps qs riding flying met →
    length (stages_of ps qs riding flying met) ≡ length ps
entries-count ps qs riding flying met h = count-read _ _ _ _ _ h ∙ length-held riding ps

pub results-count : (ps : List Passenger) (qs : List Packet) (riding flying met : ℕ) → AreStages ps qs riding flying met →
    length (stages_of ps qs riding flying met) ≡ length qs
results-count ps qs riding flying met h = pipes-read _ _ _ _ _ h ∙ length-held flying qs

-- a stage of those that are seen has its entry in each pipe
pub within-entries : (ps : List Passenger) (qs : List Packet) (riding flying met i : ℕ) (now : List Cell) → AreStages ps qs riding flying met →
    stages_of ps qs riding flying met ≡ now → i ≤ length now → i ≤ length ps
within-entries ps qs riding flying met i now h e within = let n = entries-count ps qs riding flying met h in let m = ap length e in omega arith

pub seen-within : (cells now : List Cell) (i : ℕ) → cells ≡ now → i ≤ length now → i ≤ length cells
seen-within cells now i e within = let m = ap length e in omega arith

-- the bits of a stage say what is there
rider_on : (o : Option Cell) → on o false (λ c. is_some c.passenger) ≡ is_some (on o None (λ c. c.passenger))
rider_on None = refl
rider_on (Some c) = refl

result_on : (o : Option Cell) → on o false (λ c. is_some c.packet) ≡ is_some (on o None (λ c. c.packet))
result_on None = refl
result_on (Some c) = refl

pub riding-bit : (ps : List Passenger) (qs : List Packet) (riding flying met i : ℕ) → AreStages ps qs riding flying met → 0 < i →
    i ≤ length (stages_of ps qs riding flying met) → has_bit riding (i - 1) ≡ is_some (passenger_at (stages_of ps qs riding flying met) i)
riding-bit ps qs riding flying met i h low within =
    let cells = stages_of ps qs riding flying met in
    let here : suc (i - 1) ≡ i = omega arith in
    bit-of (λ c. is_some c.passenger) cells riding (i - 1) h.passenger_bits (omega arith)
    ∙ ap (λ (j : ℕ). on (cell_at cells j) false (λ c. is_some c.passenger)) here ∙ rider_on (cell_at cells i)

pub flying-bit : (ps : List Passenger) (qs : List Packet) (riding flying met i : ℕ) → AreStages ps qs riding flying met → 0 < i →
    i ≤ length (stages_of ps qs riding flying met) → has_bit flying (i - 1) ≡ is_some (packet_at (stages_of ps qs riding flying met) i)
flying-bit ps qs riding flying met i h low within =
    let cells = stages_of ps qs riding flying met in
    let here : suc (i - 1) ≡ i = omega arith in
    bit-of (λ c. is_some c.packet) cells flying (i - 1) h.packet_bits (omega arith)
    ∙ ap (λ (j : ℕ). on (cell_at cells j) false (λ c. is_some c.packet)) here ∙ result_on (cell_at cells i)

pub met-bit : (ps : List Passenger) (qs : List Packet) (riding flying met i : ℕ) → AreStages ps qs riding flying met → 0 < i →
    i ≤ length (stages_of ps qs riding flying met) → has_bit met (i - 1) ≡ has_met_at (stages_of ps qs riding flying met) i
met-bit ps qs riding flying met i h low within =
    let cells = stages_of ps qs riding flying met in
    let here : suc (i - 1) ≡ i = omega arith in
    bit-of (λ c. c.met) cells met (i - 1) h.met_bits (omega arith) ∙ ap (λ (j : ℕ). on (cell_at cells j) false (λ c. c.met)) here

-- an entry holds what is in its stage
pub passenger-held : (ps : List Passenger) (qs : List Packet) (riding flying met i : ℕ) (p : Passenger) → AreStages ps qs riding flying met → 0 < i →
    i ≤ length (stages_of ps qs riding flying met) → p ≡ slice_index_or ps (i - 1) p →
    then_some (has_bit riding (i - 1)) p ≡ passenger_at (stages_of ps qs riding flying met) i
passenger-held ps qs riding flying met i p h low within e =
    let n = entries-count ps qs riding flying met h in
    let m = count-read _ _ _ _ _ h in
    let o = then_some (has_bit riding (i - 1)) p in
    let g = get-held riding (i - 1) ps p (at_index ps (i - 1) p (omega arith) e) in
    passenger-read _ _ _ _ _ i o h low (omega arith) (sym (get_or_from_slice_get (held riding ps) (i - 1) o o g))

pub packet-held : (ps : List Passenger) (qs : List Packet) (riding flying met i : ℕ) (q : Packet) → AreStages ps qs riding flying met → 0 < i →
    i ≤ length (stages_of ps qs riding flying met) → q ≡ slice_index_or qs (i - 1) q →
    then_some (has_bit flying (i - 1)) q ≡ packet_at (stages_of ps qs riding flying met) i
packet-held ps qs riding flying met i q h low within e =
    let n = results-count ps qs riding flying met h in
    let m = count-read _ _ _ _ _ h in
    let o = then_some (has_bit flying (i - 1)) q in
    let g = get-held flying (i - 1) qs q (at_index qs (i - 1) q (omega arith) e) in
    packet-read _ _ _ _ _ i o h low (omega arith) (sym (get_or_from_slice_get (held flying qs) (i - 1) o o g))

-- if something is there, it is what the entry holds
some_held : {X : Type 0} (b : Bool) (x : X) (o : Option X) → then_some b x ≡ o → IsSome o → Some x ≡ o
some_held true x o e some = e
some_held false x None e some = absurd (cc)
some_held false x (Some y) e some = absurd (cc)

-- the stage of a result exists
pub stage-flown : (cells : List Cell) (i : ℕ) → IsSome (packet_at cells i) → (0 < i) × (i ≤ length cells)
stage-flown cells i flies = by (cell_at cells i) refl flies
  where
    by : (o : Option Cell) → cell_at cells i ≡ o → IsSome (on o None (λ c. c.packet)) → (0 < i) × (i ≤ length cells)
    by None here flies = absurd (cc)
    by (Some c) here flies = (stage-low cells i c here, stage-high cells i c here)

pub passenger-entry : (ps : List Passenger) (qs : List Packet) (riding flying met i : ℕ) (p : Passenger) → AreStages ps qs riding flying met →
    IsSome (passenger_at (stages_of ps qs riding flying met) i) → p ≡ slice_index_or ps (i - 1) p →
    Some p ≡ passenger_at (stages_of ps qs riding flying met) i
passenger-entry ps qs riding flying met i p h rides e =
    let stage = stage-ridden (stages_of ps qs riding flying met) i rides in
    some_held (has_bit riding (i - 1)) p _ (passenger-held ps qs riding flying met i p h stage.0 stage.1 e) rides

pub packet-entry : (ps : List Passenger) (qs : List Packet) (riding flying met i : ℕ) (q : Packet) → AreStages ps qs riding flying met →
    IsSome (packet_at (stages_of ps qs riding flying met) i) → q ≡ slice_index_or qs (i - 1) q →
    Some q ≡ packet_at (stages_of ps qs riding flying met) i
packet-entry ps qs riding flying met i q h flies e =
    let stage = stage-flown (stages_of ps qs riding flying met) i flies in
    some_held (has_bit flying (i - 1)) q _ (packet-held ps qs riding flying met i q h stage.0 stage.1 e) flies

-- its bit is set
some_set : {X : Type 0} (o : Option X) → IsSome o → is_some o ≡ true
some_set None some = absurd (cc)
some_set (Some x) some = refl

pub riding-set : (ps : List Passenger) (qs : List Packet) (riding flying met i : ℕ) → AreStages ps qs riding flying met →
    IsSome (passenger_at (stages_of ps qs riding flying met) i) → has_bit riding (i - 1) ≡ true
riding-set ps qs riding flying met i h rides =
    let stage = stage-ridden (stages_of ps qs riding flying met) i rides in
    riding-bit ps qs riding flying met i h stage.0 stage.1 ∙ some_set _ rides

pub flying-set : (ps : List Passenger) (qs : List Packet) (riding flying met i : ℕ) → AreStages ps qs riding flying met →
    IsSome (packet_at (stages_of ps qs riding flying met) i) → has_bit flying (i - 1) ≡ true
flying-set ps qs riding flying met i h flies =
    let stage = stage-flown (stages_of ps qs riding flying met) i flies in
    flying-bit ps qs riding flying met i h stage.0 stage.1 ∙ some_set _ flies

-- where nothing is, nothing is read
pub none-of : {X : Type 0} (o : Option X) → is_some o ≡ false → None ≡ o
none-of None e = refl
none-of (Some x) e = absurd (cc)

-- what was read of a stage is what is in it
pub cell-of : (cells : List Cell) (i : ℕ) → 0 < i → i ≤ length cells →
    Some (record { passenger = passenger_at cells i; packet = packet_at cells i; met = has_met_at cells i }) ≡ cell_at cells i
cell-of cells i low within = let s = stood cells i low within in rw s.1 refl

-- it has met only if both were read
pub is-cell : (cells : List Cell) (i : ℕ) (p : Option Passenger) (q : Option Packet) (b : Bool) → All IsCell cells → 0 < i → i ≤ length cells →
    p ≡ passenger_at cells i → q ≡ packet_at cells i → b ≡ has_met_at cells i → IsCell (record { passenger = p; packet = q; met = b })
is-cell cells i p q b all low within e f g = cell-in cells i _ all (sym (cell-of cells i low within) ∙ rw (e, f, g) refl)

pub ruleset entries = (entries-count, results-count, count-read, pipes-read, least-read, few-read, riding-bit, flying-bit)

pub ruleset reading = (
  entries-count,
  results-count,
  few-read,
  riding-bit,
  flying-bit,
  met-bit,
  passenger-entry,
  packet-entry,
  packet-held,
  stage-ridden,
  stage-flown,
  none-of,
  cell-of,
)
