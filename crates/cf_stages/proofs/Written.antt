-- The stages after entries of the pipes and bits of the words have changed.
use Rattle.std.proofs.Common.{◌≡◌, ◌∙◌, ℕ, ◌-◌, ◌<◌, ◌≤◌, List, Option, Some, None, Bool, true, false, IsTrue, length, refl, sym, ap, arith}
use Rattle.std.specs.Bool.{then_some}
use Rattle.std.specs.Prelude.{IsNone, IsSome, slice_index_or, slice_set}
use Rattle.std.proofs.lemmas.Option.{get_or_from_slice_get, slice_get-get_or}
use Rattle.cf_bind.specs.declared.cell.Cell.{Cell}
use Rattle.cf_bind.specs.declared.packet.Packet.{Packet}
use Rattle.cf_bind.specs.declared.passenger.Passenger.{Passenger}
use Rattle.cf_semantics.specs.moves.Moves.{with_passenger}
use Rattle.cf_stages.specs.Changes.{cells_fallen, cells_lifted, changed, falls, has_met_at, packet_at, passenger_at, with_new_passenger}
use Rattle.cf_stages.specs.Parts.{AreStages, held, stages_of, with_place}
use Rattle.cf_stages.specs.Words.{with_bit}
use Rattle.cf_stages.proofs.Entries.{entries-count, flying-set, packet-entry, passenger-entry, results-count, riding-set, stage-flown}
use Rattle.cf_stages.proofs.Held.{get-held, held-cleared, held-put, held-renewed, length-held}
use Rattle.cf_stages.proofs.Kept.{count-read, packet-parts, packet-placed, passenger-parts, passenger-placed, passenger-read, passenger-renewed, renewed-parts, stage-ridden}
use Rattle.cf_stages.proofs.Lifted.{dropped-is, dropped-parts, lifted-parts, lifted-placed, sinking-clear, sinking-set}
use Rattle.cf_stages.proofs.Neighbours.{falls-low, falls-result, falls-within}
use Rattle.cf_stages.proofs.Remaining.{killed-parts, killed-placed, staying-parts, staying-placed}

-- an instruction comes
pub came-parts : (ps : List Passenger) (qs : List Packet) (riding flying met riding1 met1 i : ℕ) (p : Passenger) → AreStages ps qs riding flying met →
    0 < i → i ≤ length ps → riding1 ≡ with_bit riding (i - 1) true → met1 ≡ with_bit met (i - 1) false →
    AreStages (slice_set ps (i - 1) p) qs riding1 flying met1
came-parts ps qs riding flying met riding1 met1 i p h low within r m =
    let n = length-held riding ps in
    rw (ap (λ (w : ℕ). held w (slice_set ps (i - 1) p)) r ∙ held-put riding (i - 1) ps p (omega arith) (omega (arith, h.most)))
    (passenger-parts _ _ riding flying met riding1 met1 i (Some p) true h low (omega arith) refl r m)

pub came-placed : (ps : List Passenger) (qs : List Packet) (riding flying met riding1 met1 i : ℕ) (p : Passenger) → AreStages ps qs riding flying met →
    0 < i → i ≤ length ps → riding1 ≡ with_bit riding (i - 1) true → met1 ≡ with_bit met (i - 1) false →
    stages_of (slice_set ps (i - 1) p) qs riding1 flying met1 ≡ changed (stages_of ps qs riding flying met) i (with_new_passenger (Some p))
came-placed ps qs riding flying met riding1 met1 i p h low within r m =
    let n = length-held riding ps in
    rw (ap (λ (w : ℕ). held w (slice_set ps (i - 1) p)) r ∙ held-put riding (i - 1) ps p (omega arith) (omega (arith, h.most)))
    (passenger-placed _ _ riding flying met met1 i (Some p) h low (omega arith) m)

-- an instruction goes
pub gone-parts : (ps : List Passenger) (qs : List Packet) (riding flying met riding1 met1 i : ℕ) → AreStages ps qs riding flying met →
    0 < i → i ≤ length ps → riding1 ≡ with_bit riding (i - 1) false → met1 ≡ with_bit met (i - 1) false → AreStages ps qs riding1 flying met1
gone-parts ps qs riding flying met riding1 met1 i h low within r m =
    let n = length-held riding ps in
    rw (ap (λ (w : ℕ). held w ps) r ∙ held-cleared riding (i - 1) ps (omega arith) (omega (arith, h.most)))
    (passenger-parts _ _ riding flying met riding1 met1 i None false h low (omega arith) refl r m)

pub gone-placed : (ps : List Passenger) (qs : List Packet) (riding flying met riding1 met1 i : ℕ) → AreStages ps qs riding flying met →
    0 < i → i ≤ length ps → riding1 ≡ with_bit riding (i - 1) false → met1 ≡ with_bit met (i - 1) false →
    stages_of ps qs riding1 flying met1 ≡ changed (stages_of ps qs riding flying met) i (with_new_passenger None)
gone-placed ps qs riding flying met riding1 met1 i h low within r m =
    let n = length-held riding ps in
    rw (ap (λ (w : ℕ). held w ps) r ∙ held-cleared riding (i - 1) ps (omega arith) (omega (arith, h.most)))
    (passenger-placed _ _ riding flying met met1 i None h low (omega arith) m)

-- an instruction is changed in its place
pub renewed-stages : (ps : List Passenger) (qs : List Packet) (riding flying met i : ℕ) (p : Passenger) → AreStages ps qs riding flying met →
    IsSome (passenger_at (stages_of ps qs riding flying met) i) → AreStages (slice_set ps (i - 1) p) qs riding flying met
renewed-stages ps qs riding flying met i p h rides =
    let stage = stage-ridden (stages_of ps qs riding flying met) i rides in
    let low = stage.0 in
    let within = stage.1 in
    let n = entries-count ps qs riding flying met h in
    let m = length-held riding ps in
    rw (held-renewed riding (i - 1) ps p (omega arith) (omega (arith, h.most)) (riding-set ps qs riding flying met i h rides))
    (renewed-parts _ _ riding flying met i p h low (omega arith) rides)

pub renewed-is : (ps : List Passenger) (qs : List Packet) (riding flying met i : ℕ) (p : Passenger) → AreStages ps qs riding flying met →
    IsSome (passenger_at (stages_of ps qs riding flying met) i) →
    stages_of (slice_set ps (i - 1) p) qs riding flying met ≡ changed (stages_of ps qs riding flying met) i (λ c. with_passenger c p)
renewed-is ps qs riding flying met i p h rides =
    let stage = stage-ridden (stages_of ps qs riding flying met) i rides in
    let low = stage.0 in
    let within = stage.1 in
    let n = entries-count ps qs riding flying met h in
    let m = length-held riding ps in
    rw (held-renewed riding (i - 1) ps p (omega arith) (omega (arith, h.most)) (riding-set ps qs riding flying met i h rides))
    (passenger-renewed _ _ riding flying met i p h low (omega arith))

-- an instruction goes from stage i to stage j
lifted_entries : (ps : List Passenger) (qs : List Packet) (riding flying met riding1 i j : ℕ) (p : Passenger) → AreStages ps qs riding flying met →
    0 < i → i < j → j ≤ length ps → IsSome (passenger_at (stages_of ps qs riding flying met) i) → p ≡ slice_index_or ps (i - 1) p →
    riding1 ≡ with_bit (with_bit riding (i - 1) false) (j - 1) true →
    held riding1 (slice_set ps (j - 1) p)
    ≡ slice_set (slice_set (held riding ps) (i - 1) None) (j - 1) (slice_index_or (held riding ps) (i - 1) None)
lifted_entries ps qs riding flying met riding1 i j p h low order within rides e r =
    let n = length-held riding ps in
    let none : Option Passenger = None in
    let there = passenger-read _ _ riding flying met i (slice_index_or (held riding ps) (i - 1) none) h low (omega arith)
    (sym (get_or_from_slice_get (held riding ps) (i - 1) _ _ (slice_get-get_or (held riding ps) (i - 1) none (omega arith)))) in
    ap (λ (w : ℕ). held w (slice_set ps (j - 1) p)) r
    ∙ held-put (with_bit riding (i - 1) false) (j - 1) ps p (omega arith) (omega (arith, h.most))
    ∙ ap (λ (l : List (Option Passenger)). slice_set l (j - 1) (Some p)) (held-cleared riding (i - 1) ps (omega arith) (omega (arith, h.most)))
    ∙ ap (λ (o : Option Passenger). slice_set (slice_set (held riding ps) (i - 1) None) (j - 1) o)
    (passenger-entry ps qs riding flying met i p h rides e ∙ sym there)

pub lifted-stages : (ps : List Passenger) (qs : List Packet) (riding flying met riding1 met1 i j : ℕ) (p : Passenger) → AreStages ps qs riding flying met →
    0 < i → i < j → j ≤ length ps → IsSome (passenger_at (stages_of ps qs riding flying met) i) →
    IsNone (passenger_at (stages_of ps qs riding flying met) j) → p ≡ slice_index_or ps (i - 1) p →
    riding1 ≡ with_bit (with_bit riding (i - 1) false) (j - 1) true → met1 ≡ with_bit met (i - 1) false →
    AreStages (slice_set ps (j - 1) p) qs riding1 flying met1
lifted-stages ps qs riding flying met riding1 met1 i j p h low order within rides room e r m =
    let n = length-held riding ps in
    rw (lifted_entries ps qs riding flying met riding1 i j p h low order within rides e r)
    (lifted-parts _ _ riding flying met riding1 met1 i j h low order (omega arith) rides room r m)

pub lifted-is : (ps : List Passenger) (qs : List Packet) (riding flying met riding1 met1 i j : ℕ) (p : Passenger) → AreStages ps qs riding flying met →
    0 < i → i < j → j ≤ length ps → IsSome (passenger_at (stages_of ps qs riding flying met) i) →
    IsNone (passenger_at (stages_of ps qs riding flying met) j) → p ≡ slice_index_or ps (i - 1) p →
    riding1 ≡ with_bit (with_bit riding (i - 1) false) (j - 1) true → met1 ≡ with_bit met (i - 1) false →
    stages_of (slice_set ps (j - 1) p) qs riding1 flying met1 ≡ cells_lifted (stages_of ps qs riding flying met) i j
lifted-is ps qs riding flying met riding1 met1 i j p h low order within rides room e r m =
    let n = length-held riding ps in
    rw (lifted_entries ps qs riding flying met riding1 i j p h low order within rides e r)
    (lifted-placed _ _ riding flying met met1 i j h low order (omega arith) rides room m)

-- a result comes, or what is known of the meeting changes
pub result-parts : (ps : List Passenger) (qs : List Packet) (riding flying met flying1 met1 i : ℕ) (q : Packet) (b : Bool) → AreStages ps qs riding flying met →
    0 < i → i ≤ length ps → (IsTrue b → IsSome (passenger_at (stages_of ps qs riding flying met) i)) → flying1 ≡ with_bit flying (i - 1) true →
    met1 ≡ with_bit met (i - 1) b → AreStages ps (slice_set qs (i - 1) q) riding flying1 met1
result-parts ps qs riding flying met flying1 met1 i q b h low within rides f m =
    let n = length-held riding ps in
    let k = length-held flying qs in
    rw (ap (λ (w : ℕ). held w (slice_set qs (i - 1) q)) f ∙ held-put flying (i - 1) qs q (omega (arith, h.pipes)) (omega (arith, h.pipes, h.most)))
    (packet-parts _ _ riding flying met flying1 met1 i (Some q) b true h low (omega arith) (λ g. refl) rides refl f m)

pub result-placed : (ps : List Passenger) (qs : List Packet) (riding flying met flying1 met1 i : ℕ) (q : Packet) (b : Bool) →
    AreStages ps qs riding flying met → 0 < i → i ≤ length ps → flying1 ≡ with_bit flying (i - 1) true → met1 ≡ with_bit met (i - 1) b →
    stages_of ps (slice_set qs (i - 1) q) riding flying1 met1 ≡ changed (stages_of ps qs riding flying met) i (with_place (Some q) b)
result-placed ps qs riding flying met flying1 met1 i q b h low within f m =
    let n = length-held riding ps in
    let k = length-held flying qs in
    rw (ap (λ (w : ℕ). held w (slice_set qs (i - 1) q)) f ∙ held-put flying (i - 1) qs q (omega (arith, h.pipes)) (omega (arith, h.pipes, h.most)))
    (packet-placed _ _ riding flying met met1 i (Some q) b h low (omega arith) m)

-- a result goes
pub taken-parts : (ps : List Passenger) (qs : List Packet) (riding flying met flying1 met1 i : ℕ) → AreStages ps qs riding flying met →
    0 < i → i ≤ length ps → flying1 ≡ with_bit flying (i - 1) false → met1 ≡ with_bit met (i - 1) false → AreStages ps qs riding flying1 met1
taken-parts ps qs riding flying met flying1 met1 i h low within f m =
    let n = length-held riding ps in
    let k = length-held flying qs in
    rw (ap (λ (w : ℕ). held w qs) f ∙ held-cleared flying (i - 1) qs (omega (arith, h.pipes)) (omega (arith, h.pipes, h.most)))
    (packet-parts _ _ riding flying met flying1 met1 i None false false h low (omega arith) (λ g. absurd (cc)) (λ g. absurd (cc)) refl f m)

pub taken-placed : (ps : List Passenger) (qs : List Packet) (riding flying met flying1 met1 i : ℕ) → AreStages ps qs riding flying met →
    0 < i → i ≤ length ps → flying1 ≡ with_bit flying (i - 1) false → met1 ≡ with_bit met (i - 1) false →
    stages_of ps qs riding flying1 met1 ≡ changed (stages_of ps qs riding flying met) i (with_place None false)
taken-placed ps qs riding flying met flying1 met1 i h low within f m =
    let n = length-held riding ps in
    let k = length-held flying qs in
    rw (ap (λ (w : ℕ). held w qs) f ∙ held-cleared flying (i - 1) qs (omega (arith, h.pipes)) (omega (arith, h.pipes, h.most)))
    (packet-placed _ _ riding flying met met1 i None false h low (omega arith) m)

-- what is left of a result replaces it, and has met the instruction there
pub left-parts : (ps : List Passenger) (qs : List Packet) (riding flying met met1 i : ℕ) (q : Packet) → AreStages ps qs riding flying met →
    IsSome (packet_at (stages_of ps qs riding flying met) i) → IsSome (passenger_at (stages_of ps qs riding flying met) i) →
    met1 ≡ with_bit met (i - 1) true → AreStages ps (slice_set qs (i - 1) q) riding flying met1
left-parts ps qs riding flying met met1 i q h flies rides m =
    let stage = stage-flown (stages_of ps qs riding flying met) i flies in
    let low = stage.0 in
    let within = stage.1 in
    let n = count-read _ _ _ _ _ h in
    let k = length-held flying qs in
    rw (held-renewed flying (i - 1) qs q (omega (arith, h.pipes)) (omega (arith, h.pipes, h.most)) (flying-set ps qs riding flying met i h flies))
    (staying-parts _ _ riding flying met met1 i q h low (omega arith) flies rides m)

pub left-placed : (ps : List Passenger) (qs : List Packet) (riding flying met met1 i : ℕ) (q : Packet) → AreStages ps qs riding flying met →
    IsSome (packet_at (stages_of ps qs riding flying met) i) → met1 ≡ with_bit met (i - 1) true →
    stages_of ps (slice_set qs (i - 1) q) riding flying met1 ≡ changed (stages_of ps qs riding flying met) i (with_place (Some q) true)
left-placed ps qs riding flying met met1 i q h flies m =
    let stage = stage-flown (stages_of ps qs riding flying met) i flies in
    let low = stage.0 in
    let within = stage.1 in
    let n = count-read _ _ _ _ _ h in
    let k = length-held flying qs in
    rw (held-renewed flying (i - 1) qs q (omega (arith, h.pipes)) (omega (arith, h.pipes, h.most)) (flying-set ps qs riding flying met i h flies))
    (staying-placed _ _ riding flying met met1 i q h low (omega arith) m)

-- a result that has met nothing was killed
pub lost-parts : (ps : List Passenger) (qs : List Packet) (riding flying met flying1 i : ℕ) → AreStages ps qs riding flying met → 0 < i →
    i ≤ length ps → has_met_at (stages_of ps qs riding flying met) i ≡ false → flying1 ≡ with_bit flying (i - 1) false → AreStages ps qs riding flying1 met
lost-parts ps qs riding flying met flying1 i h low within unmet f =
    let n = length-held riding ps in
    let k = length-held flying qs in
    rw (ap (λ (w : ℕ). held w qs) f ∙ held-cleared flying (i - 1) qs (omega (arith, h.pipes)) (omega (arith, h.pipes, h.most)))
    (killed-parts _ _ riding flying met flying1 i h low (omega arith) unmet f)

pub lost-placed : (ps : List Passenger) (qs : List Packet) (riding flying met flying1 i : ℕ) → AreStages ps qs riding flying met → 0 < i →
    i ≤ length ps → has_met_at (stages_of ps qs riding flying met) i ≡ false → flying1 ≡ with_bit flying (i - 1) false →
    stages_of ps qs riding flying1 met ≡ changed (stages_of ps qs riding flying met) i (with_place None false)
lost-placed ps qs riding flying met flying1 i h low within unmet f =
    let n = length-held riding ps in
    let k = length-held flying qs in
    rw (ap (λ (w : ℕ). held w qs) f ∙ held-cleared flying (i - 1) qs (omega (arith, h.pipes)) (omega (arith, h.pipes, h.most)))
    (killed-placed _ _ riding flying met i h low (omega arith) unmet)

-- a result goes to the stage below
fallen_entries : (ps : List Passenger) (qs : List Packet) (riding flying met flying1 i : ℕ) (q : Packet) → AreStages ps qs riding flying met →
    IsTrue (falls (stages_of ps qs riding flying met) i) → flying1 ≡ with_bit (with_bit flying (i - 1) false) (i - 2) true →
    held flying1 (slice_set qs (i - 2) q) ≡ slice_set (slice_set (held flying qs) (i - 1) None) (i - 2) (Some q)
fallen_entries ps qs riding flying met flying1 i q h c f =
    let n = results-count ps qs riding flying met h in
    let k = length-held flying qs in
    let low = falls-low _ i c in
    let high = falls-within _ i c in
    ap (λ (w : ℕ). held w (slice_set qs (i - 2) q)) f
    ∙ held-put (with_bit flying (i - 1) false) (i - 2) qs q (omega arith) (omega (arith, h.pipes, h.most))
    ∙ ap (λ (l : List (Option Packet)). slice_set l (i - 2) (Some q)) (held-cleared flying (i - 1) qs (omega arith) (omega (arith, h.pipes, h.most)))

-- what is read of its entry
fallen_result : (ps : List Passenger) (qs : List Packet) (riding flying met i : ℕ) (d : Packet) → AreStages ps qs riding flying met →
    IsTrue (falls (stages_of ps qs riding flying met) i) →
    Some (slice_index_or qs (i - 1) d) ≡ slice_index_or (held flying qs) (i - 1) (Some (slice_index_or qs (i - 1) d))
fallen_result ps qs riding flying met i d h c =
    let n = results-count ps qs riding flying met h in
    let low = falls-low _ i c in
    let high = falls-within _ i c in
    let q = slice_index_or qs (i - 1) d in
    let set = flying-set ps qs riding flying met i h (falls-result _ i c) in
    let g = get-held flying (i - 1) qs q (slice_get-get_or qs (i - 1) d (omega arith)) in
    sym (get_or_from_slice_get (held flying qs) (i - 1) (Some q) (Some q) (g ∙ ap (λ (b : Bool). Some (then_some b q)) set))

pub fallen-parts : (ps : List Passenger) (qs : List Packet) (riding flying met flying1 met1 i : ℕ) (d : Packet) → AreStages ps qs riding flying met →
    IsTrue (falls (stages_of ps qs riding flying met) i) → flying1 ≡ with_bit (with_bit flying (i - 1) false) (i - 2) true →
    met1 ≡ with_bit met (i - 1) false → AreStages ps (slice_set qs (i - 2) (slice_index_or qs (i - 1) d)) riding flying1 met1
fallen-parts ps qs riding flying met flying1 met1 i d h c f m =
    let q = slice_index_or qs (i - 1) d in
    rw (fallen_entries ps qs riding flying met flying1 i q h c f)
    (dropped-parts _ _ riding flying met flying1 met1 i (Some q) h c (fallen_result ps qs riding flying met i d h c) f m)

pub fallen-is : (ps : List Passenger) (qs : List Packet) (riding flying met flying1 met1 i : ℕ) (d : Packet) → AreStages ps qs riding flying met →
    IsTrue (falls (stages_of ps qs riding flying met) i) → flying1 ≡ with_bit (with_bit flying (i - 1) false) (i - 2) true →
    met1 ≡ with_bit met (i - 1) false →
    stages_of ps (slice_set qs (i - 2) (slice_index_or qs (i - 1) d)) riding flying1 met1 ≡ cells_fallen (stages_of ps qs riding flying met) i
fallen-is ps qs riding flying met flying1 met1 i d h c f m =
    let q = slice_index_or qs (i - 1) d in
    rw (fallen_entries ps qs riding flying met flying1 i q h c f)
    (dropped-is _ _ riding flying met met1 i (Some q) h c (fallen_result ps qs riding flying met i d h c) m)

-- as many stages as before
pub same-count : (ps ps1 : List Passenger) (qs qs1 : List Packet) (riding flying met riding1 flying1 met1 : ℕ) (now : List Cell) →
    AreStages ps qs riding flying met → stages_of ps qs riding flying met ≡ now → AreStages ps1 qs1 riding1 flying1 met1 → length ps1 ≡ length ps →
    length (stages_of ps1 qs1 riding1 flying1 met1) ≡ length now
same-count ps ps1 qs qs1 riding flying met riding1 flying1 met1 now h e g same =
    entries-count ps1 qs1 riding1 flying1 met1 g ∙ same ∙ sym (entries-count ps qs riding flying met h) ∙ ap length e

pub ruleset coming_and_going = (came-parts, came-placed, gone-parts, gone-placed)

pub ruleset renewing = (renewed-stages, renewed-is, stage-ridden, passenger-entry)

pub ruleset lifting = (lifted-stages, lifted-is)

pub ruleset replacing = (result-parts, result-placed, taken-parts, taken-placed)

pub ruleset remaining = (left-parts, left-placed, lost-parts, lost-placed)

pub ruleset dropping = (fallen-parts, fallen-is, sinking-set, sinking-clear, falls-low, falls-within)
