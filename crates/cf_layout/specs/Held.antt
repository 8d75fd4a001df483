-- How a layout is stored: a table of eight entries for sidings, of which the first are used.
use Rattle.std.proofs.Common.{arith, length-take-le, take-append-drop}
use Rattle.std.specs.Prelude.{◌≡◌, ℕ, ◌-◌, ◌≤◌, List, ◌++◌, length, take, drop, replicate}
use Rattle.cf_layout.specs.Layout.{SidingPlan, no_siding}

-- the entries after the sidings hold no siding
pub record AreHeld (count : ℕ) (places : List SidingPlan) : Type 0 where
  pub room : length places ≡ 8
  pub few : count ≤ 8
  pub rest : drop count places ≡ replicate (8 - count) no_siding

-- the table of eight entries for the sidings
abbrev pub places_for : List SidingPlan → List SidingPlan
places_for sidings = sidings ++ replicate (8 - length sidings) no_siding

-- so the number of sidings is that of the used entries
pub count_kept : (count : ℕ) (places : List SidingPlan) → AreHeld count places → length (take count places) ≡ count
count_kept count places held = length-take-le count places (omega (arith, held.room, held.few))

-- and the table is that of the sidings
pub places_kept : (count : ℕ) (places : List SidingPlan) → AreHeld count places → places_for (take count places) ≡ places
places_kept count places held = rw (count_kept count places held, ← held.rest) (take-append-drop count places)
