-- An instruction in its stage, and the column above and below it.
use Rattle.std.proofs.Common.{◌≡◌, ℕ, suc, ◌<◌, ◌≤◌, List, [], ◌∷◌, ◌++◌, Option, Some, None, Bool, true, false, ◌&&◌, not, refl, ap, subst, ◌∙◌, arith, length, length-append, append_assoc, append-nil}
use Rattle.cf_bind.specs.declared.cell.Cell.{Cell}
use Rattle.cf_bind.specs.declared.packet.Packet.{Packet}
use Rattle.cf_bind.specs.declared.passenger.Passenger.{Passenger}
use Rattle.theory_refinement.proofs.column.Column.{column_at, place}
use Rattle.theory_refinement.proofs.walks.Order.{From, from_column}
use Rattle.theory_refinement.proofs.column.Sorted.{Riders, Sorted, over, sorted, under}
use Rattle.cf_semantics.specs.moves.Bars.{is_full}
use Rattle.cf_semantics.specs.state.Column.{Item, Up, column, column_from, in_order, packet_in, passenger_in}
use Rattle.cf_semantics.specs.moves.Moves.{with_passenger}
use Rattle.cf_semantics.specs.state.Options.{is_some}
use Rattle.cf_semantics.specs.state.State.{State, cell_at, put_cell}

pub record Spot (s : State) (i : ℕ) (c : Cell) (p : Passenger) : Type 0 where
  pub above : List Item
  pub below : List Item
  pub was : column s ≡ above ++ ((Up i p ∷ []) ++ below)
  pub is : (q : Passenger) → column_from 1 (put_cell s.cells i (with_passenger c q)) ≡ above ++ ((Up i q ∷ []) ++ below)
  pub over : Riders (λ j. i < j) above
  pub under : Riders (λ j. j < i) below
  pub inside : i ≤ length s.cells
  pub from : is_full c ≡ false → From (suc i) above

above_in : Bool → List Item → List Item
above_in true ks = []
above_in false ks = ks

below_in : Bool → List Item → List Item
below_in true ks = ks
below_in false ks = []

split_items : (m : Bool) (i : ℕ) (p : Passenger) (ks a b : List Item) → a ++ (in_order m (Up i p ∷ []) ks ++ b) ≡ (a ++ above_in m ks)
    ++ ((Up i p ∷ []) ++ (below_in m ks ++ b))
unfolding above_in below_in
split_items true i p ks a b = rw (append-nil a)
split_items false i p ks a b = rw (append_assoc ks (Up i p ∷ []) b, append_assoc a ks (Up i p ∷ b))

nothing_above : (m : Bool) (i : ℕ) (k : Option Packet) (p : Passenger) → (is_some k && not m) ≡ false → above_in m (packet_in i k) ≡ []
unfolding above_in
nothing_above true i k p e = refl
nothing_above false i None p e = refl
nothing_above false i (Some k) p e = absurd (cc)

pub spot : (s : State) (i : ℕ) (c : Cell) (p : Passenger) → cell_at s.cells i ≡ Some c → c.passenger ≡ Some p → Spot s i c p
spot s i c p e f =
    let q = place s.cells i c e in
    let up = column_from (suc i) q.above in
    let down = column_from 1 q.below in
    let ks = packet_in i c.packet in
    let was : column s ≡ (up ++ above_in c.met ks) ++ ((Up i p ∷ []) ++ (below_in c.met ks ++ down)) =
    ap (column_from 1) q.split ∙ column_at i q.below q.above c q.number ∙ ap (λ (o : Option Passenger). up ++ (in_order c.met (passenger_in i o) ks ++ down)) f
    ∙ split_items c.met i p ks up down in
    let o = subst Sorted was (sorted 1 s.cells) in
    record {
      above = up ++ above_in c.met ks;
      below = below_in c.met ks ++ down;
      was = was;
      is = λ r. ap (column_from 1) (q.set (with_passenger c r)) ∙ column_at i q.below q.above (with_passenger c r) q.number ∙ split_items c.met i r ks up down;
      over = over (up ++ above_in c.met ks) (below_in c.met ks ++ down) i p o;
      under = under (up ++ above_in c.met ks) (below_in c.met ks ++ down) i p o;
      inside = omega (arith, q.number, ap length q.split ∙ length-append q.below (c ∷ q.above));
      from = λ g. rw (nothing_above c.met i c.packet p (quiet c.met c.packet g), append-nil up) (from_column (suc i) (suc i) q.above (omega arith));
    }
  where
    quiet : (m : Bool) (k : Option Packet) → (is_some c.passenger && is_some k && not m) ≡ false → (is_some k && not m) ≡ false
    quiet m k g = subst (λ (o : Option Passenger). (is_some o && is_some k && not m) ≡ false) f g
