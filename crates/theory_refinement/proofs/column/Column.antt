-- Cells at a position, and their part of the column.
use Rattle.std.proofs.Common.{Bool, List, None, Some, [], add-zero, ap, append-nil, append_assoc, arith, false, length, refl, suc, sym, true, zero, ℕ, ◌++◌, ◌+◌, ◌∙◌, ◌∷◌, ◌≡◌}
use Rattle.cf_bind.specs.declared.cell.Cell.{Cell}
use Rattle.cf_bind.specs.declared.packet.Packet.{Packet}
use Rattle.cf_bind.specs.declared.passenger.Passenger.{Passenger}
use Rattle.cf_semantics.specs.moves.Bars.{is_full}
use Rattle.cf_semantics.specs.state.Column.{Down, Item, Up, column_from, in_order, items, packet_in, passenger_in}
use Rattle.cf_semantics.specs.moves.Moves.{with_passenger, without_packet, without_passenger}
use Rattle.cf_semantics.specs.state.State.{cell_at, put_cell}

pub record Place (cells : List Cell) (i : ℕ) (c : Cell) : Type 0 where
  pub below : List Cell
  pub above : List Cell
  pub split : cells ≡ below ++ c ∷ above
  pub number : i ≡ suc (length below)
  pub set : (d : Cell) → put_cell cells i d ≡ below ++ d ∷ above

pub place : (cells : List Cell) (i : ℕ) (c : Cell) → cell_at cells i ≡ Some c → Place cells i c
place cells zero c e = absurd (cc)
place [] (suc k) c e = absurd (cc)
place (x ∷ cells) (suc zero) c e =
    record { below = []; above = cells; split = let h : x ≡ c = cc in ap (λ (y : Cell). y ∷ cells) h; number = refl; set = λ d. refl }
place (x ∷ cells) (suc (suc k)) c e =
    let p = place cells (suc k) c e in
    record {
      below = x ∷ p.below;
      above = p.above;
      split = ap (λ (l : List Cell). x ∷ l) p.split;
      number = ap suc p.number;
      set =
          λ d. ap (λ (l : List Cell). x ∷ l) (p.set d);
    }

no_more : (below above : List Cell) (c : Cell) → length (below ++ c ∷ above) ≡ suc (length below) → above ≡ []
no_more [] [] c e = refl
no_more [] (a ∷ above) c e = absurd (omega arith)
no_more (b ∷ below) above c e = no_more below above c (omega arith)

-- the cell of the highest stage
pub record Top (cells : List Cell) (n : ℕ) (c : Cell) : Type 0 where
  pub below : List Cell
  pub number : n ≡ suc (length below)
  pub was : column_from 1 cells ≡ items n c ++ column_from 1 below
  pub set : (d : Cell) → column_from 1 (put_cell cells n d) ≡ items n d ++ column_from 1 below

pub record Pair (cells : List Cell) (i : ℕ) (c d : Cell) : Type 0 where
  pub below : List Cell
  pub above : List Cell
  pub split : cells ≡ below ++ c ∷ d ∷ above
  pub number : i ≡ suc (length below)
  pub set : (a b : Cell) → put_cell (put_cell cells i a) (suc i) b ≡ below ++ a ∷ b ∷ above
  pub set_down : (a b : Cell) → put_cell (put_cell cells (suc i) b) i a ≡ below ++ a ∷ b ∷ above

pub pair : (cells : List Cell) (i : ℕ) (c d : Cell) → cell_at cells i ≡ Some c → cell_at cells (suc i) ≡ Some d → Pair cells i c d
pair cells zero c d e f = absurd (cc)
pair [] (suc k) c d e f = absurd (cc)
pair (x ∷ []) (suc zero) c d e f = absurd (cc)
pair (x ∷ y ∷ cells) (suc zero) c d e f =
    record {
      below = [];
      above = cells;
      number = refl;
      split = let h : x ≡ c = cc in let g : y ≡ d = cc in
          rw (h, g);
      set = λ a b. refl;
      set_down = λ a b. refl;
    }
pair (x ∷ cells) (suc (suc k)) c d e f =
    let p = pair cells (suc k) c d e f in
    record {
      below = x ∷ p.below;
      above = p.above;
      number = ap suc p.number;
      split = ap (λ (l : List Cell). x ∷ l) p.split;
      set =
          λ a b. ap (λ (l : List Cell). x ∷ l) (p.set a b);
      set_down = λ a b. ap (λ (l : List Cell). x ∷ l) (p.set_down a b);
    }

column_append : (i : ℕ) (xs ys : List Cell) → column_from i (xs ++ ys) ≡ column_from (i + length xs) ys ++ column_from i xs
column_append i [] ys = rw add-zero (sym (append-nil (column_from i ys)))
column_append i (x ∷ xs) ys =
    let e : suc i + length xs ≡ i + suc (length xs) = omega arith in
    rw (column_append (suc i) xs ys, e) (append_assoc (column_from (i + suc (length xs)) ys) (column_from (suc i) xs) (items i x))

pub column_at : (i : ℕ) (below above : List Cell) (c : Cell) → i ≡ suc (length below) → column_from 1 (below ++ c ∷ above) ≡ column_from (suc i) above
    ++ (items i c ++ column_from 1 below)
column_at i below above c n =
    let e : 1 + length below ≡ i = omega arith in
    rw (column_append 1 below (c ∷ above), e) (append_assoc (column_from (suc i) above) (items i c) (column_from 1 below))

pub column_pair : (i : ℕ) (below above : List Cell) (c d : Cell) → i ≡ suc (length below) →
    column_from 1 (below ++ c ∷ d ∷ above) ≡ column_from (suc (suc i)) above ++ ((items (suc i) d ++ items i c) ++ column_from 1 below)
column_pair i below above c d n =
    let e : 1 + length below ≡ i = omega arith in
    rw (
      column_append 1 below (c ∷ d ∷ above),
      e,
      append_assoc (column_from (suc (suc i)) above) (items (suc i) d),
      append_assoc (column_from (suc (suc i)) above),
    )

pub climb_was : (i j : ℕ) (c d : Cell) (p : Passenger) → c.passenger ≡ Some p → d.passenger ≡ None → is_full c ≡ false →
    items j d ++ items i c ≡ packet_in j d.packet ++ (Up i p ∷ packet_in i c.packet)
climb_was i j c d p e f g = grind arith

pub climb_is : (i j : ℕ) (c d : Cell) (p : Passenger) → c.passenger ≡ Some p → d.passenger ≡ None → is_full c ≡ false →
    items j (record d { passenger = c.passenger; met = false }) ++ items i (without_passenger c) ≡ packet_in j d.packet ++ (Up j p ∷ packet_in i c.packet)
climb_is i j c d p e f g = grind arith

pub fall_was : (i j : ℕ) (c d : Cell) (k : Packet) → d.packet ≡ Some k → c.packet ≡ None → is_full d ≡ false →
    items j d ++ items i c ≡ passenger_in j d.passenger ++ (Down j k ∷ passenger_in i c.passenger)
fall_was i j c d k e f g = grind arith

pub fall_is : (i j : ℕ) (c d : Cell) (k : Packet) → d.packet ≡ Some k → c.packet ≡ None → is_full d ≡ false →
    items j (without_packet d) ++ items i (record c { packet = d.packet; met = false }) ≡ passenger_in j d.passenger ++ (Down i k ∷ passenger_in i c.passenger)
fall_is i j c d k e f g = grind arith

pub top_cell : (cells : List Cell) (n : ℕ) (c : Cell) → length cells ≡ n → cell_at cells n ≡ Some c → Top cells n c
top_cell cells n c l e =
    let p = place cells n c e in
    let z : p.above ≡ [] = no_more p.below p.above c (ap length (sym p.split) ∙ l ∙ p.number) in
    let at : (d : Cell) → column_from 1 (p.below ++ d ∷ p.above) ≡ items n d ++ column_from 1 p.below = λ d. rw z (column_at n p.below [] d p.number) in
    record { below = p.below; number = p.number; was = ap (column_from 1) p.split ∙ at c; set = λ d. ap (column_from 1) (p.set d) ∙ at d }

-- an instruction that has met the result of its stage comes first
pub rider_first : (i : ℕ) (c : Cell) (p : Passenger) → c.passenger ≡ Some p → is_full c ≡ false → items i c ≡ Up i p ∷ packet_in i c.packet
rider_first i c p e f = grind arith

pub rider_put : (i : ℕ) (c : Cell) (p q : Passenger) → c.passenger ≡ Some p → is_full c ≡ false → items i (with_passenger c q) ≡ Up i q ∷ packet_in i c.packet
rider_put i c p q e f = grind arith

pub rider_gone : (i : ℕ) (c : Cell) → items i (without_passenger c) ≡ packet_in i c.packet
rider_gone i c = grind arith

-- what is alone in its stage
pub alone : (m : Bool) (xs : List Item) → in_order m xs [] ≡ xs
alone true xs = append-nil xs
alone false xs = refl
