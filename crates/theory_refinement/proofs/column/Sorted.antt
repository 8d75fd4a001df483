-- The stages of the column's instructions strictly descend from the top.
use Rattle.std.proofs.Common.{ℕ, suc, ◌+◌, ◌<◌, ◌≤◌, List, [], ◌∷◌, ◌++◌, Option, Some, None, Bool, true, false, arith, length}
use Rattle.cf_bind.specs.declared.cell.Cell.{Cell}
use Rattle.cf_bind.specs.declared.packet.Packet.{Packet}
use Rattle.cf_bind.specs.declared.passenger.Passenger.{Passenger}
use Rattle.cf_semantics.specs.state.Column.{Down, Item, Up, column_from, in_order, items, packet_in, passenger_in}

-- P holds of the stage of each instruction
abbrev pub Riders : (ℕ → Type 0) → List Item → Type 0
Riders P [] = Unit {0}
Riders P (Up i p ∷ xs) = P i × Riders P xs
Riders P (Down i k ∷ xs) = Riders P xs

abbrev pub Sorted : List Item → Type 0
Sorted [] = Unit {0}
Sorted (Up i p ∷ xs) = Riders (λ j. j < i) xs × Sorted xs
Sorted (Down i k ∷ xs) = Sorted xs

pub riders_append : (P : ℕ → Type 0) (xs ys : List Item) → Riders P xs → Riders P ys → Riders P (xs ++ ys)
riders_append P [] ys a b = b
riders_append P (Up i p ∷ xs) ys a b = (a.0, riders_append P xs ys a.1 b)
riders_append P (Down i k ∷ xs) ys a b = riders_append P xs ys a b

riders_back : (P : ℕ → Type 0) (xs ys : List Item) → Riders P (xs ++ ys) → Riders P ys
riders_back P [] ys a = a
riders_back P (Up i p ∷ xs) ys a = riders_back P xs ys a.1
riders_back P (Down i k ∷ xs) ys a = riders_back P xs ys a

pub riders_more : (P Q : ℕ → Type 0) (xs : List Item) → ((i : ℕ) → P i → Q i) → Riders P xs → Riders Q xs
riders_more P Q [] f a = tt
riders_more P Q (Up i p ∷ xs) f a = (f i a.0, riders_more P Q xs f a.1)
riders_more P Q (Down i k ∷ xs) f a = riders_more P Q xs f a

riders_items : (P : ℕ → Type 0) (i : ℕ) (m : Bool) (p : Option Passenger) (k : Option Packet) → P i → Riders P (in_order m (passenger_in i p) (packet_in i k))
riders_items P i true None None h = tt
riders_items P i true None (Some k) h = tt
riders_items P i true (Some p) None h = (h, tt)
riders_items P i true (Some p) (Some k) h = (h, tt)
riders_items P i false None None h = tt
riders_items P i false None (Some k) h = tt
riders_items P i false (Some p) None h = (h, tt)
riders_items P i false (Some p) (Some k) h = (h, tt)

riders_column : (P : ℕ → Type 0) (i : ℕ) (cells : List Cell) → ((j : ℕ) → i ≤ j → P j) → Riders P (column_from i cells)
riders_column P i [] h = tt
riders_column P i (c ∷ cs) h = riders_append P (column_from (suc i) cs) (items i c) (riders_column P (suc i) cs (λ j e. h j (omega arith)))
    (riders_items P i c.met c.passenger c.packet (h i (omega arith)))

sorted_append : (i : ℕ) (xs ys : List Item) → Sorted xs → Sorted ys → Riders (λ j. i < j) xs → Riders (λ j. j ≤ i) ys → Sorted (xs ++ ys)
sorted_append i [] ys a b f g = b
sorted_append i (Up n p ∷ xs) ys a b f g =
    (riders_append (λ j. j < n) xs ys a.0 (riders_more (λ j. j ≤ i) (λ j. j < n) ys (λ j e. omega (arith, f.0)) g), sorted_append i xs ys a.1 b f.1 g)
sorted_append i (Down n k ∷ xs) ys a b f g = sorted_append i xs ys a b f g

sorted_items : (i : ℕ) (m : Bool) (p : Option Passenger) (k : Option Packet) → Sorted (in_order m (passenger_in i p) (packet_in i k))
sorted_items i true None None = tt
sorted_items i true None (Some k) = tt
sorted_items i true (Some p) None = (tt, tt)
sorted_items i true (Some p) (Some k) = (tt, tt)
sorted_items i false None None = tt
sorted_items i false None (Some k) = tt
sorted_items i false (Some p) None = (tt, tt)
sorted_items i false (Some p) (Some k) = (tt, tt)

pub sorted : (i : ℕ) (cells : List Cell) → Sorted (column_from i cells)
sorted i [] = tt
sorted i (c ∷ cs) = sorted_append i (column_from (suc i) cs) (items i c) (sorted (suc i) cs) (sorted_items i c.met c.passenger c.packet)
    (riders_column (λ j. i < j) (suc i) cs (λ j e. omega arith)) (riders_items (λ j. j ≤ i) i c.met c.passenger c.packet (omega arith))

-- on both sides of an instruction
pub under : (above below : List Item) (i : ℕ) (p : Passenger) → Sorted (above ++ (Up i p ∷ below)) → Riders (λ j. j < i) below
under [] below i p h = h.0
under (Up n q ∷ above) below i p h = under above below i p h.1
under (Down n k ∷ above) below i p h = under above below i p h

pub over : (above below : List Item) (i : ℕ) (p : Passenger) → Sorted (above ++ (Up i p ∷ below)) → Riders (λ j. i < j) above
over [] below i p h = tt
over (Up n q ∷ above) below i p h = ((riders_back (λ j. j < n) above (Up i p ∷ below) h.0).0, over above below i p h.1)
over (Down n k ∷ above) below i p h = over above below i p h

-- the stages of all instructions
pub riders_below : (n i : ℕ) (cells : List Cell) → i + length cells ≤ n → Riders (λ j. j < n) (column_from i cells)
riders_below n i [] h = tt
riders_below n i (c ∷ cs) h = riders_append (λ j. j < n) (column_from (suc i) cs) (items i c) (riders_below n (suc i) cs (omega arith))
    (riders_items (λ j. j < n) i c.met c.passenger c.packet (omega arith))

pub riders_front : (P : ℕ → Type 0) (xs ys : List Item) → Riders P (xs ++ ys) → Riders P xs
riders_front P [] ys a = tt
riders_front P (Up i p ∷ xs) ys a = (a.0, riders_front P xs ys a.1)
riders_front P (Down i k ∷ xs) ys a = riders_front P xs ys a
