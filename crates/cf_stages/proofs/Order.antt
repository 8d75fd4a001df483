-- A move up or down leaves the contents of the pipes in their order.
use Rattle.std.proofs.Common.{◌≡◌, ◌∙◌, ℕ, zero, suc, ◌+◌, ◌-◌, List, [], ◌∷◌, ◌++◌, Option, Some, None, Bool, true, false, IsTrue, map, refl, sym, subst, ap, arith, append_assoc}
use Rattle.std.specs.Prelude.{slice_get, slice_set}
use Rattle.std.proofs.lemmas.List.{map-append}
use Rattle.cf_bind.specs.declared.cell.Cell.{Cell}
use Rattle.cf_bind.specs.declared.packet.Packet.{Packet}
use Rattle.cf_bind.specs.declared.passenger.Passenger.{Passenger}
use Rattle.cf_semantics.specs.state.Options.{on}
use Rattle.cf_semantics.specs.state.State.{cell_at, put_cell}
use Rattle.cf_semantics.specs.state.Column.{passenger_in, packet_in, in_order, items, column_from}
use Rattle.cf_semantics.specs.moves.Moves.{without_passenger, without_packet}
use Rattle.cf_stages.specs.Changes.{can_climb, can_fall, climbs, falls, cells_climbed, cells_fallen, cells_lifted, with_new_passenger, with_new_packet}
use Rattle.cf_stages.specs.Contents.{StageContent, stage_content, contents}

-- the contents of a stage, without its number
abbrev inside : Cell → List StageContent
inside c = map stage_content (items 1 c)

-- the contents, by recursion on the stages
abbrev stacked : List Cell → List StageContent
stacked [] = []
stacked (c ∷ cells) = stacked cells ++ inside c

-- the number of a stage does not matter
same_order : (i : ℕ) (met : Bool) (p : Option Passenger) (k : Option Packet) →
    map stage_content (in_order met (passenger_in i p) (packet_in i k)) ≡ map stage_content (in_order met (passenger_in 1 p) (packet_in 1 k))
same_order i true None None = refl
same_order i true None (Some k) = refl
same_order i true (Some p) None = refl
same_order i true (Some p) (Some k) = refl
same_order i false None None = refl
same_order i false None (Some k) = refl
same_order i false (Some p) None = refl
same_order i false (Some p) (Some k) = refl

stacked-from : (i : ℕ) (cells : List Cell) → map stage_content (column_from i cells) ≡ stacked cells
stacked-from i [] = refl
stacked-from i (c ∷ cells) =
    rw (map-append stage_content (column_from (suc i) cells) (items i c), stacked-from (suc i) cells, same_order i c.met c.passenger c.packet) refl

-- two neighbours are changed in such a way that together they hold what they held before
abbrev SamePair : Cell → Cell → Cell → Cell → Type 0
SamePair c d c1 d1 = inside d1 ++ inside c1 ≡ inside d ++ inside c

same_on_top : (xs : List StageContent) (c d c1 d1 : Cell) → SamePair c d c1 d1 → (xs ++ inside d1) ++ inside c1 ≡ (xs ++ inside d) ++ inside c
same_on_top xs c d c1 d1 e = rw (append_assoc xs (inside d1) (inside c1), append_assoc xs (inside d) (inside c), e) refl

-- the lower one is changed first, or the upper one
pub record BothWays (cells : List Cell) (k : ℕ) (c1 d1 : Cell) : Type 0 where
  pub up : stacked (slice_set (slice_set cells k c1) (suc k) d1) ≡ stacked cells
  pub down : stacked (slice_set (slice_set cells (suc k) d1) k c1) ≡ stacked cells

pair-changed : (cells : List Cell) (k : ℕ) (c d c1 d1 : Cell) → slice_get cells k ≡ Some c → slice_get cells (suc k) ≡ Some d → SamePair c d c1 d1 →
    BothWays cells k c1 d1
pair-changed [] k c d c1 d1 e f same = absurd (cc)
pair-changed (x ∷ []) zero c d c1 d1 e f same = absurd (cc)
pair-changed (x ∷ y ∷ cells) zero c d c1 d1 e f same =
    let g : x ≡ c = cc in
    let h : y ≡ d = cc in
    rw (g, h) (record { up = same_on_top (stacked cells) c d c1 d1 same; down = same_on_top (stacked cells) c d c1 d1 same })
pair-changed (x ∷ cells) (suc k) c d c1 d1 e f same =
    let r = pair-changed cells k c d c1 d1 e f same in
    record { up = ap (λ (l : List StageContent). l ++ inside x) r.up; down = ap (λ (l : List StageContent). l ++ inside x) r.down }

climb-pair : (c d : Cell) → IsTrue (can_climb c (Some d)) → SamePair c d (without_passenger c) (with_new_passenger c.passenger d)
climb-pair c d h = grind arith

fall-pair : (c d : Cell) → IsTrue (can_fall d (Some c)) → SamePair c d (with_new_packet d.packet c) (without_packet d)
fall-pair c d h = grind arith

climb_step : (cells : List Cell) (i j : ℕ) (o q : Option Cell) → j ≡ suc i → cell_at cells i ≡ o → cell_at cells j ≡ q →
    IsTrue (on o false (λ c. can_climb c q)) →
    stacked (on o cells (λ c. on q cells (λ d. put_cell (put_cell cells i (without_passenger c)) j (with_new_passenger c.passenger d)))) ≡ stacked cells
climb_step cells i j None q n e f h = absurd (cc)
climb_step cells i j (Some c) None n e f h = absurd (cc)
climb_step cells zero j (Some c) (Some d) n e f h = absurd (cc)
climb_step cells (suc k) j (Some c) (Some d) n e f h =
    let g : slice_get cells (suc k) ≡ Some d = subst (λ (m : ℕ). cell_at cells m ≡ Some d) n f in
    let r = pair-changed cells k c d (without_passenger c) (with_new_passenger c.passenger d) e g (climb-pair c d h) in
    subst (λ (m : ℕ). stacked (put_cell (put_cell cells (suc k) (without_passenger c)) m (with_new_passenger c.passenger d)) ≡ stacked cells) (sym n) r.up

fall_step : (cells : List Cell) (i j : ℕ) (o q : Option Cell) → i ≡ suc j → cell_at cells i ≡ o → cell_at cells j ≡ q →
    IsTrue (on o false (λ c. can_fall c q)) →
    stacked (on o cells (λ c. on q cells (λ d. put_cell (put_cell cells i (without_packet c)) j (with_new_packet c.packet d)))) ≡ stacked cells
fall_step cells i j None q n e f h = absurd (cc)
fall_step cells i j (Some c) None n e f h = absurd (cc)
fall_step cells i zero (Some c) (Some d) n e f h = absurd (cc)
fall_step cells i (suc k) (Some c) (Some d) n e f h =
    let g : slice_get cells (suc k) ≡ Some c = subst (λ (m : ℕ). cell_at cells m ≡ Some c) n e in
    let r = pair-changed cells k d c (with_new_packet c.packet d) (without_packet c) f g (fall-pair d c h) in
    subst (λ (m : ℕ). stacked (put_cell (put_cell cells m (without_packet c)) (suc k) (with_new_packet c.packet d)) ≡ stacked cells) (sym n) r.down

-- a result that can fall is not in the lowest stage
falls-high : (cells : List Cell) (i : ℕ) → IsTrue (falls cells i) → i ≡ suc (i - 1)
unfolding falls
falls-high cells zero h = absurd (cc)
falls-high cells (suc k) h = omega arith

-- an instruction that moves up
pub contents-climbed : (cells : List Cell) (i : ℕ) → IsTrue (climbs cells i) → contents (cells_climbed cells i) ≡ contents cells
unfolding contents climbs cells_lifted
contents-climbed cells i h =
    stacked-from 1 (cells_climbed cells i) ∙ climb_step cells i (i + 1) (cell_at cells i) (cell_at cells (i + 1)) (omega arith) refl refl h
    ∙ sym (stacked-from 1 cells)

-- a result that moves down
pub contents-fallen : (cells : List Cell) (i : ℕ) → IsTrue (falls cells i) → contents (cells_fallen cells i) ≡ contents cells
unfolding contents falls cells_fallen
contents-fallen cells i h =
    stacked-from 1 (cells_fallen cells i) ∙ fall_step cells i (i - 1) (cell_at cells i) (cell_at cells (i - 1)) (falls-high cells i h) refl refl h
    ∙ sym (stacked-from 1 cells)

pub ruleset climbing = (contents-climbed)

pub ruleset falling = (contents-fallen)
