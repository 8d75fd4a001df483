-- A stretch of the column that a move replaces, between what is above it and below it.
use Rattle.std.proofs.Common.{◌≡◌, ℕ, suc, List, ◌∷◌, ◌++◌, Some, ap, ◌∙◌, arith, append_assoc, length, length-append}
use Rattle.cf_bind.specs.declared.cell.Cell.{Cell}
use Rattle.cf_semantics.specs.state.Column.{Item, column, column_from, items}
use Rattle.cf_semantics.specs.state.State.{State, cell_at, put_cell}
use Rattle.theory_refinement.proofs.column.Column.{Pair, column_at, column_pair, place}
use Rattle.theory_refinement.proofs.moves.Rows.{put_size}

pub record Stretch (s : State) (cells : List Cell) (old new : List Item) : Type 0 where
  pub above : List Item
  pub below : List Item
  pub was : column s ≡ above ++ (old ++ below)
  pub is : column_from 1 cells ≡ above ++ (new ++ below)
  pub size : length cells ≡ length s.cells

-- what is in one stage
pub stage_stretch : (s : State) (i : ℕ) (c d : Cell) (old new : List Item) → cell_at s.cells i ≡ Some c → items i c ≡ old → items i d ≡ new →
    Stretch s (put_cell s.cells i d) old new
stage_stretch s i c d old new at was is =
    let p = place s.cells i c at in
    let up = column_from (suc i) p.above in
    let under = column_from 1 p.below in
    record {
      above = up;
      below = under;
      was = ap (column_from 1) p.split ∙ column_at i p.below p.above c p.number ∙ ap (λ (m : List Item). up ++ (m ++ under)) was;
      is = ap (column_from 1) (p.set d) ∙ column_at i p.below p.above d p.number ∙ ap (λ (m : List Item). up ++ (m ++ under)) is;
      size = put_size s.cells i d;
    }

-- the two forms of a piece of the column
regroup : (a r m k b : List Item) → a ++ ((r ++ (m ++ k)) ++ b) ≡ (a ++ r) ++ (m ++ (k ++ b))
regroup a r m k b = rw (append_assoc r (m ++ k) b, append_assoc m k b, append_assoc a r (m ++ (k ++ b)))

-- what is in two stages, between what stays there before and after it
pub pair_stretch : (s : State) (i : ℕ) (c d a b : Cell) (p : Pair s.cells i c d) (cells : List Cell) (front old new last : List Item) →
    cells ≡ p.below ++ a ∷ b ∷ p.above → items (suc i) d ++ items i c ≡ front ++ (old ++ last) → items (suc i) b ++ items i a ≡ front ++ (new ++ last) →
    Stretch s cells old new
pair_stretch s i c d a b p cells front old new last put was is =
    let up = column_from (suc (suc i)) p.above in
    let under = column_from 1 p.below in
    record {
      above = up ++ front;
      below = last ++ under;
      was = ap (column_from 1) p.split ∙ column_pair i p.below p.above c d p.number ∙ ap (λ (m : List Item). up ++ (m ++ under)) was
          ∙ regroup up front old last under;
      is = ap (column_from 1) put ∙ column_pair i p.below p.above a b p.number ∙ ap (λ (m : List Item). up ++ (m ++ under)) is
          ∙ regroup up front new last under;
      size = omega (arith, ap length put, ap length p.split, length-append p.below (a ∷ b ∷ p.above), length-append p.below (c ∷ d ∷ p.above));
    }
