-- The weight of a state with one cell, two cells or one siding changed.
use Rattle.std.proofs.Common.{◌≡◌, ℕ, zero, suc, ◌+◌, ◌<◌, ◌≤◌, List, [], ◌∷◌, ◌++◌, Option, Some, None, sym, ap, ◌∙◌, arith, length, length-append}
use Rattle.std.specs.Prelude.{slice_get, slice_set}
use Rattle.cf_bind.specs.declared.cell.Cell.{Cell}
use Rattle.cf_bind.specs.declared.cell.Op.{Op}
use Rattle.theory_refinement.proofs.column.Column.{pair, place}
use Rattle.theory_refinement.proofs.column.Sidings.{cells_in}
use Rattle.cf_semantics.specs.moves.Bars.{last_op}
use Rattle.cf_semantics.specs.moves.Moves.{set_last}
use Rattle.cf_semantics.specs.state.State.{cell_at, put_cell}
use Rattle.cf_semantics.specs.claims.Weight.{cell_weight, cells_weight, op_weight, siding_weight, sidings_weight}

cells_weight_append : (n d i : ℕ) (xs ys : List Cell) → cells_weight n d i (xs ++ ys) ≡ cells_weight n d i xs + cells_weight n d (i + length xs) ys
cells_weight_append n d i [] ys = let e : i + 0 ≡ i = omega arith in ap (λ (j : ℕ). cells_weight n d j ys) (sym e) ∙ zero_plus (cells_weight n d (i + 0) ys)
  where
    zero_plus : (a : ℕ) → a ≡ 0 + a
    zero_plus a = omega arith
cells_weight_append n d i (x ∷ xs) ys =
    let e : suc i + length xs ≡ i + suc (length xs) = omega arith in
    let h = cells_weight_append n d (suc i) xs ys ∙ ap (λ (j : ℕ). cells_weight n d (suc i) xs + cells_weight n d j ys) e in
    omega (arith, h)

-- one cell
pub record CellWeighs (n d : ℕ) (cells : List Cell) (i : ℕ) (c : Cell) : Type 0 where
  pub rest : ℕ
  pub now : cells_weight n d 1 cells ≡ rest + cell_weight n d i c
  pub put : (e : Cell) → cells_weight n d 1 (put_cell cells i e) ≡ rest + cell_weight n d i e
  pub low : 0 < i
  pub high : i ≤ length cells

pub cell_weighs : (n d : ℕ) (cells : List Cell) (i : ℕ) (c : Cell) → cell_at cells i ≡ Some c → CellWeighs n d cells i c
cell_weighs n d cells i c e =
    let p = place cells i c e in
    let j : 1 + length p.below ≡ i = omega (arith, p.number) in
    let at : (e : Cell) → cells_weight n d 1 (p.below ++ e ∷ p.above) ≡ (cells_weight n d 1 p.below + cells_weight n d (suc i) p.above) + cell_weight n d i e =
    λ e. let h = cells_weight_append n d 1 p.below (e ∷ p.above) ∙ ap (λ (j : ℕ). cells_weight n d 1 p.below + cells_weight n d j (e ∷ p.above)) j in
    omega (arith, h) in
    record {
      rest = cells_weight n d 1 p.below + cells_weight n d (suc i) p.above;
      now = ap (cells_weight n d 1) p.split ∙ at c;
      put =
          λ e. ap (cells_weight n d 1) (p.set e) ∙ at e;
      low = omega (arith, p.number);
      high =
          omega (arith, p.number, ap length p.split ∙ length-append p.below (c ∷ p.above));
    }

-- two neighbours
pub record PairWeighs (n d : ℕ) (cells : List Cell) (i : ℕ) (a b : Cell) : Type 0 where
  pub rest : ℕ
  pub now : cells_weight n d 1 cells ≡ rest + (cell_weight n d i a + cell_weight n d (suc i) b)
  pub up : (a' b' : Cell) → cells_weight n d 1 (put_cell (put_cell cells i a') (suc i) b') ≡ rest + (cell_weight n d i a' + cell_weight n d (suc i) b')
  pub down : (a' b' : Cell) → cells_weight n d 1 (put_cell (put_cell cells (suc i) b') i a') ≡ rest + (cell_weight n d i a' + cell_weight n d (suc i) b')
  pub low : 0 < i
  pub high : suc i ≤ length cells

pub pair_weighs : (n d : ℕ) (cells : List Cell) (i : ℕ) (a b : Cell) → cell_at cells i ≡ Some a → cell_at cells (suc i) ≡ Some b → PairWeighs n d cells i a b
pair_weighs n d cells i a b e f =
    let p = pair cells i a b e f in
    let j : 1 + length p.below ≡ i = omega (arith, p.number) in
    let at : (a b : Cell) → cells_weight n d 1 (p.below ++ a ∷ b ∷ p.above) ≡ (cells_weight n d 1 p.below + cells_weight n d (suc (suc i)) p.above) +
    (cell_weight n d i a + cell_weight n d (suc i) b) = λ a b. let h = cells_weight_append n d 1 p.below (a ∷ b ∷ p.above)
    ∙ ap (λ (j : ℕ). cells_weight n d 1 p.below + cells_weight n d j (a ∷ b ∷ p.above)) j in omega (arith, h) in
    record {
      rest = cells_weight n d 1 p.below + cells_weight n d (suc (suc i)) p.above;
      now = ap (cells_weight n d 1) p.split ∙ at a b;
      up =
          λ a b. ap (cells_weight n d 1) (p.set a b) ∙ at a b;
      down = λ a b. ap (cells_weight n d 1) (p.set_down a b) ∙ at a b;
      low = omega (arith, p.number);
      high = omega (arith, p.number, ap length p.split ∙ length-append p.below (a ∷ b ∷ p.above));
    }

-- one siding
pub record SidingWeighs (ss : List (List (Option Op))) (k : ℕ) : Type 0 where
  pub rest : ℕ
  pub now : sidings_weight ss ≡ rest + siding_weight (length (cells_in ss k)) 0 (cells_in ss k)
  pub put : (q : List (Option Op)) → length q ≡ length (cells_in ss k) → sidings_weight (slice_set ss k q) ≡ rest + siding_weight (length (cells_in ss k)) 0 q

pub siding_weighs : (ss : List (List (Option Op))) (k n : ℕ) → length (cells_in ss k) ≡ suc n → SidingWeighs ss k
siding_weighs [] k n e = absurd (cc)
siding_weighs (q ∷ ss) zero n e =
    record {
      rest = sidings_weight ss;
      now = omega arith;
      put = λ r f. ap (λ (j : ℕ). siding_weight j 0 r + sidings_weight ss) f
          ∙ swap (siding_weight (length q) 0 r) (sidings_weight ss);
    }
  where
    swap : (a b : ℕ) → a + b ≡ b + a
    swap a b = omega arith
siding_weighs (q ∷ ss) (suc k) n e =
    let r = siding_weighs ss k n e in
    record { rest = siding_weight (length q) 0 q + r.rest; now = omega (arith, r.now); put = λ u f. let h = r.put u f in omega (arith, h) }

one_on : (n j : ℕ) (op : Op) (r : ℕ) → suc j < n → suc (op_weight n j None + (op_weight n (suc j) (Some op) + r))
    ≡ op_weight n j (Some op) + (op_weight n (suc j) None + r)
unfolding op_weight
one_on n j op r e = omega arith

-- an operation that moves on by one cell
pub slide_weight : (n j : ℕ) (q : List (Option Op)) (c : ℕ) (op : Op) → j + length q ≤ n → slice_get q c ≡ Some (Some op) → slice_get q (suc c) ≡ Some None →
    suc (siding_weight n j (slice_set (slice_set q c None) (suc c) (Some op))) ≡ siding_weight n j q
slide_weight n j [] c op b e f = absurd (cc)
slide_weight n j (o ∷ []) zero op b e f = absurd (cc)
slide_weight n j (o ∷ p ∷ q) zero op b e f =
    let x : o ≡ Some op = cc in
    let y : p ≡ None = cc in
    rw (x, y) (one_on n j op (siding_weight n (suc (suc j)) q) (omega arith))
slide_weight n j (o ∷ []) (suc c) op b e f = absurd (cc)
slide_weight n j (o ∷ p ∷ q) (suc c) op b e f = let h = slide_weight n (suc j) (p ∷ q) c op (omega arith) e f in omega (arith, h)

-- the last cell
pub record LastWeighs (n j c : ℕ) (q : List (Option Op)) : Type 0 where
  pub rest : ℕ
  pub now : siding_weight n j q ≡ rest + op_weight n (j + c) (last_op q)
  pub put : (o : Option Op) → siding_weight n j (set_last q o) ≡ rest + op_weight n (j + c) o

pub last_weighs : (n j c : ℕ) (q : List (Option Op)) → length q ≡ suc c → LastWeighs n j c q
last_weighs n j c [] e = absurd (cc)
last_weighs n j c (o ∷ []) e =
    let z : c ≡ 0 = omega arith in
    let y : (p : Option Op) → op_weight n (j + 0) p ≡ op_weight n j p = λ p. let e : j + 0 ≡ j = omega arith in ap (λ (i : ℕ). op_weight n i p) e in
    rw z (record { rest = 0; now = omega (arith, y o); put = λ p. omega (arith, y p) })
last_weighs n j zero (o ∷ p ∷ q) e = absurd (omega arith)
last_weighs n j (suc c) (o ∷ p ∷ q) e =
    let r = last_weighs n (suc j) c (p ∷ q) (omega arith) in
    let y : suc j + c ≡ j + suc c = omega arith in
    record {
      rest = op_weight n j o + r.rest;
      now = let h = r.now ∙ ap (λ (i : ℕ). r.rest + op_weight n i (last_op (p ∷ q))) y in
          omega (arith, h);
      put = λ u. let h = r.put u ∙ ap (λ (i : ℕ). r.rest + op_weight n i u) y in omega (arith, h);
    }
