-- Old contents put back: in lists, in stages, in sidings.
use Rattle.std.proofs.Common.{◌≡◌, ◌≢◌, ℕ, zero, suc, List, [], ◌∷◌, Option, Some, None, refl, sym, ap, ◌∙◌}
use Rattle.std.specs.Prelude.{slice_get, slice_set}
use Rattle.cf_bind.specs.declared.cell.Cell.{Cell}
use Rattle.cf_bind.specs.declared.cell.Op.{Op}
use Rattle.cf_semantics.specs.state.Options.{on}
use Rattle.cf_semantics.specs.state.State.{State, cell_at, put_cell, siding_at}
use Rattle.cf_semantics.specs.moves.Kept.{cells_back, kept_cell, kept_op, ops_back}
use Rattle.theory_confluence.proofs.sites.Touches.{set_swap}

-- lists
pub set_back : {A : Type 0} → (q : List A) (k : ℕ) (a b : A) → slice_get q k ≡ Some a → slice_set (slice_set q k b) k a ≡ q
set_back [] k a b e = refl
set_back (x ∷ q) zero a b e = let z : x ≡ a = cc in ap (λ y. y ∷ q) (sym z)
set_back (x ∷ q) (suc k) a b e = ap (λ (l : List _). x ∷ l) (set_back q k a b e)

set_same : {A : Type 0} → (q : List A) (k : ℕ) (a : A) → slice_get q k ≡ Some a → slice_set q k a ≡ q
set_same [] k a e = refl
set_same (x ∷ q) zero a e = let z : x ≡ a = cc in ap (λ y. y ∷ q) (sym z)
set_same (x ∷ q) (suc k) a e = ap (λ (l : List _). x ∷ l) (set_same q k a e)

pub set_nowhere : {A : Type 0} → (q : List A) (k : ℕ) (a : A) → slice_get q k ≡ None → slice_set q k a ≡ q
set_nowhere [] k a e = refl
set_nowhere (x ∷ q) zero a e = absurd (cc)
set_nowhere (x ∷ q) (suc k) a e = ap (λ (l : List _). x ∷ l) (set_nowhere q k a e)

-- two entries are written and then put back
pub two_back : {A : Type 0} → (q : List A) (i j : ℕ) (a b x y : A) → i ≢ j → slice_get q i ≡ Some a → slice_get q j ≡ Some b →
    slice_set (slice_set (slice_set (slice_set q i x) j y) i a) j b ≡ q
two_back q i j a b x y n e f =
    ap (λ (l : List _). slice_set l j b) (sym (set_swap (slice_set q i x) i j a y n) ∙ ap (λ (l : List _). slice_set l j y) (set_back q i a x e))
    ∙ set_back q j b y f

-- stages
pub put_back : (cells : List Cell) (i : ℕ) (c d : Cell) → cell_at cells i ≡ Some c → put_cell (put_cell cells i d) i c ≡ cells
put_back cells zero c d e = refl
put_back cells (suc i) c d e = set_back cells i c d e

pub put_same : (cells : List Cell) (i : ℕ) (c : Cell) → cell_at cells i ≡ Some c → put_cell cells i c ≡ cells
put_same cells zero c e = refl
put_same cells (suc i) c e = set_same cells i c e

put_nowhere : (cells : List Cell) (i : ℕ) (c : Cell) → cell_at cells i ≡ None → put_cell cells i c ≡ cells
put_nowhere cells zero c e = refl
put_nowhere cells (suc i) c e = set_nowhere cells i c e

pub put_two_back : (cells : List Cell) (i j : ℕ) (a b x y : Cell) → i ≢ j → cell_at cells i ≡ Some a → cell_at cells j ≡ Some b →
    put_cell (put_cell (put_cell (put_cell cells i x) j y) i a) j b ≡ cells
put_two_back cells zero j a b x y n e f = absurd (cc)
put_two_back cells (suc i) zero a b x y n e f = absurd (cc)
put_two_back cells (suc i) (suc j) a b x y n e f = two_back cells i j a b x y (λ g. n (ap suc g)) e f

-- a stage is put back, whether or not it was written
abbrev pub CellsBack : State → ℕ → State → Type 0
CellsBack s i t = cells_back (kept_cell s i) t.cells ≡ s.cells

pub unput : (s : State) (i : ℕ) → CellsBack s i s
unput s i = go (cell_at s.cells i) refl
  where
    go : (o : Option Cell) → cell_at s.cells i ≡ o → cells_back (on o [] (λ c. record { stage = i; cell = c } ∷ [])) s.cells ≡ s.cells
    go None e = refl
    go (Some c) e = put_same s.cells i c e

pub one_put : (s : State) (i : ℕ) (d : Cell) → cells_back (kept_cell s i) (put_cell s.cells i d) ≡ s.cells
one_put s i d = go (cell_at s.cells i) refl
  where
    go : (o : Option Cell) → cell_at s.cells i ≡ o → cells_back (on o [] (λ c. record { stage = i; cell = c } ∷ [])) (put_cell s.cells i d) ≡ s.cells
    go None e = put_nowhere s.cells i d e
    go (Some c) e = put_back s.cells i c d e

pub on_cells : {A : Type 0} → (s : State) (i : ℕ) (o : Option A) (f : A → State) → ((a : A) → CellsBack s i (f a)) → CellsBack s i (on o s f)
on_cells s i None f h = unput s i
on_cells s i (Some a) f h = h a

-- sidings
pub siding_same : (ss : List (List (Option Op))) (k : ℕ) → slice_set ss k (on (slice_get ss k) [] (λ q. q)) ≡ ss
siding_same [] k = refl
siding_same (q ∷ ss) zero = refl
siding_same (q ∷ ss) (suc k) = ap (λ (l : List (List (Option Op))). q ∷ l) (siding_same ss k)

pub op_put : (ss : List (List (Option Op))) (k c : ℕ) (q : List (Option Op)) (o : Option Op) →
    on (slice_get (slice_set ss k q) k) (slice_set ss k q) (λ ops. slice_set (slice_set ss k q) k (slice_set ops c o)) ≡ slice_set ss k (slice_set q c o)
op_put [] k c q o = refl
op_put (a ∷ ss) zero c q o = refl
op_put (a ∷ ss) (suc k) c q o = go (slice_get (slice_set ss k q) k) refl (op_put ss k c q o)
  where
    go : (r : Option (List (Option Op))) → slice_get (slice_set ss k q) k ≡ r
        → on r (slice_set ss k q) (λ ops. slice_set (slice_set ss k q) k (slice_set ops c o)) ≡ slice_set ss k (slice_set q c o)
        → on r (a ∷ slice_set ss k q) (λ ops. a ∷ slice_set (slice_set ss k q) k (slice_set ops c o)) ≡ a ∷ slice_set ss k (slice_set q c o)
    go None e h = ap (λ (l : List (List (Option Op))). a ∷ l) h
    go (Some ops) e h = ap (λ (l : List (List (Option Op))). a ∷ l) h

-- a cell of a siding is put back, whether or not it was written
pub one_op : (s : State) (k c : ℕ) (x : Option Op) → ops_back (kept_op s k c) (slice_set s.sidings k (slice_set (siding_at s k) c x)) ≡ s.sidings
one_op s k c x = go (slice_get (siding_at s k) c) refl
  where
    go : (o : Option (Option Op)) → slice_get (siding_at s k) c ≡ o → ops_back (on o [] (λ o. record { siding = k; place = c; op = o } ∷ []))
        (slice_set s.sidings k (slice_set (siding_at s k) c x)) ≡ s.sidings
    go None e = ap (slice_set s.sidings k) (set_nowhere (siding_at s k) c x e) ∙ siding_same s.sidings k
    go (Some o) e = op_put s.sidings k c (slice_set (siding_at s k) c x) o ∙ ap (slice_set s.sidings k) (set_back (siding_at s k) c o x e)
        ∙ siding_same s.sidings k

pub no_op : (s : State) (k c : ℕ) → ops_back (kept_op s k c) s.sidings ≡ s.sidings
no_op s k c = go (slice_get (siding_at s k) c) refl
  where
    go : (o : Option (Option Op)) → slice_get (siding_at s k) c ≡ o → ops_back (on o [] (λ o. record { siding = k; place = c; op = o } ∷ [])) s.sidings
        ≡ s.sidings
    go None e = refl
    go (Some o) e = ap (λ (ss : List (List (Option Op))). ops_back (record { siding = k; place = c; op = o } ∷ []) ss) (sym (siding_same s.sidings k))
        ∙ op_put s.sidings k c (siding_at s k) o ∙ ap (slice_set s.sidings k) (set_same (siding_at s k) c o e) ∙ siding_same s.sidings k

pub no_ops : (s : State) (c : ℕ → ℕ) (o : Option ℕ) → ops_back (on o [] (λ k. kept_op s k (c k))) s.sidings ≡ s.sidings
no_ops s c None = refl
no_ops s c (Some k) = no_op s k (c k)
