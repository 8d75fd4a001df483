-- A write past the end of a list changes nothing.
use Rattle.std.proofs.Common.{◌≡◌, ℕ, zero, suc, ◌<◌, ◌≤◌, ◌-◌, ◌+◌, List, [], ◌∷◌, Option, Some, None, length, refl, ap, arith}
use Rattle.std.specs.Prelude.{slice_set, slice_get, slice_index_or}
use Rattle.std.proofs.lemmas.List.{set_past}
use Rattle.std.proofs.lemmas.Option.{slice_get_within, slice_get-get_or}
use Rattle.cf_bind.specs.declared.cell.Cell.{Cell}
use Rattle.cf_bind.specs.declared.cell.Op.{Op}
use Rattle.cf_semantics.specs.moves.Moves.{set_last}
use Rattle.cf_semantics.specs.state.Options.{on}
use Rattle.cf_semantics.specs.state.State.{put_cell}

pub put_inside : (cells : List Cell) (i : ℕ) (c : Cell) → 0 < i → put_cell cells i c ≡ slice_set cells (i - 1) c
put_inside cells zero c h = absurd (omega arith)
put_inside cells (suc k) c h = let e : suc k - 1 ≡ k = omega arith in rw e refl

pub put_below : (cells : List Cell) (i : ℕ) (c : Cell) → i ≡ 0 → put_cell cells i c ≡ cells
put_below cells i c e = rw e refl

pub put_above : (cells : List Cell) (i : ℕ) (c : Cell) → length cells < i → put_cell cells i c ≡ cells
put_above cells zero c h = refl
put_above cells (suc k) c h = set_past cells k c (omega arith)

-- new cells that are the same as the old ones
pub same_siding : (sidings : List (List (Option Op))) (k : ℕ) → slice_set sidings k (on (slice_get sidings k) [] (λ ops. ops)) ≡ sidings
same_siding [] k = refl
same_siding (ops ∷ sidings) zero = refl
same_siding (ops ∷ sidings) (suc k) = ap (λ (l : List (List (Option Op))). ops ∷ l) (same_siding sidings k)

pub last_of_none : (ops : List (Option Op)) (q : Option Op) → length ops ≡ 0 → set_last ops q ≡ ops
last_of_none [] q e = refl
last_of_none (o ∷ ops) q e = absurd (omega arith)

-- there is an entry of the cache for each of the 32 registers
pub cache_past : (cache : List (Option ℕ)) (r : ℕ) (v : Option ℕ) → length cache ≡ 32 → 32 ≤ r → slice_set cache r v ≡ cache
cache_past cache r v e h = set_past cache r v (omega arith)

-- a cell of a siding that does not exist
pub op_past : (sidings : List (List (Option Op))) (k c : ℕ) (q : Option Op) → length (on (slice_get sidings k) [] (λ ops. ops)) ≤ c →
    slice_set sidings k (slice_set (on (slice_get sidings k) [] (λ ops. ops)) c q) ≡ sidings
op_past sidings k c q h = rw (set_past (on (slice_get sidings k) [] (λ ops. ops)) c q h) (same_siding sidings k)

-- the last cell of a siding without cells
pub last_past : (sidings : List (List (Option Op))) (k : ℕ) (q : Option Op) → length (on (slice_get sidings k) [] (λ ops. ops)) ≤ 0 →
    slice_set sidings k (set_last (on (slice_get sidings k) [] (λ ops. ops)) q) ≡ sidings
last_past sidings k q h = rw (last_of_none (on (slice_get sidings k) [] (λ ops. ops)) q (omega arith)) (same_siding sidings k)

-- a siding with a cell exists
pub siding_within : (sidings : List (List (Option Op))) (k c : ℕ) → c < length (on (slice_get sidings k) [] (λ ops. ops)) → k < length sidings
siding_within [] k c h = absurd (omega arith)
siding_within (ops ∷ sidings) zero c h = omega arith
siding_within (ops ∷ sidings) (suc k) c h = let e = siding_within sidings k c h in omega arith

pub siding_there : (sidings : List (List (Option Op))) (k : ℕ) → k < length sidings →
    on (slice_get sidings k) [] (λ ops. ops) ≡ slice_index_or sidings k []
siding_there [] k h = absurd (omega arith)
siding_there (ops ∷ sidings) zero h = refl
siding_there (ops ∷ sidings) (suc k) h = siding_there sidings k (omega arith)

-- a cell of a siding by its index
pub cell_there : (ops : List (Option Op)) (c : ℕ) (o : Option Op) → slice_get ops (c + 1) ≡ Some o →
    (c < length ops) × (slice_get ops c ≡ Some (slice_index_or ops c None))
cell_there ops c o e = let h = slice_get_within ops (c + 1) o e in (omega arith, slice_get-get_or ops c None (omega arith))

pub ruleset sliding = (cell_there)

pub ruleset beyond = (set_past, put_inside, put_below, put_above, last_of_none, cache_past, op_past, last_past, siding_within)
