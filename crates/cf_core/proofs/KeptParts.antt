-- What holds of every processor is kept by a change of one part of its state.
use Rattle.std.proofs.Common.{◌≡◌, ℕ, zero, suc, List, [], ◌∷◌, All, Option, Some, None, length, map, length-set, refl, sym, ap, subst, ◌∙◌}
use Rattle.std.specs.Prelude.{slice_get, slice_set}
use Rattle.std.proofs.lemmas.List.Elements.{All-set, All-same}
use Rattle.std.proofs.lemmas.Option.{slice_get_within, get_or_from_slice_get}
use Rattle.mem_regions.specs.Memory.{Memory}
use Rattle.mem_regions.specs.Access.{Bounds, bounds_of}
use Rattle.cf_bind.specs.declared.cell.Cell.{Cell}
use Rattle.cf_bind.specs.declared.cell.Op.{Op}
use Rattle.cf_layout.specs.Layout.{Plan}
use Rattle.cf_semantics.specs.state.Layouts.{isa_of}
use Rattle.cf_semantics.specs.state.Options.{on}
use Rattle.cf_semantics.specs.state.State.{State, cell_at, put_cell, siding_at, with_cell, with_siding}
use Rattle.cf_passengers.specs.Facts.{IsWritable}
use Rattle.cf_sidings.specs.Sidings.{cells_in}
use Rattle.cf_core.specs.Processors.{AreOps, IsProcessor, IsCellOfSet}

-- it is kept whether or not a part is there, if it is kept in each case
pub kept-or : {A : Type 0} (plan : Plan) (o : Option A) (d : State) (f : A → State) → (o ≡ None → IsProcessor plan d) →
    ((a : A) → o ≡ Some a → IsProcessor plan (f a)) → IsProcessor plan (on o d f)
kept-or plan None d f g h = g refl
kept-or plan (Some a) d f g h = h a refl

pub kept-where : {A : Type 0} (plan : Plan) (s : State) (o : Option A) (f : A → State) → IsProcessor plan s → ((a : A) → o ≡ Some a → IsProcessor plan (f a)) →
    IsProcessor plan (on o s f)
kept-where plan s o f g h = kept-or plan o s f (λ e. g) h

-- what holds of each element holds of the one at an index
pub all-at : {A : Type 0} (P : A → Type 0) (xs : List A) (i : ℕ) (x : A) → All P xs → slice_get xs i ≡ Some x → P x
all-at P xs i x h e = subst P (get_or_from_slice_get xs i x x e) (h i x (slice_get_within xs i x e))

-- what holds of each stage holds of the contents of one
stage_in : (plan : Plan) (cells : List Cell) (i : ℕ) (c : Cell) → All (IsCellOfSet (isa_of plan)) cells → cell_at cells i ≡ Some c → IsCellOfSet (isa_of plan) c
stage_in plan cells zero c h e = absurd (cc)
stage_in plan cells (suc i) c h e = all-at (IsCellOfSet (isa_of plan)) cells i c h e

pub stage-at : (plan : Plan) (s : State) (i : ℕ) (c : Cell) → IsProcessor plan s → cell_at s.cells i ≡ Some c → IsCellOfSet (isa_of plan) c
stage-at plan s i c h e = stage_in plan s.cells i c h.cells e

-- a stage gets other contents
length_put : (cells : List Cell) (i : ℕ) (c : Cell) → length (put_cell cells i c) ≡ length cells
length_put cells zero c = refl
length_put cells (suc i) c = length-set cells i c

stages_put : (plan : Plan) (cells : List Cell) (i : ℕ) (c : Cell) → IsCellOfSet (isa_of plan) c → All (IsCellOfSet (isa_of plan)) cells →
    All (IsCellOfSet (isa_of plan)) (put_cell cells i c)
stages_put plan cells zero c p h = h
stages_put plan cells (suc i) c p h = All-set (IsCellOfSet (isa_of plan)) cells i c p h

pub cell-kept : (plan : Plan) (s : State) (i : ℕ) (c : Cell) → IsProcessor plan s → IsCellOfSet (isa_of plan) c → IsProcessor plan (with_cell s i c)
cell-kept plan s i c h p = record {
  accepted = h.accepted;
  stages = length_put s.cells i c ∙ h.stages;
  sidings = h.sidings;
  cells = stages_put plan s.cells i c p h.cells;
  ops = h.ops;
  lane = h.lane;
}

-- a siding gets other cells, as many as it had
lengths_set : (sidings : List (List (Option Op))) (k : ℕ) (ops : List (Option Op)) → length ops ≡ length (cells_in sidings k) →
    map length (slice_set sidings k ops) ≡ map length sidings
lengths_set [] k ops e = refl
lengths_set (o ∷ os) zero ops e = ap (λ (n : ℕ). n ∷ map length os) e
lengths_set (o ∷ os) (suc k) ops e = ap (λ (ns : List ℕ). length o ∷ ns) (lengths_set os k ops e)

each_set : (P : ℕ → List (Option Op) → Type 0) (sidings : List (List (Option Op))) (k : ℕ) (ops : List (Option Op)) → P k ops →
    ((j : ℕ) → P j (cells_in sidings j)) → (j : ℕ) → P j (cells_in (slice_set sidings k ops) j)
each_set P [] k ops p h j = h j
each_set P (o ∷ os) zero ops p h zero = p
each_set P (o ∷ os) zero ops p h (suc j) = h (suc j)
each_set P (o ∷ os) (suc k) ops p h zero = h zero
each_set P (o ∷ os) (suc k) ops p h (suc j) = each_set (λ (n : ℕ). P (suc n)) os k ops p (λ n. h (suc n)) j

pub siding-kept : (plan : Plan) (s : State) (k : ℕ) (ops : List (Option Op)) → IsProcessor plan s → length ops ≡ length (siding_at s k) →
    AreOps plan (bounds_of s.mem) k ops → IsProcessor plan (with_siding s k ops)
siding-kept plan s k ops h e p = record {
  accepted = h.accepted;
  stages = h.stages;
  sidings = lengths_set s.sidings k ops e ∙ h.sidings;
  cells = h.cells;
  ops = each_set (AreOps plan (bounds_of s.mem)) s.sidings k ops p h.ops;
  lane = h.lane;
}

-- the lane gets other requests; fetch, the cached values, the register file, the count and the ending change in any way
pub ends-kept : (plan : Plan) (s t : State) → IsProcessor plan s → t.cells ≡ s.cells → t.sidings ≡ s.sidings → t.mem ≡ s.mem → All IsWritable t.lane →
    IsProcessor plan t
ends-kept plan s t h same beside kept lane = record {
  accepted = h.accepted;
  stages = ap length same ∙ h.stages;
  sidings = ap (map length) beside ∙ h.sidings;
  cells = All-same (IsCellOfSet (isa_of plan)) t.cells s.cells same h.cells;
  ops = rw (beside, kept) h.ops;
  lane = lane;
}

-- memory gets other contents, but its regions stay
pub kept_bounds : (plan : Plan) (s : State) (mem : Memory) → IsProcessor plan s → bounds_of mem ≡ bounds_of s.mem → IsProcessor plan (record s { mem = mem })
kept_bounds plan s mem h e = record {
  accepted = h.accepted;
  stages = h.stages;
  sidings = h.sidings;
  cells = h.cells;
  ops = λ k. subst (λ (bounds : List Bounds). AreOps plan bounds k (siding_at s k)) (sym e) (h.ops k);
  lane = h.lane;
}
