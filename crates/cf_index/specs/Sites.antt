-- Which places of the processor a move uses: the stages and the cells of sidings that it reads and may write, the lane,
-- what fetch does, the memory and the code. Moves that use no place in common can be made at one time.
use Rattle.std.specs.Prelude.{ℕ, ◌+◌, ◌-◌, ◌<◌, List, [], ◌∷◌, length, map, filter, Bool, ◌==◌}
use Rattle.std.specs.List.{AllByRecursion, list_any}
use Rattle.cf_layout.specs.Layout.{Plan, launch_stage, recover_stage, cells_of}
use Rattle.cf_layout.specs.Accepted.{IsStage}
use Rattle.cf_bind.specs.declared.moves.Move.{Move}
use Rattle.cf_bind.specs.declared.moves.Move.TheVariants.{Issue, Emit, Climb, Fall, Meet, Execute, Send, Launch, Slide, Access, Recover, Leave, Exit, Serve}
use Rattle.cf_semantics.specs.moves.Candidates.{counted_from}
use Rattle.cf_semantics.specs.state.Layouts.{port}
use Rattle.cf_semantics.specs.moves.Sites.{Site, Stage, SidingCell, Lane, Fetching, Memory, Code, among}

-- the numbers of the sidings that pass a test
abbrev pub sidings_where : Plan → (ℕ → Bool) → List ℕ
sidings_where plan test = filter test (counted_from 0 (length plan.sidings))

-- the first cell of a siding, by which operations enter it
abbrev pub way_in : ℕ → Site
way_in k = SidingCell k 0

-- the last cell of a siding, from which operations are taken
abbrev pub way_out : Plan → ℕ → Site
way_out plan k = SidingCell k (cells_of plan k - 1)

-- the first cells of the sidings that launch at the stage
unfoldable pub ways_in : Plan → ℕ → List Site
ways_in plan i = map way_in (sidings_where plan (λ k. launch_stage plan k == i))

-- the last cells of the sidings that recover at the stage
unfoldable pub ways_out : Plan → ℕ → List Site
ways_out plan i = map (way_out plan) (sidings_where plan (λ k. recover_stage plan k == i))

-- the table: the places that a move uses
abbrev pub used : Plan → Move → List Site
used plan (Issue g) = Stage 1 ∷ Lane ∷ Fetching ∷ Code ∷ []
used plan Emit = Stage plan.stages ∷ Lane ∷ []
used plan (Climb i) = Stage i ∷ Stage (i + 1) ∷ []
used plan (Fall i) = Stage i ∷ Stage (i - 1) ∷ []
used plan (Meet i) = Stage i ∷ []
used plan (Execute i) = Stage i ∷ []
used plan (Send i) = Stage i ∷ []
used plan (Launch i) = Stage i ∷ ways_in plan i
used plan (Slide k c) = SidingCell k c ∷ SidingCell k (c + 1) ∷ []
used plan Access = way_out plan (port plan) ∷ Memory ∷ []
used plan (Recover i) = Stage i ∷ ways_out plan i
used plan Leave = Stage plan.stages ∷ []
used plan Exit = Stage 1 ∷ Fetching ∷ []
used plan Serve = Stage plan.stages ∷ Memory ∷ Code ∷ []

-- the move uses the place
unfoldable pub uses_place : Plan → Move → Site → Bool
uses_place plan mv x = among x (used plan mv)

-- the two moves use a place in common
unfoldable pub shares : Plan → Move → Move → Bool
shares plan a b = list_any (uses_place plan b) (used plan a)

-- a stage, or a cell of a siding, is one that the layout has
abbrev pub LayoutHasSite : Plan → Site → Type 0
LayoutHasSite plan (Stage i) = IsStage plan i
LayoutHasSite plan (SidingCell k c) = (k < length plan.sidings) × (c < cells_of plan k)
LayoutHasSite plan _ = Unit {0}

-- the layout has each stage and each cell that the move uses
abbrev pub HasSites : Plan → Move → Type 0
HasSites plan mv = AllByRecursion (LayoutHasSite plan) (used plan mv)
