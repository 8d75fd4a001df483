-- The weight of a state: each move but Issue lowers it, and Issue raises it by less than K.
use Rattle.std.specs.Prelude.{ℕ, suc, ◌+◌, ◌-◌, ◌*◌, List, [], ◌∷◌, Option, Some, None, Bool, true, false, ◌&&◌, not, if◌then◌else◌, length, nat_lt}
use Rattle.cf_layout.specs.Layout.{SidingPlan, Plan}
use Rattle.cf_bind.specs.declared.cell.Cell.{Cell}
use Rattle.cf_bind.specs.declared.cell.Op.{Op}
use Rattle.cf_bind.specs.declared.passenger.Passenger.{Passenger}
use Rattle.cf_bind.specs.declared.moves.Move.{Move}
use Rattle.cf_bind.specs.declared.moves.Move.TheVariants.{Issue}
use Rattle.cf_semantics.specs.state.Options.{on, is_some}
use Rattle.cf_semantics.specs.moves.Instructions.{kind_of, is_memory}
use Rattle.cf_semantics.specs.state.State.{State}
use Rattle.cf_semantics.specs.moves.Bars.{is_full}

-- n if the test holds, otherwise 0
abbrev pub counts : Bool → ℕ → ℕ
counts true n = n
counts false n = 0

abbrev pub larger : ℕ → ℕ → ℕ
larger a b = if nat_lt a b then b else a

-- the maximum number of cells of a siding
unfoldable pub most_cells : List SidingPlan → ℕ
most_cells [] = 0
most_cells (siding ∷ sidings) = larger siding.cells (most_cells sidings)

-- an instruction in stage i of n, where d is the maximum number of cells of a siding
abbrev pub passenger_weight : ℕ → ℕ → ℕ → Passenger → ℕ
passenger_weight n d i p =
    2 * (n - i) + 1 + counts (not p.dead && not p.done) (2 * n)
    + counts (not p.dead && not p.done && not p.launched) (d + 3) + counts (is_some p.owes) (2 * n)

-- a stage: the weights of its instruction and its result, and 1 more while the two have not met
unfoldable pub cell_weight : ℕ → ℕ → ℕ → Cell → ℕ
cell_weight n d i c =
    on c.passenger 0 (passenger_weight n d i) + on c.packet 0 (λ k. 2 * i - 1) + counts (is_full c) 1

-- the stages from number i on
abbrev pub cells_weight : ℕ → ℕ → ℕ → List Cell → ℕ
cells_weight n d i [] = 0
cells_weight n d i (c ∷ cs) = cell_weight n d i c + cells_weight n d (suc i) cs

-- the content of cell c of a siding of n cells
unfoldable pub op_weight : ℕ → ℕ → Option Op → ℕ
op_weight n c None = 0
op_weight n c (Some op) = (n - c) + counts (is_memory (kind_of op.instr) && not (is_some op.answer)) 1

abbrev pub siding_weight : ℕ → ℕ → List (Option Op) → ℕ
siding_weight n c [] = 0
siding_weight n c (o ∷ ops) = op_weight n c o + siding_weight n (suc c) ops

abbrev pub sidings_weight : List (List (Option Op)) → ℕ
sidings_weight [] = 0
sidings_weight (ops ∷ sidings) = siding_weight (length ops) 0 ops + sidings_weight sidings

-- the weight of a state
unfoldable pub weight : Plan → State → ℕ
weight plan s =
    cells_weight plan.stages (most_cells plan.sidings) 1 s.cells + sidings_weight s.sidings
    + (2 * plan.stages + 1) * length s.lane

-- K: Issue raises the weight by less than this
unfoldable pub moves_per_issue : Plan → ℕ
moves_per_issue plan = 8 * plan.stages + most_cells plan.sidings + 8

abbrev pub is_issue : Move → Bool
is_issue (Issue g) = true
is_issue _ = false

-- how many Issue moves a list has
abbrev pub issues : List Move → ℕ
issues [] = 0
issues (mv ∷ moves) = counts (is_issue mv) 1 + issues moves
