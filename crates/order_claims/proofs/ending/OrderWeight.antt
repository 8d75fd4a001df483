-- The weight of a state in the table without a rule: whichever rule is taken away, each move except Issue lowers it. So
-- the number of moves in a list is bounded in terms of its Issue moves.
use Rattle.std.specs.Prelude.{ℕ, zero, suc, ◌+◌, ◌-◌, ◌*◌, ◌≤◌, List, [], ◌∷◌, Option, Some, None, not, length}
use Rattle.cf_bind.specs.declared.cell.Cell.{Cell}
use Rattle.cf_bind.specs.declared.cell.Op.{Op}
use Rattle.cf_bind.specs.declared.passenger.Passenger.{Passenger}
use Rattle.cf_semantics.specs.claims.Weight.{counts}
use Rattle.cf_semantics.specs.moves.Bars.{is_full}
use Rattle.cf_semantics.specs.state.Options.{on, is_some}
use Rattle.cf_semantics.specs.state.State.{State}

-- an instruction in stage i of n, where no siding has more than d cells
unfoldable pub rider_weight : ℕ → ℕ → ℕ → Passenger → ℕ
rider_weight n d i p =
    2 * (n - i) + 1 + counts (not p.done) (2 * n + 1) + counts (not p.launched) (d + 2) + counts (not p.recovered) (2 * n)
    + counts (is_some p.owes) (2 * n)

-- a stage: its instruction, its result, and 1 more while the two have not met
unfoldable pub stage_weight : ℕ → ℕ → ℕ → Cell → ℕ
stage_weight n d i c = on c.passenger 0 (rider_weight n d i) + on c.packet 0 (λ k. 2 * i - 1) + counts (is_full c) 1

-- the stages from number i on
abbrev pub stages_weight : ℕ → ℕ → ℕ → List Cell → ℕ
stages_weight n d i [] = 0
stages_weight n d i (c ∷ cells) = stage_weight n d i c + stages_weight n d (suc i) cells

-- an operation with this many cells after its own
unfoldable pub flight_weight : ℕ → Option Op → ℕ
flight_weight after None = 0
flight_weight after (Some op) = after + 1 + counts (not (is_some op.answer)) 1

-- a siding, and all sidings
abbrev pub flights_weight : List (Option Op) → ℕ
flights_weight [] = 0
flights_weight (o ∷ ops) = flight_weight (length ops) o + flights_weight ops

abbrev pub all_flights_weight : List (List (Option Op)) → ℕ
all_flights_weight [] = 0
all_flights_weight (ops ∷ sidings) = flights_weight ops + all_flights_weight sidings

-- the requested registers
abbrev pub lane_weight : ℕ → List ℕ → ℕ
lane_weight n [] = 0
lane_weight n (r ∷ lane) = 2 * n + 1 + lane_weight n lane

-- a state
unfoldable pub order_weight : ℕ → ℕ → State → ℕ
order_weight n d s = stages_weight n d 1 s.cells + all_flights_weight s.sidings + lane_weight n s.lane

-- no siding has more than d cells
abbrev pub AreShort : ℕ → List (List (Option Op)) → Type 0
AreShort d [] = Unit {0}
AreShort d (ops ∷ sidings) = (length ops ≤ d) × AreShort d sidings

-- Issue raises the weight by less than this
abbrev pub issue_weight : ℕ → ℕ → ℕ
issue_weight n d = 14 * n + d + 10

-- the amount that this many Issue moves may add
abbrev pub issues_weight : ℕ → ℕ → ℕ → ℕ
issues_weight n d zero = 0
issues_weight n d (suc issues) = issue_weight n d + issues_weight n d issues
