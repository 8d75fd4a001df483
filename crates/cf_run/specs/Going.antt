-- Moves made one after another from a processor, and where they lead ("Counterflow Pipeline Processor Architecture",
-- 1994: any schedule of local actions is a run).
use Rattle.std.specs.Prelude.{◌≡◌, ℕ, ◌<◌, List, [], ◌∷◌, Option, Some, None}
use Rattle.cf_layout.specs.Layout.{Plan}
use Rattle.cf_semantics.specs.moves.Bars.{bar}
use Rattle.cf_semantics.specs.moves.Events.{IsEvent}
use Rattle.cf_semantics.specs.moves.Moves.{next}
use Rattle.cf_semantics.specs.runs.Runs.{IsRun, run}
use Rattle.cf_semantics.specs.state.State.{Moment}
use Rattle.cf_core.specs.Processors.{Processor}
use Rattle.cf_run.specs.Made.{Made, moves_of}

-- the processor at a moment, with this input and nothing written yet
abbrev pub moment_of : Processor → List ℕ → Moment
moment_of core rest = record { state = core.state; rest = rest; output = [] }

-- the input that a move finds: what the moves before it have left, if the input exposes that, and any input otherwise
abbrev pub Finds : Option (List ℕ) → (left rest : List ℕ) → Type 0
Finds None left rest = Unit {0}
Finds (Some told) left rest = rest ≡ left

-- the move was made at this moment: fewer instructions had retired than the limit, nothing barred it, and this was its
-- event and the state after it
pub record IsMade (plan : Plan) (limit : ℕ) (m : Moment) (made : Made) : Type 0 where
  pub below : m.state.retired < limit
  pub allowed : bar plan m.state made.move ≡ None
  pub event : IsEvent plan m.state made.move made.event
  pub state : made.state ≡ (next plan m made.move).state

-- the moves lead from one moment to another, each made at the moment to which the one before it leads
unfoldable pub Leads : Plan → ℕ → Option (List ℕ) → Moment → List Made → Moment → Type 0
Leads plan limit told m [] last = last ≡ m
Leads plan limit told m (made ∷ trace) last =
    (rest : List ℕ) × Finds told m.rest rest × IsMade plan limit (record m { rest = rest }) made
    × Leads plan limit told (next plan (record m { rest = rest }) made.move) trace last

-- over an input whose remaining bytes are known they are a run, which ends at that moment
abbrev pub RunsTo : Plan → Option (List ℕ) → Moment → List Made → Moment → Type 0
RunsTo plan None m trace last = Unit {0}
RunsTo plan (Some told) m trace last = IsRun plan m (moves_of trace) × (last ≡ run plan m (moves_of trace))
