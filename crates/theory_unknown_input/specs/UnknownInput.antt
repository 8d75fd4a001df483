-- Runs over an input whose remaining bytes are unknown: each move, and each step of the sequential machine, finds some
-- of it ("Counterflow Pipeline Processor Architecture", 1994; the input is outside the processor).
use Rattle.std.specs.Prelude.{◌≡◌, ℕ, zero, suc, ◌≤◌, List, [], ◌∷◌, ◌++◌, None}
use Rattle.rv_inst.specs.declared.isa.Isa.{Isa}
use Rattle.rv_machine.specs.After.{SameButInput}
use Rattle.rv_machine.specs.Machine.{Machine}
use Rattle.cf_layout.specs.Layout.{Plan}
use Rattle.cf_bind.specs.declared.moves.Move.{Move}
use Rattle.cf_semantics.specs.moves.Bars.{bar}
use Rattle.cf_semantics.specs.moves.Instructions.{Goes, step_here}
use Rattle.cf_semantics.specs.state.Layouts.{isa_of}
use Rattle.cf_semantics.specs.runs.Lines.{Line, lines_at, retires}
use Rattle.cf_semantics.specs.moves.Moves.{next}
use Rattle.cf_semantics.specs.claims.Refines.{Refines, gained}
use Rattle.cf_semantics.specs.state.State.{Moment}

-- the moment with this left of the input
abbrev pub finding : List ℕ → Moment → Moment
finding rest m = record m { rest = rest }

-- the moves lead from one moment to another, each allowed when it is made, and each finding some input; and these
-- instructions retire
unfoldable pub LeadsTo : Plan → Moment → List Move → Moment → List Line → Type 0
LeadsTo plan m [] last written = (last ≡ m) × (written ≡ [])
LeadsTo plan m (mv ∷ moves) last written =
    (rest : List ℕ) × (later : List Line) × (bar plan m.state mv ≡ None)
    × LeadsTo plan (next plan (finding rest m) mv) moves last later
    × (written ≡ retires plan m.state mv ++ later)

-- n steps, each of which finds some input, lead from one machine to another; and these instructions retire
unfoldable pub GoesTo : Isa → Machine → ℕ → Machine → List Line → Type 0
GoesTo isa start zero x written = SameButInput start x × (written ≡ [])
GoesTo isa start (suc n) x written =
    (before : Machine) × (next : Machine) × (earlier : List Line)
    × GoesTo isa start n before earlier × (step_here isa before ≡ Goes next) × SameButInput next x
    × (written ≡ earlier ++ lines_at isa before)

-- what is seen of the moment is what the sequential machine does: the count has not fallen; as many steps as have
-- retired since the start lead to a machine, with these lines; and with some input left it is what that machine does
-- next
pub record RefinesOverUnknownInput (plan : Plan) (start : Machine) (written : List Line) (m : Moment) : Type 0 where
  pub at : Machine
  pub rises : start.hart.retired ≤ m.state.retired
  pub goes : GoesTo (isa_of plan) start (gained start m.state) at written
  pub rest : List ℕ
  pub refines : Refines plan at [] (finding rest m)
