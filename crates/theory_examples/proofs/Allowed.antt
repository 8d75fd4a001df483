-- Moves that are not barred are a run.
use Rattle.std.proofs.Common.{◌≡◌, List, [], ◌∷◌, Option, Some, None, refl}
use Rattle.cf_layout.specs.Layout.{Plan}
use Rattle.rv_machine.specs.Machine.{Machine}
use Rattle.cf_bind.specs.declared.moves.Bar.{Bar}
use Rattle.cf_bind.specs.declared.moves.Move.{Move}
use Rattle.cf_semantics.specs.state.Options.{on}
use Rattle.cf_semantics.specs.state.State.{State, Moment}
use Rattle.cf_semantics.specs.moves.Bars.{bar}
use Rattle.cf_semantics.specs.moves.Moves.{next}
use Rattle.cf_semantics.specs.runs.Runs.{IsRun, start}
use Rattle.theory_examples.specs.Follows.{EndsIn, IsBarred, after_moves}

-- the first bar on the way
abbrev pub first_bar : Plan → Moment → List Move → Option Bar
first_bar plan m [] = None
first_bar plan m (mv ∷ moves) = on (bar plan m.state mv) (first_bar plan (next plan m mv) moves) Some

pub is_run : (plan : Plan) (m : Moment) (moves : List Move) → first_bar plan m moves ≡ None → IsRun plan m moves
unfolding IsRun
is_run plan m [] e = tt
is_run plan m (mv ∷ moves) e = by (bar plan m.state mv) refl e (is_run plan (next plan m mv) moves)
  where
    by : (o : Option Bar) → bar plan m.state mv ≡ o → on o (first_bar plan (next plan m mv) moves) Some ≡ None →
        (first_bar plan (next plan m mv) moves ≡ None → IsRun plan (next plan m mv) moves) → (bar plan m.state mv ≡ None) × IsRun plan (next plan m mv) moves
    by None f e more = (f, more e)
    by (Some b) f e more = absurd (cc)

-- what has to be computed, put together
pub ends : {plan : Plan} {x : Machine} {moves : List Move} {s : State} → first_bar plan (start plan x) moves ≡ None → after_moves plan x moves ≡ s →
    EndsIn plan x moves s
ends {plan} {x} {moves} {s} e f = record { allowed = is_run plan (start plan x) moves e; ends = f }

pub barred : {plan : Plan} {x : Machine} {moves : List Move} {mv : Move} {why : Bar} → first_bar plan (start plan x) moves ≡ None →
    bar plan (after_moves plan x moves) mv ≡ Some why → IsBarred plan x moves mv why
barred {plan} {x} {moves} {mv} {why} e f = record { allowed = is_run plan (start plan x) moves e; barred = f }
