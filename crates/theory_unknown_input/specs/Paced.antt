-- Runs under the hold rule over an input whose remaining bytes are unknown ("Counterflow Pipeline Processor
-- Architecture", 1994; the input is outside the processor).
use Rattle.std.specs.Prelude.{◌≡◌, ℕ, List, [], ◌∷◌, ◌++◌, None, true}
use Rattle.cf_layout.specs.Layout.{Plan}
use Rattle.cf_bind.specs.declared.moves.Move.{Move}
use Rattle.cf_semantics.specs.declared.event.Event.{Event}
use Rattle.cf_semantics.specs.moves.Bars.{bar}
use Rattle.cf_semantics.specs.state.Drained.{IsStuck, is_drained}
use Rattle.cf_semantics.specs.moves.Events.{IsEvent}
use Rattle.cf_semantics.specs.moves.Holding.{is_held, paced}
use Rattle.cf_semantics.specs.runs.Lines.{Line, retires}
use Rattle.cf_semantics.specs.moves.Moves.{next}
use Rattle.cf_semantics.specs.state.State.{Moment}
use Rattle.cf_semantics.specs.claims.Weight.{is_issue}
use Rattle.theory_unknown_input.specs.UnknownInput.{finding}

-- with this many Issue moves counted before the first of the moves: the moves lead from one moment to another, each
-- allowed when it is made and finding some input, and while the candidates are held no move is an Issue unless no other
-- move is allowed; and these instructions retire
unfoldable pub PacesTo : Plan → ℕ → Moment → List Move → Moment → List Line → Type 0
PacesTo plan count m [] last written = (last ≡ m) × (written ≡ [])
PacesTo plan count m (mv ∷ moves) last written =
    (rest : List ℕ) × (later : List Line) × (e : Event) × (bar plan m.state mv ≡ None)
    × (is_held plan count ≡ true → is_issue mv ≡ true → IsStuck plan m.state)
    × IsEvent plan m.state mv e
    × PacesTo plan (paced count mv e (is_drained (next plan (finding rest m) mv).state)) (next plan (finding rest m) mv) moves last later
    × (written ≡ retires plan m.state mv ++ later)
