-- Runs under the hold rule: once the Issue moves since the last retirement or the last drained state are twice as many
-- as the stages, no Issue is made while another move is allowed.
use Rattle.std.specs.Prelude.{◌≡◌, ℕ, List, [], ◌∷◌, None, true}
use Rattle.cf_layout.specs.Layout.{Plan}
use Rattle.cf_bind.specs.declared.moves.Move.{Move}
use Rattle.cf_semantics.specs.declared.event.Event.{Event}
use Rattle.cf_semantics.specs.state.State.{Moment}
use Rattle.cf_semantics.specs.moves.Bars.{bar}
use Rattle.cf_semantics.specs.moves.Moves.{next}
use Rattle.cf_semantics.specs.moves.Events.{IsEvent}
use Rattle.cf_semantics.specs.claims.Weight.{is_issue}
use Rattle.cf_semantics.specs.state.Drained.{IsStuck, is_drained}
use Rattle.cf_semantics.specs.moves.Holding.{is_held, paced}

-- with this many Issue moves counted before the first of the moves: each move is allowed when it is made, and while the
-- candidates are held it is not an Issue unless no other move is allowed
unfoldable pub IsPaced : Plan → ℕ → Moment → List Move → Type 0
IsPaced plan count m [] = Unit {0}
IsPaced plan count m (mv ∷ moves) =
    (bar plan m.state mv ≡ None)
    × (is_held plan count ≡ true → is_issue mv ≡ true → IsStuck plan m.state)
    × ((e : Event) × IsEvent plan m.state mv e × IsPaced plan (paced count mv e (is_drained (next plan m mv).state)) (next plan m mv) moves)
