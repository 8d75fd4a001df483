-- Lists of moves, each of which the table without a rule allows when it is made, with at most this many Issue moves.
use Rattle.std.specs.Prelude.{ℕ, ◌+◌, List, [], ◌∷◌, Option, nat_lt}
use Rattle.std.specs.List.{Contains}
use Rattle.cf_layout.specs.Layout.{Plan}
use Rattle.cf_bind.specs.declared.moves.Move.{Move}
use Rattle.cf_semantics.specs.claims.Weight.{counts, is_issue}
use Rattle.cf_semantics.specs.moves.Candidates.{all_moves}
use Rattle.cf_semantics.specs.state.State.{State, Moment}
use Rattle.theory_orders.specs.Wrong.{leading}
use Rattle.order_rules.specs.declared.rule.Rule.{Rule}
use Rattle.order_model.specs.RuleBars.{bar_without}
use Rattle.order_model.specs.RuleMoves.{next_without}

-- the moves that lead on from a state, after this many Issue moves
abbrev pub moves_on : Option Rule → Plan → ℕ → State → ℕ → List Move
moves_on away plan most s issued = leading (bar_without away plan s) (nat_lt issued most) (all_moves plan)

-- the number of Issue moves after this move
abbrev pub issued_with : ℕ → Move → ℕ
issued_with issued mv = issued + counts (is_issue mv) 1

-- each move of the list leads on from the state in which it is made
unfoldable pub IsOrder : Option Rule → Plan → ℕ → Moment → ℕ → List Move → Type 0
IsOrder away plan most m issued [] = Unit {0}
IsOrder away plan most m issued (mv ∷ moves) =
    Contains (moves_on away plan most m.state issued) mv × IsOrder away plan most (next_without away plan m mv) (issued_with issued mv) moves

-- the moment after the moves
unfoldable pub moment_after_without : Option Rule → Plan → Moment → List Move → Moment
moment_after_without away plan m [] = m
moment_after_without away plan m (mv ∷ moves) = moment_after_without away plan (next_without away plan m mv) moves
