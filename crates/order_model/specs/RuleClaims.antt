-- What the table without a rule has in common with the table.
use Rattle.std.specs.Prelude.{◌≡◌, Option, Some, None}
use Rattle.cf_layout.specs.Layout.{Plan}
use Rattle.cf_bind.specs.declared.moves.Move.{Move}
use Rattle.cf_bind.specs.declared.moves.Bar.{Bar}
use Rattle.cf_semantics.specs.state.State.{State, Moment}
use Rattle.cf_semantics.specs.moves.Bars.{bar}
use Rattle.cf_semantics.specs.moves.Moves.{next}
use Rattle.order_rules.specs.declared.rule.Rule.{Rule}
use Rattle.order_model.specs.RuleBars.{bar_without, rule_of_bar}
use Rattle.order_model.specs.RuleMoves.{next_without}

-- if no rule is taken away, the bars are those of the table
abbrev pub HasTheBars : Type 0
HasTheBars = (plan : Plan) (s : State) (mv : Move) → bar_without None plan s mv ≡ bar plan s mv

-- and the moves do the same
abbrev pub HasTheMoves : Type 0
HasTheMoves = (plan : Plan) (m : Moment) (mv : Move) → next_without None plan m mv ≡ next plan m mv

-- taking a rule away bars no move that the table allows
abbrev pub BarsNoMore : Type 0
BarsNoMore = (away : Option Rule) (plan : Plan) (s : State) (mv : Move) → bar plan s mv ≡ None → bar_without away plan s mv ≡ None

-- if a move is allowed only without the rule, the bar of the table is that rule's
abbrev pub IsBarredByTheRule : Type 0
IsBarredByTheRule = (rule : Rule) (plan : Plan) (s : State) (mv : Move) (b : Bar) →
    bar plan s mv ≡ Some b → bar_without (Some rule) plan s mv ≡ None → rule_of_bar mv b ≡ Some rule
