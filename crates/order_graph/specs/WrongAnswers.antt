-- What a wrong list of moves shows.
use Rattle.std.specs.Prelude.{◌≡◌, count_by, List, [], ◌∷◌, ◌++◌, Option, Some, None}
use Rattle.rv_machine.specs.After.{after}
use Rattle.rv_machine.specs.declared.outcome.Retired.{Retired}
use Rattle.cf_bind.specs.declared.moves.Move.{Move}
use Rattle.cf_bind.specs.declared.passenger.Passenger.{Passenger}
use Rattle.cf_semantics.specs.claims.Refines.{gained}
use Rattle.cf_semantics.specs.runs.Lines.{Line, line_of, line_read, lines_at}
use Rattle.cf_semantics.specs.state.Layouts.{isa_of}
use Rattle.cf_semantics.specs.state.Options.{on}
use Rattle.cf_semantics.specs.state.State.{State}
use Rattle.order_keys.specs.Situations.{without_memory}
use Rattle.order_model.specs.RuleMoves.{retires_without}
use Rattle.order_graph.specs.declared.found.OrderCounts.{OrderCounts}
use Rattle.order_graph.specs.OrderCounts.{is_meeting, is_kill, is_death, count_made}
use Rattle.order_graph.specs.OrderTrial.{OrderTrial, first_moment, reached_by}

-- the lines of the machine's next step, after as many steps as instructions have retired in this state
abbrev pub lines_wanted : OrderTrial → State → List Line
lines_wanted t s = on (after (isa_of t.plan) t.machine (gained t.machine s)) [] (lines_at (isa_of t.plan))

-- the state that the list leads to, without its memory; the counts of its moves; the line that its last move retires,
-- if it retires one; and the line of the machine's next step before that move, if that step does not end the program
pub record ShowsWrong (t : OrderTrial) (moves : List Move) (reached : State) (counts : OrderCounts) (seen : Option Passenger)
    (wanted : Option Retired) : Type 0 where
  pub before : List Move
  pub last : Move
  pub whole : moves ≡ before ++ last ∷ []
  pub state : reached ≡ without_memory (reached_by t moves).state
  pub meets : counts.meets ≡ count_by is_meeting moves
  pub kills : counts.kills ≡ count_made (is_kill t.away) t.away t.plan (first_moment t) moves
  pub dead : counts.dead ≡ count_made (is_death t.away) t.away t.plan (first_moment t) moves
  pub saw : on seen None (λ p. Some (line_of p)) ≡ retires_without t.away t.plan (reached_by t before).state last
  pub machine : on wanted [] (λ l. line_read (isa_of t.plan) l ∷ []) ≡ lines_wanted t (reached_by t before).state
