-- The moves that are allowed over the stages, by their words.
use Rattle.std.proofs.Common.{◌≡◌, ◌≤◌}
use Rattle.std.specs.Prelude.{filter}
use Rattle.cf_layout.specs.Layout.{Plan}
use Rattle.cf_bind.specs.declared.moves.Move.TheVariants.{Climb, Fall, Meet, Execute, Send, Launch}
use Rattle.cf_semantics.specs.state.State.{State}
use Rattle.cf_index.specs.Allowed.{all_passing, climb_on, is_allowed, passing_of}
use Rattle.cf_index.specs.Listed.{passing_moves}
use Rattle.cf_index.proofs.Filled.{passing_chosen}
use Rattle.cf_index.proofs.Rows.{allowed-has}

pub passing-moves : (plan : Plan) (s : State) → plan.stages ≤ 32 → passing_moves (passing_of plan s) ≡ filter (is_allowed plan s) (all_passing plan)
unfolding passing_of
passing-moves plan s few =
    passing_chosen plan s (passing_of plan s) few (allowed-has plan s Climb) (allowed-has plan s Fall) (allowed-has plan s Meet) (allowed-has plan s Execute)
    (allowed-has plan s Send) (allowed-has plan s Launch)

pub climb-on : (plan : Plan) (s : State) → plan.stages ≤ 32 → climb_on plan s ≡ filter (is_allowed plan s) (all_passing plan)
unfolding passing_moves
climb-on plan s few = passing-moves plan s few
