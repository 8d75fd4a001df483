-- Two neighbouring moves of a run that can be exchanged.
use Rattle.std.specs.Prelude.{◌≡◌, List, ◌∷◌, ◌++◌}
use Rattle.cf_layout.specs.Layout.{Plan}
use Rattle.cf_bind.specs.declared.moves.Move.{Move}
use Rattle.cf_semantics.specs.runs.Runs.{IsRun, run}
use Rattle.cf_semantics.specs.state.State.{Moment}
use Rattle.cf_timed.specs.declared.timed_move.TimedMove.{TimedMove}
use Rattle.cf_timed.specs.DelayedRuns.{DelayRule, timed_visits, visits_from}

-- each move has the same delay and the same time in both orders; in each list the last move comes first
pub record KeepsTimes (plan : Plan) (m : Moment) (rule : DelayRule) (front : List Move) (a b : Move) (rest : List Move) : Type 0 where
  pub late : List TimedMove
  pub early : List TimedMove
  pub first : TimedMove
  pub second : TimedMove
  pub first_is : first.mv ≡ a
  pub second_is : second.mv ≡ b
  pub one : timed_visits plan rule (visits_from plan m (front ++ a ∷ b ∷ rest)) ≡ late ++ (second ∷ first ∷ early)
  pub other : timed_visits plan rule (visits_from plan m (front ++ b ∷ a ∷ rest)) ≡ late ++ (first ∷ second ∷ early)

-- the moves in the other order are a run too, which leads to the same moment, and each keeps its delay and its time
pub record CanExchange (plan : Plan) (m : Moment) (rule : DelayRule) (front : List Move) (a b : Move) (rest : List Move) : Type 0 where
  pub allowed : IsRun plan m (front ++ b ∷ a ∷ rest)
  pub same : run plan m (front ++ b ∷ a ∷ rest) ≡ run plan m (front ++ a ∷ b ∷ rest)
  pub keeps : KeepsTimes plan m rule front a b rest
