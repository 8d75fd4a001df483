-- The hold rule: Issue moves are counted, and once there are twice as many as stages, Issue is held back.
use Rattle.std.specs.Prelude.{ℕ, ◌+◌, ◌*◌, List, Bool, true, false, ◌||◌, nat_le, if◌then◌else◌}
use Rattle.cf_layout.specs.Layout.{Plan}
use Rattle.cf_bind.specs.declared.moves.Move.{Move}
use Rattle.cf_semantics.specs.declared.event.Event.{Event}
use Rattle.cf_semantics.specs.declared.event.Event.TheVariants as event
use Rattle.cf_semantics.specs.state.State.{State}
use Rattle.cf_semantics.specs.claims.Weight.{is_issue}
use Rattle.cf_semantics.specs.moves.Candidates.{candidates, held_back}

-- the event is a retirement
abbrev pub is_retirement : Event → Bool
is_retirement (event.Retired line) = true
is_retirement _ = false

-- the count of Issue moves since the start, the last retirement, or the last drained state, whichever is latest, after
-- one more move
unfoldable pub paced : ℕ → Move → Event → Bool → ℕ
paced count mv e drained = if is_retirement e || drained then 0 else (if is_issue mv then count + 1 else count)

-- the candidates are held once the count is at least twice the number of stages
abbrev pub is_held : Plan → ℕ → Bool
is_held plan count = nat_le (2 * plan.stages) count

-- what a policy is offered at this count of Issue moves: the candidates, with Issue held back or not
unfoldable pub offered : Plan → ℕ → State → List Move
offered plan count s = if is_held plan count then held_back (candidates plan s) else candidates plan s
