-- A sweep lists what is allowed from one kind of move on. Its first move is the next pick of a rule that goes round in
-- the order of all moves; if it has none, no move but an Issue comes after the last pick.
use Rattle.std.specs.Prelude.{◌≡◌, ℕ, List, [], ◌∷◌, ◌++◌, Bool, true, false, Option, Some, None, filter, find, slice_get}
use Rattle.run_options.specs.declared.guess_rule.GuessRule.{GuessRule}
use Rattle.cf_layout.specs.Layout.{Plan}
use Rattle.cf_bind.specs.declared.moves.Move.{Move}
use Rattle.cf_bind.specs.declared.moves.Move.TheVariants.{Emit, Exit, Leave, Recover, Serve}
use Rattle.cf_semantics.specs.moves.Candidates.{at_stages, slides_from}
use Rattle.cf_semantics.specs.state.State.{State}
use Rattle.cf_index.specs.declared.pipe_ends.AtTop.{AtTop}
use Rattle.cf_index.specs.declared.pipe_ends.AtTop.TheVariants as at
use Rattle.cf_index.specs.Allowed.{all_leaving, allowed_others, climb_on, execute_on, fall_on, is_allowed, launch_on, meet_on, send_on, withheld}
use Rattle.cf_index.specs.GuessRules.{guided}
use Rattle.cf_index.specs.Listed.{at_word}
use Rattle.cf_index.specs.Order.{first_after, is_after}

-- what is allowed of the kinds after those over the stages
abbrev pub outward_on : Plan → State → List Move
outward_on plan s = filter (is_allowed plan s) (slides_from 0 plan.sidings) ++ filter (is_allowed plan s) (all_leaving plan)

-- what is allowed of a kind over the stages and of the kinds after it
unfoldable pub from_climb : Plan → State → List Move
from_climb plan s = climb_on plan s ++ outward_on plan s

unfoldable pub from_fall : Plan → State → List Move
from_fall plan s = fall_on plan s ++ outward_on plan s

unfoldable pub from_meet : Plan → State → List Move
from_meet plan s = meet_on plan s ++ outward_on plan s

unfoldable pub from_execute : Plan → State → List Move
from_execute plan s = execute_on plan s ++ outward_on plan s

unfoldable pub from_send : Plan → State → List Move
from_send plan s = send_on plan s ++ outward_on plan s

unfoldable pub from_launch : Plan → State → List Move
from_launch plan s = launch_on plan s ++ outward_on plan s

-- what is allowed, except for each Issue
unfoldable pub from_emit : Plan → State → List Move
from_emit plan s = filter (is_allowed plan s) (Emit ∷ []) ++ from_climb plan s

-- what is allowed of the kinds after Slide, and of those after each of them
unfoldable pub from_access : Plan → State → List Move
from_access plan s = filter (is_allowed plan s) (all_leaving plan)

unfoldable pub from_recover : Plan → State → List Move
from_recover plan s = filter (is_allowed plan s) (at_stages plan Recover ++ Leave ∷ Exit ∷ Serve ∷ [])

unfoldable pub from_leave : Plan → State → List Move
from_leave plan s = filter (is_allowed plan s) (Leave ∷ Exit ∷ Serve ∷ [])

unfoldable pub from_exit : Plan → State → List Move
from_exit plan s = filter (is_allowed plan s) (Exit ∷ Serve ∷ [])

unfoldable pub from_serve : Plan → State → List Move
from_serve plan s = filter (is_allowed plan s) (Serve ∷ [])

-- what the instruction of the highest stage can do: leave, or else be served, or neither
abbrev pub top_by : (leaves serves : Bool) → AtTop
top_by true serves = at.Leaves
top_by false true = at.Serves
top_by false false = at.Stays

abbrev pub at_top : Plan → State → AtTop
at_top plan s = top_by (is_allowed plan s Leave) (is_allowed plan s Serve)

-- after Serve there is no kind left
abbrev pub from_end : Plan → State → List Move
from_end plan s = []

-- the moves of a kind at the stages of a word, and what is allowed of the kinds after it
abbrev pub left_then : (ℕ → Move) → ℕ → (beyond : Plan → State → List Move) → Plan → State → List Move
left_then kind w beyond plan s = at_word kind w ++ beyond plan s

-- no allowed move but an Issue comes after the last pick
unfoldable pub IsLast : Plan → State → (last : Option Move) → Type 0
IsLast plan s last = find (is_after last) (allowed_others plan s) ≡ None

-- the move is the first that is offered after the last pick
abbrev pub IsPicked : GuessRule → (held : Bool) → Plan → State → (last : Option Move) → Move → Type 0
IsPicked rule held plan s last mv = slice_get (withheld held (guided rule plan s)) (first_after last (withheld held (guided rule plan s))) ≡ Some mv

-- the first of these moves is picked after the last pick; if there is none, no move but an Issue comes after it
pub record FindsPick (rule : GuessRule) (held : Bool) (plan : Plan) (s : State) (last : Option Move) (moves : List Move) : Type 0 where
  pub here : (mv : Move) → slice_get moves 0 ≡ Some mv → IsPicked rule held plan s last mv
  pub gone : moves ≡ [] → IsLast plan s last

unfoldable pub IsPickedFrom : GuessRule → (held : Bool) → Plan → State → (last : Option Move) → List Move → Type 0
IsPickedFrom rule held plan s last moves = FindsPick rule held plan s last moves
