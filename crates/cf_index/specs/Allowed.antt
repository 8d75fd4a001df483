-- Which moves are allowed, by the parts of the list of all moves.
use Rattle.std.specs.Prelude.{◌≡◌, ℕ, ◌+◌, List, [], ◌∷◌, ◌++◌, Bool, true, false, ◌&&◌, not, nat_lt, filter, length, if◌then◌else◌}
use Rattle.run_options.specs.declared.guess_rule.GuessRule.{GuessRule}
use Rattle.cf_layout.specs.Layout.{Plan}
use Rattle.cf_layout.specs.Words.{has_bit}
use Rattle.cf_bind.specs.declared.passenger.Guess.{Guess}
use Rattle.cf_bind.specs.declared.passenger.Guess.TheVariants as guess
use Rattle.cf_bind.specs.declared.moves.Move.{Move}
use Rattle.cf_bind.specs.declared.moves.Move.TheVariants.{Issue, Emit, Climb, Fall, Meet, Execute, Send, Launch, Access, Recover, Leave, Exit, Serve}
use Rattle.cf_bind.specs.declared.packet.Fetch.{Fetch}
use Rattle.cf_bind.specs.declared.packet.Fetch.TheVariants.{Running, Waiting}
use Rattle.cf_semantics.specs.state.Options.{is_some}
use Rattle.cf_semantics.specs.state.State.{State}
use Rattle.cf_semantics.specs.moves.Bars.{bar}
use Rattle.cf_semantics.specs.moves.Candidates.{at_stages, held_back, slides_from}
use Rattle.cf_stages.specs.Changes.{passenger_at}
use Rattle.cf_stages.specs.Words.{word_of}
use Rattle.cf_index.specs.declared.passing.Passing.{Passing}
use Rattle.cf_index.specs.GuessRules.{keeps_move, keeps_guess}
use Rattle.cf_index.specs.Listed.{at_word}
use Rattle.cf_index.specs.Words.{goes_on}

-- nothing bars the move
abbrev pub is_allowed : Plan → State → Move → Bool
is_allowed plan s mv = not (is_some (bar plan s mv))

-- the word has bit i - 1 if and only if the move of this kind is allowed at stage i of the layout
abbrev pub HasStages : Plan → State → (ℕ → Move) → ℕ → Type 0
HasStages plan s kind w = (k : ℕ) → has_bit w k ≡ (nat_lt k plan.stages && is_allowed plan s (kind (k + 1)))

-- the stages at which the move of this kind is allowed, as a word
abbrev pub word_allowed : Plan → State → (ℕ → Move) → ℕ
word_allowed plan s kind = word_of (λ i. is_allowed plan s (kind i)) plan.stages

-- the words of what is allowed over the stages
unfoldable pub passing_of : Plan → State → Passing
passing_of plan s = record {
  climb = word_allowed plan s Climb;
  fall = word_allowed plan s Fall;
  meet = word_allowed plan s Meet;
  execute = word_allowed plan s Execute;
  send = word_allowed plan s Send;
  launch = word_allowed plan s Launch;
}

-- what is allowed over the stages, from a given kind of move on
abbrev pub launch_on : Plan → State → List Move
launch_on plan s = at_word Launch (passing_of plan s).launch

abbrev pub send_on : Plan → State → List Move
send_on plan s = at_word Send (passing_of plan s).send ++ launch_on plan s

abbrev pub execute_on : Plan → State → List Move
execute_on plan s = at_word Execute (passing_of plan s).execute ++ send_on plan s

abbrev pub meet_on : Plan → State → List Move
meet_on plan s = at_word Meet (passing_of plan s).meet ++ execute_on plan s

abbrev pub fall_on : Plan → State → List Move
fall_on plan s = at_word Fall (passing_of plan s).fall ++ meet_on plan s

abbrev pub climb_on : Plan → State → List Move
climb_on plan s = at_word Climb (passing_of plan s).climb ++ fall_on plan s

-- the parts of the list of all moves
abbrev pub all_entering : List Move
all_entering = Issue guess.Next ∷ Issue guess.Taken ∷ Issue guess.Wait ∷ Emit ∷ []

abbrev pub all_passing : Plan → List Move
all_passing plan =
    at_stages plan Climb ++ (at_stages plan Fall ++ (at_stages plan Meet
    ++ (at_stages plan Execute ++ (at_stages plan Send ++ at_stages plan Launch))))

abbrev pub all_leaving : Plan → List Move
all_leaving plan = Access ∷ (at_stages plan Recover ++ Leave ∷ Exit ∷ Serve ∷ [])

-- fetch runs at an address
abbrev pub is_running : Fetch → Bool
is_running (Running pc) = true
is_running Waiting = false

-- any instruction that fetch comes to can be issued with the guess Next: the processor goes on, fetch runs, no
-- instruction is in the lowest stage, and the lane has room for two requests, the most that an instruction makes
abbrev pub issues_any : Plan → State → Bool
issues_any plan s =
    goes_on s && (is_running s.fetch && (not (is_some (passenger_at s.cells 1)) && nat_lt (length s.lane + 1) plan.lane))

-- the Issues that are allowed
abbrev pub allowed_issues : Plan → State → List Move
allowed_issues plan s = filter (is_allowed plan s) (Issue guess.Next ∷ Issue guess.Taken ∷ Issue guess.Wait ∷ [])

-- an Issue by this guess is allowed, and the guess rule keeps it
abbrev pub may_issue : GuessRule → Plan → State → Guess → Bool
may_issue r plan s g = is_allowed plan s (Issue g) && keeps_guess r plan s g

-- the Issues that are allowed and that a guess rule keeps
abbrev pub kept_issues : GuessRule → Plan → State → List Move
kept_issues r plan s = filter (keeps_move r plan s) (allowed_issues plan s)

-- the Issues that are offered: none if Issue is held back
abbrev pub unheld_issues : Bool → GuessRule → Plan → State → List Move
unheld_issues held r plan s = if held then [] else kept_issues r plan s

-- the allowed moves except for each Issue
abbrev pub allowed_others : Plan → State → List Move
allowed_others plan s = filter (is_allowed plan s) (Emit ∷ []) ++ (filter (is_allowed plan s) (all_passing plan)
    ++ (filter (is_allowed plan s) (slides_from 0 plan.sidings) ++ filter (is_allowed plan s) (all_leaving plan)))

-- the moves, with each Issue held back if `held` is set
abbrev pub withheld : Bool → List Move → List Move
withheld held moves = if held then held_back moves else moves
