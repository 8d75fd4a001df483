-- Which moves are candidates in a state, and in which order.
use Rattle.std.specs.Prelude.{ℕ, zero, suc, ◌-◌, List, [], ◌∷◌, ◌++◌, map, filter, length, not, nat_lt, if◌then◌else◌}
use Rattle.cf_layout.specs.Layout.{SidingPlan, Plan}
use Rattle.cf_bind.specs.declared.passenger.Guess.TheVariants as guess
use Rattle.cf_bind.specs.declared.moves.Move.{Move}
use Rattle.cf_bind.specs.declared.moves.Move.TheVariants.{Issue, Emit, Climb, Fall, Meet, Execute, Send, Launch, Slide, Access, Recover, Leave, Exit, Serve}
use Rattle.cf_semantics.specs.state.Options.{is_some}
use Rattle.cf_semantics.specs.state.State.{State}
use Rattle.cf_semantics.specs.moves.Bars.{bar}
use Rattle.cf_semantics.specs.claims.Weight.{is_issue}

-- the numbers from `first` on, n of them
abbrev pub counted_from : ℕ → ℕ → List ℕ
counted_from first zero = []
counted_from first (suc n) = first ∷ counted_from (suc first) n

-- one kind of move at each stage, ascending
abbrev pub at_stages : Plan → (ℕ → Move) → List Move
at_stages plan kind = map kind (counted_from 1 plan.stages)

-- the moves within the sidings from number k on: from each cell to the next
abbrev pub slides_from : ℕ → List SidingPlan → List Move
slides_from k [] = []
slides_from k (siding ∷ sidings) = map (Slide k) (counted_from 0 (siding.cells - 1)) ++ slides_from (suc k) sidings

-- all moves but an Issue whose guess is an address, in their order
unfoldable pub all_moves : Plan → List Move
all_moves plan =
    Issue guess.Next ∷ Issue guess.Taken ∷ Issue guess.Wait ∷ Emit ∷
    at_stages plan Climb ++ at_stages plan Fall ++ at_stages plan Meet ++ at_stages plan Execute
    ++ at_stages plan Send ++ at_stages plan Launch ++ slides_from 0 plan.sidings
    ++ (Access ∷ at_stages plan Recover) ++ Leave ∷ Exit ∷ Serve ∷ []

-- the candidates in a state: those that are allowed
unfoldable pub candidates : Plan → State → List Move
candidates plan s = filter (λ mv. not (is_some (bar plan s mv))) (all_moves plan)

-- those that are not an Issue
abbrev pub other_moves : List Move → List Move
other_moves moves = filter (λ mv. not (is_issue mv)) moves

-- Issue is held back, unless there is no other move
unfoldable pub held_back : List Move → List Move
held_back moves = if nat_lt 0 (length (other_moves moves)) then other_moves moves else moves
