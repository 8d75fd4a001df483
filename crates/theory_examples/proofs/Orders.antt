-- Worked runs: three orders of moves drain one state, with a wrong guess in flight, to the same end.
use Rattle.std.specs.Prelude.{◌≡◌, ◌++◌, List, [], ◌∷◌, refl}
use Rattle.rv_machine.specs.Machine.{Machine}
use Rattle.cf_layout.specs.Plain.{plain}
use Rattle.cf_bind.specs.declared.packet.Fetch.TheVariants.{Running}
use Rattle.cf_bind.specs.declared.passenger.Guess.TheVariants.{Next}
use Rattle.cf_bind.specs.declared.moves.Move.{Move}
use Rattle.cf_bind.specs.declared.moves.Move.TheVariants.{Issue, Emit, Climb, Fall, Meet, Execute, Send, Leave, Exit}
use Rattle.cf_semantics.specs.state.State.{State}
use Rattle.cf_semantics.specs.runs.Runs.{opened}
use Rattle.cf_semantics.specs.claims.Weight.{moves_per_issue, weight}
use Rattle.theory_examples.specs.Samples.{tiny, sample}
use Rattle.theory_examples.specs.Follows.{EndsIn, after_moves}
use Rattle.theory_examples.proofs.Allowed.{ends}
use Rattle.theory_examples.proofs.OnLiterals.{on_literals}

-- beq x0, x0, 8; addi x1, x1, 1
abbrev pub skipping_a_sum : Machine
skipping_a_sum = sample (0x63 ∷ 0x04 ∷ 0x00 ∷ 0x00 ∷ 0x93 ∷ 0x80 ∷ 0x10 ∷ 0x00 ∷ [])

-- The branch is executed, and its turn is below it; above the turn's stage the branch waits to leave. What was issued
-- on the wrong guess is beside the turn and has requested x1.
abbrev pub wrong_guess : List Move
wrong_guess = Issue Next ∷ Execute 1 ∷ Send 1 ∷ Climb 1 ∷ Issue Next ∷ []

-- Its weight allows for 19 moves before the next Issue.
pub weighs_19 : weight tiny (after_moves tiny skipping_a_sum wrong_guess) ≡ 19
unfolding on_literals
weighs_19 = refl

-- Drained: the branch has retired, and fetch runs where it turned to.
abbrev pub common_end : State
common_end = record (opened tiny skipping_a_sum) { fetch = Running 0x10008; retired = 1 }

-- The turn first: eight moves.
pub turn_first : EndsIn tiny skipping_a_sum (wrong_guess ++ (Leave ∷ Meet 1 ∷ Climb 1 ∷ Exit ∷ Leave ∷ Emit ∷ Fall 2 ∷ Exit ∷ [])) common_end
unfolding on_literals
turn_first = ends refl refl

-- The dead instruction meets the value that it requested, at the top: nine moves.
pub value_met_above : EndsIn tiny skipping_a_sum (wrong_guess ++ (Meet 1 ∷ Exit ∷ Leave ∷ Climb 1 ∷ Emit ∷ Meet 2 ∷ Leave ∷ Fall 2 ∷ Exit ∷ [])) common_end
unfolding on_literals
value_met_above = ends refl refl

-- The value first: it meets the branch and then the dead instruction: ten moves.
pub value_first : EndsIn tiny skipping_a_sum (wrong_guess ++ (Emit ∷ Meet 2 ∷ Meet 1 ∷ Exit ∷ Fall 2 ∷ Meet 1 ∷ Exit ∷ Leave ∷ Climb 1 ∷ Leave ∷ [])) common_end
unfolding on_literals
value_first = ends refl refl

-- How many moves each Issue allows for: in the small layout, and in the built-in one.
pub tiny_allows : moves_per_issue tiny ≡ 25
unfolding on_literals
tiny_allows = refl

pub plain_allows : moves_per_issue plain ≡ 74
unfolding on_literals
plain_allows = refl
