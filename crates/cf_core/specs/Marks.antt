-- What is kept of each stage from one move to the next, and which stages a move can change.
use Rattle.std.specs.Prelude.{ℕ, ◌+◌, ◌-◌, ◌<◌, ◌≤◌, Bool, true, false, Option, None, not, ◌&&◌, ◌||◌, if◌then◌else◌}
use Rattle.cf_layout.specs.Layout.{Plan, launch_stage, recover_stage, siding_of}
use Rattle.cf_bind.specs.declared.moves.Move.{Move}
use Rattle.cf_bind.specs.declared.moves.Move.TheVariants.{Issue, Emit, Climb, Fall, Meet, Execute, Send, Launch, Slide, Access, Recover, Leave, Exit, Serve}
use Rattle.cf_semantics.specs.state.Options.{on, is_some}
use Rattle.cf_semantics.specs.state.State.{State}
use Rattle.cf_semantics.specs.moves.Bars.{row_bar}
use Rattle.cf_semantics.specs.state.Layouts.{port}
use Rattle.cf_semantics.specs.state.Passengers.{kind}
use Rattle.cf_stages.specs.Changes.{packet_at, passenger_at}
use Rattle.cf_stages.specs.Words.{with_bit, word_of}
use Rattle.cf_core.specs.Masks.{owes_at, rides, stops_there}
use Rattle.cf_core.specs.Riders.{is_left_waiting, is_passed_by, is_spent}
use Rattle.cf_core.specs.declared.marks.StageMark.{StageMark}
use Rattle.cf_core.specs.declared.marks.Marks.{Marks}
use Rattle.cf_core.specs.declared.touching.Touched.{Touched}

-- nothing in the move's own row bars it
abbrev pub row_allows : Plan → State → Move → Bool
row_allows plan s mv = not (is_some (row_bar plan s mv))

-- what holds of a stage
unfoldable pub mark_at : Plan → State → ℕ → StageMark
mark_at plan s i = record {
  owes = owes_at s i;
  stops = stops_there plan s i;
  execute = row_allows plan s (Execute i);
  launch = row_allows plan s (Launch i);
  recover = row_allows plan s (Recover i);
}

-- what holds of a stage without an instruction
abbrev pub no_mark : StageMark
no_mark = record { owes = false; stops = false; execute = false; launch = false; recover = false }

-- what holds of all of them, as words
unfoldable pub marks_of : Plan → State → Marks
marks_of plan s = record {
  owes = word_of (λ i. (mark_at plan s i).owes) plan.stages;
  stops = word_of (λ i. (mark_at plan s i).stops) plan.stages;
  execute = word_of (λ i. (mark_at plan s i).execute) plan.stages;
  launch = word_of (λ i. (mark_at plan s i).launch) plan.stages;
  recover = word_of (λ i. (mark_at plan s i).recover) plan.stages;
}

-- the words with the bits of one stage replaced
abbrev pub marked : Marks → ℕ → StageMark → Marks
marked marks i mark = record {
  owes = with_bit marks.owes (i - 1) mark.owes;
  stops = with_bit marks.stops (i - 1) mark.stops;
  execute = with_bit marks.execute (i - 1) mark.execute;
  launch = with_bit marks.launch (i - 1) mark.launch;
  recover = with_bit marks.recover (i - 1) mark.recover;
}

-- the words with one bit brought up to date: whether an operation can be launched from the stage; whether one can be
-- recovered there
abbrev pub with_launch : Plan → State → Marks → ℕ → Marks
with_launch plan s marks i = record marks { launch = with_bit marks.launch (i - 1) (row_allows plan s (Launch i)) }

abbrev pub with_recover : Plan → State → Marks → ℕ → Marks
with_recover plan s marks i = record marks { recover = with_bit marks.recover (i - 1) (row_allows plan s (Recover i)) }

-- both, for the stage from which a siding launches and the one at which it recovers
abbrev pub resited : Plan → State → Marks → Touched → Marks
resited plan s marks t = with_recover plan s (with_launch plan s marks t.low) t.high

-- whether the instruction of the stage can be executed or launched
abbrev pub readied : Plan → State → Marks → ℕ → Marks
readied plan s marks i = with_launch plan s (record marks { execute = with_bit marks.execute (i - 1) (row_allows plan s (Execute i)) }) i

-- after a meeting in the stage: the same, unless the instruction is dead; then all bits of the stage
abbrev pub met_marks : Plan → State → Marks → ℕ → Marks
met_marks plan s marks i = if rides s i (λ p. p.dead) then marked marks i (mark_at plan s i) else readied plan s marks i

-- nothing can be done in the stage but to send what its instruction owes
abbrev pub resting : State → ℕ → StageMark
resting s i = record no_mark { owes = owes_at s i }

-- one stage, as the low one and the high one
abbrev pub one_stage : ℕ → Touched
one_stage i = record { low = i; high = i }

-- the stage from which a siding launches, and the one at which it recovers
abbrev pub sites : Plan → ℕ → Touched
sites plan k = record { low = launch_stage plan k; high = recover_stage plan k }

-- the siding of the instruction in a stage
abbrev pub home_at : Plan → State → ℕ → Option ℕ
home_at plan s i = on (passenger_at s.cells i) None (λ p. siding_of plan (kind p))

-- the stages for which what holds can change with the move: where the contents changed, and where the siding launches
-- and recovers whose first or last cell may have changed
unfoldable pub touched : Plan → State → Move → Touched
touched plan s (Issue g) = one_stage 1
touched plan s Emit = one_stage plan.stages
touched plan s (Climb i) = record { low = i; high = i + 1 }
touched plan s (Fall i) = record { low = i - 1; high = i }
touched plan s (Meet i) = one_stage i
touched plan s (Execute i) = one_stage i
touched plan s (Send i) = one_stage i
touched plan s (Launch i) = on (home_at plan s i) (one_stage i) (sites plan)
touched plan s (Slide k c) = sites plan k
touched plan s Access = sites plan (port plan)
touched plan s (Recover i) = on (home_at plan s i) (one_stage i) (sites plan)
touched plan s Leave = one_stage plan.stages
touched plan s Exit = one_stage 1
touched plan s Serve = one_stage plan.stages

-- both are stages of the pipeline
pub record Within (plan : Plan) (t : Touched) : Type 0 where
  pub low : 0 < t.low
  pub low_in : t.low ≤ plan.stages
  pub high : 0 < t.high
  pub high_in : t.high ≤ plan.stages

-- the words brought up to date at the two stages
abbrev pub remarked : Plan → State → Marks → Touched → Marks
remarked plan s marks t = marked (marked marks t.low (mark_at plan s t.low)) t.high (mark_at plan s t.high)

-- the instruction does not stop there, and a value is there that it does not wait for
abbrev pub passes_by : State → ℕ → Bool
passes_by s i = on (passenger_at s.cells i) false (λ p. on (packet_at s.cells i) false (is_passed_by p))

-- a value is there after which the instruction still waits for that of a source
abbrev pub waits_on : State → ℕ → Bool
waits_on s i = on (passenger_at s.cells i) false (λ p. on (packet_at s.cells i) false (is_left_waiting p))

-- the moves after which the same holds of each stage: those of an instruction that is spent; a meeting with a value,
-- if the instruction still waits for another, or if it waits for none and does not stop there; and those of a result,
-- unless it comes to a stage from which an operation can be launched, since it may bar the launch
unfoldable pub keeps_marks : Plan → State → Move → Bool
keeps_marks plan s (Climb i) = rides s i is_spent
keeps_marks plan s (Meet i) = rides s i is_spent || (waits_on s i || (passes_by s i && not (stops_there plan s i)))
keeps_marks plan s (Fall i) = not (row_allows plan s (Launch (i - 1)))
keeps_marks plan s Emit = not (row_allows plan s (Launch plan.stages))
keeps_marks plan s Leave = true
keeps_marks plan s Exit = true
keeps_marks plan s mv = false
