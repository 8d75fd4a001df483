-- What the run of a policy does: the moves that it picks from those offered, why it stops after them, and what it
-- leaves ("Counterflow Pipeline Processor Architecture", 1994: any schedule of local actions is a run).
use Rattle.std.specs.Prelude.{◌≡◌, ◌≤◌, ◌⊎◌, ℕ, ◌+◌, ◌*◌, List, [], ◌∷◌, ◌++◌, slice_get, drop, Option, Some, None, Ok, Err}
use Rattle.std.proofs.Common.{inl, inr}
use Rattle.run_options.specs.Limits.{most_limit}
use Rattle.run_options.specs.declared.guess_rule.GuessRule.{GuessRule}
use Rattle.run_options.specs.declared.reporting.Reporting.{Reporting}
use Rattle.cf_layout.specs.Layout.{Plan}
use Rattle.cf_bind.specs.declared.moves.Move.{Move}
use Rattle.cf_semantics.specs.declared.event.Event.{Event}
use Rattle.cf_semantics.specs.state.Drained.{is_drained}
use Rattle.cf_semantics.specs.moves.Holding.{paced}
use Rattle.cf_semantics.specs.state.State.{State}
use Rattle.cf_semantics.specs.claims.Weight.{moves_per_issue}
use Rattle.cf_core.specs.Asking.{AsksInput, AsksOutput}
use Rattle.cf_core.specs.Processors.{IsOpened, Processor}
use Rattle.cf_sched.specs.Paces.{offered_by, stopped}
use Rattle.run_finishes.specs.declared.finish.Ran.{Ran as Answer}
use Rattle.run_finishes.specs.declared.finish.Ran.TheVariants as ran
use Rattle.run_finishes.specs.declared.finish.Scripted.TheVariants.{Ran}
use Rattle.cf_run.specs.Asking.{SomeAsks}
use Rattle.cf_run.specs.Headline.{RunsSequentially}
use Rattle.cf_run.specs.Made.{Made, moves_of}
use Rattle.cf_run.specs.Moving.{RunPlace, MoveDoes, MoveGoes}
use Rattle.cf_run.specs.Reaching.{Reaches, GoesOn, IsOver}

-- a run under a policy may begin: its limit is permitted and not passed, and the processor was opened and has made no
-- move since
pub record CanRun (limit : ℕ) (core : Processor) : Type 0 where
  pub limit_allowed : limit ≤ most_limit
  pub within : core.state.retired ≤ limit
  pub is_opened : IsOpened core

-- a policy in a run: the guess rule, its state, and how many Issue moves the hold rule has counted
pub record Chooser (P : Type 0) : Type 0 where
  pub rule : GuessRule
  pub policy : P
  pub count : ℕ

-- the policy with this many counted
abbrev pub chooser : {P : Type 0} → GuessRule → P → ℕ → Chooser P
chooser rule policy count = record { rule = rule; policy = policy; count = count }

-- a policy before its first pick
abbrev pub fresh_chooser : {P : Type 0} → GuessRule → P → Chooser P
fresh_chooser rule policy = chooser rule policy 0

-- the moves that it is offered in a state
abbrev pub offered_to : {P : Type 0} → Plan → Chooser P → State → List Move
offered_to plan at s = offered_by at.rule plan at.count s

-- the move that it picks there, by its index among them
abbrev pub choice : {P : Type 0} → (picked : P → List Move → ℕ) → Plan → Chooser P → State → Option Move
choice picked plan at s = slice_get (offered_to plan at s) (picked at.policy (offered_to plan at s))

-- the policy after that pick, with the move counted
abbrev pub after_choice : {P : Type 0} → (onward : P → List Move → P) → Plan → Chooser P → State → Made → Chooser P
after_choice onward plan at s made = record {
  rule = at.rule;
  policy = onward at.policy (offered_to plan at s);
  count = paced at.count made.move made.event (is_drained made.state);
}

-- the moves are, one after the other, the picks of the policy, the first of them in that state; and they lead to the
-- policy's last state
unfoldable pub Picks : {P : Type 0} → (picked : P → List Move → ℕ) → (onward : P → List Move → P) → Plan → Chooser P → State → List Made → Chooser P → Type 0
Picks picked onward plan at s [] last = last ≡ at
Picks picked onward plan at s (made ∷ trace) last =
    (choice picked plan at s ≡ Some made.move)
    × Picks picked onward plan (after_choice onward plan at s made) made.state trace last

-- a policy may be given by the list of its picks: the first of them, and those after it
abbrev pub first_pick : List ℕ → List Move → ℕ
first_pick [] moves = 0
first_pick (place ∷ places) moves = place

abbrev pub later_picks : List ℕ → List Move → List ℕ
later_picks places moves = drop 1 places

-- the run goes on to the move that the policy picks, and it is made
pub record TakesPick {P : Type 0} (picked : P → List Move → ℕ) (limit : ℕ) (show : Reporting) (at : Chooser P) (now new : RunPlace) : Type 0 where
  pub goes : GoesOn limit now.core.state
  pub move : Move
  pub choice_is : choice picked now.core.plan at now.core.state ≡ Some move
  pub event : Event
  pub does : MoveDoes show move now new (Ok event)

-- the run goes on to the move that the policy picks, which stops it with this answer
pub record StopsAtPick {P : Type 0} (picked : P → List Move → ℕ) (onward : P → List Move →
    P) (limit : ℕ) (show : Reporting) (at : Chooser P) (now new : RunPlace) (later : P) (answer : Answer) : Type 0 where
  pub goes : GoesOn limit now.core.state
  pub move : Move
  pub choice_is : choice picked now.core.plan at now.core.state ≡ Some move
  pub later_is : later ≡ onward at.policy (offered_to now.core.plan at now.core.state)
  pub does : MoveGoes show move now new (Err answer)

-- the run stops here: it is over, and nothing changes; or the next move that the policy picks is the last that it tries
abbrev pub StopsPolicy : {P : Type 0} → (picked : P → List Move → ℕ) → (onward : P → List Move → P) → ℕ → Reporting → Chooser P → (now new : RunPlace) → P →
    Answer →
    Type 0
StopsPolicy picked onward limit show at now new later (ran.Exit status) = IsOver limit now.core.state (ran.Exit status) × (new ≡ now) × (later ≡ at.policy)
StopsPolicy picked onward limit show at now new later (ran.Trap cause pc detail) = IsOver limit now.core.state (ran.Trap cause pc detail) × (new ≡ now)
    × (later ≡ at.policy)
StopsPolicy picked onward limit show at now new later ran.Limit = IsOver limit now.core.state ran.Limit × (new ≡ now) × (later ≡ at.policy)
StopsPolicy picked onward limit show at now new later ran.ReadFault = StopsAtPick picked onward limit show at now new later ran.ReadFault
StopsPolicy picked onward limit show at now new later ran.WriteFault = StopsAtPick picked onward limit show at now new later ran.WriteFault
StopsPolicy picked onward limit show at now new later ran.ReportFault = StopsAtPick picked onward limit show at now new later ran.ReportFault

-- one turn of the run, by a pace that stops counting once the candidates are held: the policy picks a move and it is
-- made
pub record Turned {P : Type 0} (picked : P → List Move → ℕ) (onward : P → List Move → P) (limit : ℕ) (show : Reporting) (now new : RunPlace)
    (at later : Chooser P) : Type 0 where
  pub takes : TakesPick picked limit show at now new
  pub policy_is : later.policy ≡ onward at.policy (offered_to now.core.plan at now.core.state)
  pub count_is : later.count ≡ stopped now.core.plan.stages (paced at.count takes.move takes.event (is_drained new.core.state))

-- or the run stops
abbrev pub PolicyTurns : {P : Type 0} → (picked : P → List Move → ℕ) → (onward : P → List Move → P) → ℕ → Reporting → (now new : RunPlace) →
    (at later : Chooser P) →
    Option Answer → Type 0
PolicyTurns picked onward limit show now new at later None = Turned picked onward limit show now new at later
PolicyTurns picked onward limit show now new at later (Some answer) = StopsPolicy picked onward limit show at now new later.policy answer

-- the last move if the report failed after it, or none if it failed before it
abbrev pub made_or_none : {A B : Type 0} → Move → A ⊎ B → List Move
made_or_none mv (inl after) = mv ∷ []
made_or_none mv (inr before) = []

-- the last move, if the report failed after it
abbrev pub made_last : {P : Type 0} → (picked : P → List Move → ℕ) → (onward : P → List Move → P) → (limit : ℕ) → (show : Reporting) → (at : Chooser P) →
    (now new : RunPlace) → (later : P) → (answer : Answer) → StopsPolicy picked onward limit show at now new later answer → List Move
made_last picked onward limit show at now new later (ran.Exit status) stops = []
made_last picked onward limit show at now new later (ran.Trap cause pc detail) stops = []
made_last picked onward limit show at now new later ran.Limit stops = []
made_last picked onward limit show at now new later ran.ReadFault stops = []
made_last picked onward limit show at now new later ran.WriteFault stops = []
made_last picked onward limit show at now new later ran.ReportFault stops = made_or_none stops.move stops.does

-- the run makes these moves, the picks of the policy, and stops after them with this answer
pub record RunsPolicy {P : Type 0} (rule : GuessRule) (picked : P → List Move → ℕ) (onward : P → List Move → P) (limit : ℕ) (show : Reporting)
    (start new : RunPlace) (policy later : P)
    (moves : List Move) (answer : Answer) : Type 0 where
  pub now : RunPlace
  pub reaches : Reaches limit show start now
  pub at : Chooser P
  pub picks : Picks picked onward start.core.plan (fresh_chooser rule policy) start.core.state reaches.trace at
  pub stops : StopsPolicy picked onward limit show at now new later answer
  pub made : moves ≡ moves_of reaches.trace ++ made_last picked onward limit show at now new later answer stops

-- and by these moves it is a run of the sequential machine
pub record RunsRight {P : Type 0} (rule : GuessRule) (picked : P → List Move → ℕ) (onward : P → List Move → P) (limit : ℕ) (show : Reporting)
    (start new : RunPlace) (policy later : P)
    (answer : Answer) : Type 0 where
  pub moves : List Move
  pub runs : RunsPolicy rule picked onward limit show start new policy later moves answer
  pub sequential : RunsSequentially show moves start new (Ran answer)

-- the maximum number of moves of a run under the hold rule in which r instructions retire: 4 N K (r + 1)
abbrev pub most_moves : Plan → ℕ → ℕ
most_moves plan r = 4 * plan.stages * moves_per_issue plan * (r + 1)

-- the run goes on to the move that the policy picks, which uses the stream
pub record ChoiceAsks {P : Type 0} (asks : Processor → Move → Type 0) (picked : P → List Move →
    ℕ) (limit : ℕ) (at : Chooser P) (core : Processor) : Type 0 where
  pub goes : GoesOn limit core.state
  pub move : Move
  pub choice_is : choice picked core.plan at core.state ≡ Some move
  pub asked : asks core move

-- a move of the run uses the stream: one of those that lead to where it stops, or the next one there
abbrev pub PolicyAsks : {P : Type 0} (asks : Processor → Move → Type 0) (rule : GuessRule) (picked : P → List Move → ℕ) (onward : P → List Move →
    P) (limit : ℕ) (show : Reporting) (start new : RunPlace) (policy later : P) (moves : List Move) (answer : Answer) →
    RunsPolicy rule picked onward limit show start new policy later moves answer → Type 0
PolicyAsks asks rule picked onward limit show start new policy later moves answer runs =
    SomeAsks asks start.core.plan start.core.state runs.reaches.trace
    ⊎ ChoiceAsks asks picked limit runs.at runs.now.core

-- a run, with a claim about the input that is true unless a move of the run uses it, and one about the output
pub record PolicyUnasked {P : Type 0} (rule : GuessRule) (picked : P → List Move → ℕ) (onward : P → List Move →
    P) (limit : ℕ) (show : Reporting) (start new : RunPlace) (policy later : P) (answer : Answer) (input output : Type 0) : Type 0 where
  pub moves : List Move
  pub runs : RunsPolicy rule picked onward limit show start new policy later moves answer
  pub input_asked : (PolicyAsks AsksInput rule picked onward limit show start new policy later moves answer runs → ⊥) → input
  pub output_asked : (PolicyAsks AsksOutput rule picked onward limit show start new policy later moves answer runs → ⊥) → output
