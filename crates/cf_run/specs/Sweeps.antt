-- Turns of a policy that lead from one place of a run to another, none of which stops it; and the sweeps of the rule, which picks one
-- move of a kind after another. They use neither stream and show nothing, so what is said of them holds whatever these expose.
use Rattle.std.specs.Prelude.{◌≡◌, ◌≤◌, ℕ, ◌+◌, zero, suc, Bool, List, None, Option, length, false}
use Rattle.rand_pcg.specs.Lcg.{Lcg}
use Rattle.run_options.specs.Limits.{most_limit}
use Rattle.run_options.specs.declared.guess_rule.GuessRule.{GuessRule}
use Rattle.run_options.specs.declared.reporting.Reporting.{Reporting}
use Rattle.run_options.specs.declared.show.Show.TheVariants as shows
use Rattle.rv_machine.specs.Streams.{Streams}
use Rattle.cf_layout.specs.Accepted.{IsAccepted}
use Rattle.cf_layout.specs.Layout.{Plan}
use Rattle.cf_bind.specs.declared.moves.Move.{Move}
use Rattle.cf_semantics.specs.declared.event.Event.{Event}
use Rattle.cf_semantics.specs.moves.Events.{IsEvent}
use Rattle.cf_semantics.specs.moves.Holding.{is_held}
use Rattle.cf_semantics.specs.state.Drained.{is_drained}
use Rattle.cf_semantics.specs.state.State.{State}
use Rattle.cf_index.specs.PickedFrom.{IsPicked, IsPickedFrom}
use Rattle.cf_core.specs.Processors.{IsOpened, Processor, after_move}
use Rattle.cf_report.specs.declared.tally.Tally.{Tally}
use Rattle.cf_sched.specs.Paces.{PaceCount, saw, stopped}
use Rattle.cf_sched.specs.Policies.{drawn_on, drawn_pick, round_on, round_pick}
use Rattle.cf_run.specs.Made.{counted_event}
use Rattle.cf_run.specs.Moving.{RunPlace, run_place_of}
use Rattle.cf_run.specs.Policies.{Chooser, Picks, Turned, chooser, fresh_chooser}
use Rattle.cf_run.specs.Reaching.{GoesOn, Reaches}

-- the picks so far lead from one RunPlace to another, and leave this policy, and this count, which stops once the
-- candidates are held
pub record HasPicked {P : Type 0} (rule : GuessRule) (picked : P → List Move → ℕ) (onward : P → List Move → P) (limit : ℕ) (shows : Reporting)
    (begin now : RunPlace)
    (first current : P)
    (held : ℕ) : Type 0 where
  pub at : Chooser P
  pub reached : Reaches limit shows begin now
  pub picks : Picks picked onward begin.core.plan (fresh_chooser rule first) begin.core.state reached.trace at
  pub rule_is : at.rule ≡ rule
  pub policy_is : current ≡ at.policy
  pub count_is : held ≡ stopped begin.core.plan.stages at.count

-- the program has ended as before, and as many instructions have retired
pub record Keeps (s t : State) : Type 0 where
  pub ending : t.ending ≡ s.ending
  pub retired : t.retired ≡ s.retired

-- nothing is shown during the run
abbrev pub silent : Reporting
silent = record { show = shows.Report; every = None }

-- where a run by a policy has arrived, but for what its streams and its report expose: the processor, the policy, the pace, and
-- what was counted
pub record PolicyPlace (P : Type 0) : Type 0 where
  pub core : Processor
  pub policy : P
  pub pace : PaceCount
  pub tally : Tally

-- the PolicyPlace with these parts
abbrev pub policy_at : {P : Type 0} → Processor → P → PaceCount → Tally → PolicyPlace P
policy_at core policy pace tally = record { core = core; policy = policy; pace = pace; tally = tally }

-- that of the rule, which keeps its last pick
abbrev pub RulePlace : Type 0
RulePlace = PolicyPlace (Option Move)

-- the RulePlace with these parts
abbrev pub rule_at : Processor → (last : Option Move) → PaceCount → Tally → RulePlace
rule_at core last pace tally = policy_at core last pace tally

-- the RunPlace where the streams and the report expose this
abbrev pub exposing : {P : Type 0} → PolicyPlace P → Streams → Option (List ℕ) → RunPlace
exposing at streams report = run_place_of at.core streams report at.tally

-- one turn of the policy leads from one place to another, whatever the streams and the report expose, and it leaves these as they are
pub record TurnsOnce {P : Type 0} (picked : P → List Move → ℕ) (onward : P → List Move → P) (limit : ℕ) (show : Reporting)
    (now new : PolicyPlace P) : Type 0 where
  pub turned : (streams : Streams) (report : Option (List ℕ)) → Turned picked onward limit show
      (exposing now streams report)
      (exposing new streams report)
      (chooser now.pace.rule now.policy now.pace.count)
      (chooser now.pace.rule new.policy new.pace.count)
  pub rule : new.pace.rule ≡ now.pace.rule
  pub stages : new.pace.stages ≡ now.pace.stages
  pub works : new.core.state.failed ≡ now.core.state.failed

-- this many turns do
unfoldable pub TurnsTo : {P : Type 0} → (picked : P → List Move → ℕ) → (onward : P → List Move → P) → (limit : ℕ) → Reporting → ℕ →
    (now new : PolicyPlace P) →
    Type 0
TurnsTo picked onward limit show zero now new = new ≡ now
TurnsTo {P} picked onward limit show (suc n) now new =
    (between : PolicyPlace P) × TurnsTo picked onward limit show n now between × TurnsOnce picked onward limit show between new

-- some turns do
pub record TurnsLead {P : Type 0} (picked : P → List Move → ℕ) (onward : P → List Move → P) (limit : ℕ) (show : Reporting)
    (now new : PolicyPlace P) : Type 0 where
  pub count : ℕ
  pub turns : TurnsTo picked onward limit show count now new

-- some turns of the rule do
abbrev pub SweepsTo : (limit : ℕ) → Reporting → (now new : RulePlace) → Type 0
SweepsTo limit show now new = TurnsLead round_pick round_on limit show now new

-- a run by a policy that shows this has arrived here from an opened processor, over some streams and within a permitted limit
pub record HasArrived {P : Type 0} (picked : P → List Move → ℕ) (onward : P → List Move → P) (limit : ℕ) (show : Reporting)
    (at : PolicyPlace P) : Type 0 where
  pub begin : RunPlace
  pub first : P
  pub accepted : IsAccepted begin.core.plan
  pub registers : length begin.core.state.regs ≡ 32
  pub opened : IsOpened begin.core
  pub streams : Streams
  pub report : Option (List ℕ)
  pub comes : HasPicked at.pace.rule picked onward limit show begin (exposing at streams report) first at.policy at.pace.count
  pub limit_allowed : limit ≤ most_limit
  pub within : at.core.state.retired ≤ limit
  pub stages : at.pace.stages ≡ at.core.plan.stages

-- a run by the rule has
abbrev pub HasCome : (limit : ℕ) → Reporting → RulePlace → Type 0
HasCome limit show at = HasArrived round_pick round_on limit show at

-- a run by a policy that shows nothing has arrived here and goes on, and neither the input nor the output has failed
pub record RunsQuietly {P : Type 0} (picked : P → List Move → ℕ) (onward : P → List Move → P) (limit : ℕ) (at : PolicyPlace P) : Type 0 where
  pub come : HasArrived picked onward limit silent at
  pub goes : GoesOn limit at.core.state
  pub works : at.core.state.failed ≡ false

-- a run by the rule has and does
abbrev pub IsSweeping : (limit : ℕ) → RulePlace → Type 0
IsSweeping limit at = RunsQuietly round_pick round_on limit at

-- a generator after it was drawn from, whatever it was offered
abbrev pub drawn_after : Lcg → List Move → Lcg
drawn_after g moves = drawn_on g

-- some turns of a run from a seed lead from one place to another
abbrev pub DrawsTo : (limit : ℕ) → Reporting → (now new : PolicyPlace Lcg) → Type 0
DrawsTo limit show now new = TurnsLead drawn_pick drawn_after limit show now new

-- a run from a seed has come here
abbrev pub HasDrawn : (limit : ℕ) → Reporting → PolicyPlace Lcg → Type 0
HasDrawn limit show at = HasArrived drawn_pick drawn_after limit show at

-- a run from a seed that shows nothing has come here and goes on
abbrev pub IsDrawing : (limit : ℕ) → PolicyPlace Lcg → Type 0
IsDrawing limit at = RunsQuietly drawn_pick drawn_after limit at

-- a turn of a run from a seed leads on; if its answer is false, the run goes on with the same pace
pub record DrawsOn (limit : ℕ) (answer : Bool) (now new : PolicyPlace Lcg) : Type 0 where
  pub draws : DrawsTo limit silent now new
  pub counted : new.tally.moves ≡ now.tally.moves + 1
  pub ready : answer ≡ false → IsDrawing limit new
  pub pace : answer ≡ false → new.pace ≡ now.pace

-- the move was made, counted, and recorded by the pace
pub record IsRecorded (m : Move) (core new : Processor) (pace later : PaceCount) (tally after : Tally) : Type 0 where
  pub event : Event
  pub is_event : IsEvent core.plan core.state m event
  pub made : new ≡ after_move core m
  pub counted : after ≡ counted_event tally m event
  pub recorded : later ≡ saw pace m event (is_drained new.state)

-- the rule picks the move after its last pick
abbrev pub PicksNext : PaceCount → Processor → (last : Option Move) → Move → Type 0
PicksNext pace core last mv = IsPicked pace.rule (is_held core.plan pace.count) core.plan core.state last mv

-- the first move of this part of what is allowed is what the rule picks after its last pick
abbrev pub PicksFrom : PaceCount → Processor → (last : Option Move) → (part : Plan → State → List Move) → Type 0
PicksFrom pace core last part = IsPickedFrom pace.rule (is_held core.plan pace.count) core.plan core.state last (part core.plan core.state)

-- a sweep is here: the run goes on, and the rule picks the first move of this part next
pub record SweepsFrom (limit : ℕ) (part : Plan → State → List Move) (at : RulePlace) : Type 0 where
  pub ready : IsSweeping limit at
  pub picked : PicksFrom at.pace at.core at.policy part

-- a sweep leads from one place to another, where the rule picks the first move of this part next
pub record SweepsOn (limit : ℕ) (part : Plan → State → List Move) (now new : RulePlace) : Type 0 where
  pub swept : SweepsTo limit silent now new
  pub from : SweepsFrom limit part new
