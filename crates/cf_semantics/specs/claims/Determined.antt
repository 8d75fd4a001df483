-- How a maximal run with Issue held back ends: drained, or at the end of the program.
use Rattle.std.specs.Prelude.{◌≡◌, ℕ, ◌+◌, List, Some, None, Bool, true, false, slice_index}
use Rattle.rv_machine.specs.Machine.{Machine}
use Rattle.rv_machine.specs.After.{after}
use Rattle.cf_layout.specs.Layout.{Plan}
use Rattle.cf_bind.specs.declared.passenger.End.{End}
use Rattle.cf_bind.specs.declared.passenger.Guess.TheVariants.{Next}
use Rattle.cf_bind.specs.declared.moves.Move.{Move}
use Rattle.cf_bind.specs.declared.moves.Move.TheVariants.{Issue}
use Rattle.cf_semantics.specs.moves.Instructions.{Stops, step_here}
use Rattle.cf_semantics.specs.state.State.{State, Moment}
use Rattle.cf_semantics.specs.state.Passengers.{cached}
use Rattle.cf_semantics.specs.state.Layouts.{isa_of}
use Rattle.cf_semantics.specs.moves.Bars.{bar}
use Rattle.cf_semantics.specs.runs.Runs.{opened, IsRun, run}
use Rattle.cf_semantics.specs.claims.Refines.{gained}
use Rattle.cf_semantics.specs.claims.Right.{right, way}
use Rattle.cf_semantics.specs.claims.Weight.{issues}
use Rattle.cf_semantics.specs.state.Drained.{is_drained, IsStuck}

-- t is reached from m by moves without Issue, and no move but Issue is allowed there
pub record Drains (plan : Plan) (m t : Moment) : Type 0 where
  pub moves : List Move
  pub allowed : IsRun plan m moves
  pub held : issues moves ≡ 0
  pub is : t ≡ run plan m moves
  pub stuck : IsStuck plan t.state

-- the two states are the same, except for the cached values
pub record IsSame (s t : State) : Type 0 where
  pub cells : s.cells ≡ t.cells
  pub sidings : s.sidings ≡ t.sidings
  pub lane : s.lane ≡ t.lane
  pub fetch : s.fetch ≡ t.fetch
  pub regs : s.regs ≡ t.regs
  pub mem : s.mem ≡ t.mem
  pub retired : s.retired ≡ t.retired
  pub ending : s.ending ≡ t.ending
  pub failed : s.failed ≡ t.failed

-- each cached value is its register's
abbrev pub KeepsRegisters : State → Type 0
KeepsRegisters s = (r v : ℕ) → cached s.cache r ≡ Some v → v ≡ slice_index s.regs r

-- drained at the machine: the state is the one in which a processor starts on the machine, except that values may be
-- cached, each its register's; input and output are the machine's
pub record IsDrainedAt (plan : Plan) (x : Machine) (m : Moment) : Type 0 where
  pub same : IsSame m.state (opened plan x)
  pub kept : KeepsRegisters m.state
  pub rest : m.rest ≡ x.rest
  pub output : m.output ≡ x.output

-- drained after the steps that have retired, and the next instruction can be issued
pub record Rests (plan : Plan) (start : Machine) (m : Moment) : Type 0 where
  pub at : Machine
  pub count : after (isa_of plan) start (gained start m.state) ≡ Some at
  pub drained : is_drained m.state ≡ true
  pub stands : IsDrainedAt plan at m
  pub issue : bar plan m.state (Issue Next) ≡ None

-- the program has ended with the machine's next step; count, registers, memory, input and output are the machine's
pub record IsEndedAt (plan : Plan) (x : Machine) (m : Moment) : Type 0 where
  pub end : End
  pub ending : m.state.ending ≡ Some end
  pub stops : step_here (isa_of plan) x ≡ Stops end
  pub retired : m.state.retired ≡ x.hart.retired
  pub regs : m.state.regs ≡ x.hart.regs
  pub mem : m.state.mem ≡ x.hart.mem
  pub rest : m.rest ≡ x.rest
  pub output : m.output ≡ x.output

-- ended at the machine if the flag is true, otherwise drained at it
abbrev pub EndsAt : Bool → Plan → Machine → Moment → Type 0
EndsAt true plan x t = IsEndedAt plan x t
EndsAt false plan x t = IsDrainedAt plan x t

-- how a run from m ends: the instructions on the path retire; and if the next sure instruction is on the path too, the
-- program ends with its step
pub record EndsAs (plan : Plan) (start : Machine) (m t : Moment) : Type 0 where
  pub at : Machine
  pub count : after (isa_of plan) start (gained start m.state) ≡ Some at
  pub final : Machine
  pub more : after (isa_of plan) start (gained start m.state + right (isa_of plan) m.state at) ≡ Some final
  pub ends : EndsAt (way (isa_of plan) m.state at).stop plan final t

-- two ends are alike: they agree on ending, count, registers, memory, input and output; and if the program has not
-- ended, the two states are the same, except for the cached values
pub record EndAlike (t u : Moment) : Type 0 where
  pub ending : t.state.ending ≡ u.state.ending
  pub retired : t.state.retired ≡ u.state.retired
  pub regs : t.state.regs ≡ u.state.regs
  pub mem : t.state.mem ≡ u.state.mem
  pub rest : t.rest ≡ u.rest
  pub output : t.output ≡ u.output
  pub same : t.state.ending ≡ None → IsSame t.state u.state
