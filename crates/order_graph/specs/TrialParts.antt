-- What a trial stores in addition to its terms.
use Rattle.std.specs.Prelude.{◌≡◌, ℕ, ◌+◌, ◌≤◌, ◌<◌, ◌^◌, List, [], ◌∷◌, Some, length, IsTrue, ◌⊎◌}
use Rattle.mem_regions.specs.Memory.{Memory}
use Rattle.rv_machine.specs.After.{after}
use Rattle.rv_machine.specs.Hart.{Hart}
use Rattle.rv_machine.specs.Machine.{Machine}
use Rattle.cf_layout.specs.Layout.{Plan}
use Rattle.cf_bind.specs.declared.moves.Move.{Move}
use Rattle.cf_semantics.specs.moves.Candidates.{all_moves}
use Rattle.cf_semantics.specs.claims.Refines.{gained}
use Rattle.cf_semantics.specs.state.Layouts.{isa_of}
use Rattle.cf_semantics.specs.state.State.{State}
use Rattle.mem_changes.specs.Images.{IsAsLoaded}
use Rattle.order_machine.specs.Waypoints.{MachinePlace, AreWaypoints, ends_at_last, machine_of}
use Rattle.order_claims.specs.Claims.{OrdersEnd, RetiresWhatWasIssued}
use Rattle.order_graph.specs.OrderTrial.{OrderTrial}

-- where the machine is at the first of the places, and its registers there
abbrev pub first_pc : List MachinePlace → ℕ
first_pc [] = 0
first_pc (place ∷ places) = place.pc

abbrev pub first_regs : List MachinePlace → List ℕ
first_regs [] = []
first_regs (place ∷ places) = place.regs

-- the hart there, in this memory, where this many instructions have retired
abbrev pub first_hart : List MachinePlace → Memory → ℕ → Hart
first_hart places mem retired = record { pc = first_pc places; regs = first_regs places; mem = mem; retired = retired }

-- the places are those of the machine from its start on, as many as the trial can need, and the moves are all moves
pub record AreTrialParts (plan : Plan) (loaded : Memory) (places : List MachinePlace) (moves : List Move) (most retired : ℕ) : Type 0 where
  pub is_loaded : IsAsLoaded loaded
  pub passed : AreWaypoints (isa_of plan) loaded (machine_of (first_hart places loaded retired)) 0 places
  pub enough : (length places ≡ most + 1) ⊎ IsTrue (ends_at_last places)
  pub all : moves ≡ all_moves plan
  pub fits : length moves < 2 ^ 32
  pub few : most ≤ 64
  pub room : retired + most + 1 < 2 ^ 64

-- the machine starts in a memory as it was loaded, with nothing left of its input, and its count of retired
-- instructions cannot overflow; the moves of the layout can be counted; no more instructions retire than are issued;
-- and lists of moves end
pub record IsSoundTrial (t : OrderTrial) : Type 0 where
  pub is_loaded : IsAsLoaded t.machine.hart.mem
  pub rest : t.machine.rest ≡ []
  pub few : t.most ≤ 64
  pub room : t.machine.hart.retired + t.most + 1 < 2 ^ 64
  pub fits : length (all_moves t.plan) < 2 ^ 32
  pub law : RetiresWhatWasIssued
  pub ends : OrdersEnd

-- the machine is there after as many steps as instructions have retired, no more than may be issued
pub record HasPlace (t : OrderTrial) (s : State) : Type 0 where
  pub at : Machine
  pub count : after (isa_of t.plan) t.machine (gained t.machine s) ≡ Some at
  pub rises : t.machine.hart.retired ≤ s.retired
  pub few : gained t.machine s ≤ t.most
