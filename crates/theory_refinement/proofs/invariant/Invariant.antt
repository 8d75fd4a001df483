-- The invariant, which every move preserves. It has all that soundness claims, and what else the induction needs.
use Rattle.std.specs.Prelude.{◌≡◌, ◌+◌, ℕ, List, Option, Some, None, false, length}
use Rattle.rv_machine.specs.Machine.{Machine}
use Rattle.rv_machine.specs.After.{after}
use Rattle.cf_layout.specs.Layout.{Plan}
use Rattle.cf_bind.specs.declared.passenger.End.{End}
use Rattle.cf_semantics.specs.moves.Instructions.{Stops, step_here}
use Rattle.cf_semantics.specs.state.State.{State, Moment}
use Rattle.cf_semantics.specs.state.Column.{column}
use Rattle.cf_semantics.specs.state.Layouts.{isa_of}
use Rattle.cf_semantics.specs.claims.Walks.{walk, Everywhere}
use Rattle.cf_semantics.specs.claims.Path as trail
use Rattle.cf_semantics.specs.claims.Soundness.{CacheAgrees, FetchesOn}
use Rattle.cf_semantics.specs.claims.Ahead.{served_count, ported_count}
use Rattle.theory_refinement.proofs.invariant.Sure as sure
use Rattle.theory_refinement.proofs.invariant.Port as dock
use Rattle.theory_refinement.proofs.invariant.Lone as lone
use Rattle.theory_refinement.proofs.invariant.Stands.{Each}
use Rattle.theory_refinement.proofs.invariant.Operations.{IsMoored}

-- the state is sound over the sequential machine after the instructions that have retired, with the rest of the input
-- and the output so far
pub record Sound (plan : Plan) (s : State) (rest out : List ℕ) (x : Machine) : Type 0 where
  pub regs : s.regs ≡ x.hart.regs
  pub wide : length x.hart.regs ≡ 32
  pub size : length s.cells ≡ plan.stages
  pub path_fit : Everywhere (sure.Fits (isa_of plan)) (trail.past (isa_of plan)) (column s) (trail.top s x)
  pub path_ends : FetchesOn (isa_of plan) s x
  pub cache : CacheAgrees (isa_of plan) s x
  pub lone_fit : Everywhere lone.Fits (lone.past plan) (column s) false
  pub lone_ends : lone.Ends (walk (lone.past plan) (column s) false) s.fetch
  pub stands : Each plan (column s)
  pub port_fit : Everywhere (dock.Fits (isa_of plan)) (dock.past (isa_of plan)) (column s) (dock.top plan s x)
  pub port_ends : dock.Ends (walk (dock.past (isa_of plan)) (column s) (dock.top plan s x)) s.mem rest out
  pub moored : IsMoored plan s (column s)

-- the program has ended: the processor holds what the machine has before its last step
pub record IsOver (plan : Plan) (s : State) (rest out : List ℕ) (x : Machine) (e : End) : Type 0 where
  pub regs : s.regs ≡ x.hart.regs
  pub mem : s.mem ≡ x.hart.mem
  pub input : rest ≡ x.rest
  pub output : out ≡ x.output
  pub stops : step_here (isa_of plan) x ≡ Stops e
  pub unserved : served_count plan s ≡ 0
  pub unported : ported_count plan s ≡ 0

-- sound while the program goes on, and over once it has ended
abbrev pub HoldsAt : Plan → State → List ℕ → List ℕ → Machine → Option End → Type 0
HoldsAt plan s rest out x None = Sound plan s rest out x
HoldsAt plan s rest out x (Some e) = IsOver plan s rest out x e

-- the moment is sound over the machine after as many steps as have retired, or that machine's step is the ending
pub record HoldsAfter (plan : Plan) (start : Machine) (m : Moment) : Type 0 where
  pub gained : ℕ
  pub machine : Machine
  pub count : m.state.retired ≡ start.hart.retired + gained
  pub after : after (isa_of plan) start gained ≡ Some machine
  pub stage : HoldsAt plan m.state m.rest m.output machine m.state.ending
