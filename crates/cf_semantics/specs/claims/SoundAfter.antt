-- Soundness of a moment of a run, over the sequential machine from which the run started.
use Rattle.std.specs.Prelude.{◌≡◌, Some}
use Rattle.rv_machine.specs.Machine.{Machine}
use Rattle.rv_machine.specs.After.{after}
use Rattle.cf_layout.specs.Layout.{Plan}
use Rattle.cf_semantics.specs.state.Layouts.{isa_of}
use Rattle.cf_semantics.specs.claims.Refines.{gained}
use Rattle.cf_semantics.specs.claims.Soundness.{IsSound}
use Rattle.cf_semantics.specs.state.State.{Moment}

-- the machine makes as many steps as instructions have retired, and the moment is sound over the machine after them
pub record IsSoundAfter (plan : Plan) (start : Machine) (m : Moment) : Type 0 where
  pub at : Machine
  pub count : after (isa_of plan) start (gained start m.state) ≡ Some at
  pub sound : IsSound plan m at
