-- The invariant over an input whose remaining bytes are unknown.
use Rattle.std.specs.Prelude.{◌≡◌, ◌+◌, ℕ, List}
use Rattle.rv_machine.specs.Machine.{Machine}
use Rattle.cf_layout.specs.Layout.{Plan}
use Rattle.cf_semantics.specs.state.Layouts.{isa_of}
use Rattle.cf_semantics.specs.runs.Lines.{Line}
use Rattle.cf_semantics.specs.claims.Refines.{gained}
use Rattle.cf_semantics.specs.state.State.{Moment}
use Rattle.theory_refinement.proofs.invariant.Invariant.{HoldsAfter}
use Rattle.theory_confluence.proofs.drains.Tidy.{IsTidy}
use Rattle.theory_unknown_input.specs.UnknownInput.{GoesTo, finding}
use Rattle.theory_unknown_input.proofs.Clear.{IsClear}

-- steps that each find some input, as many as have retired, lead to a machine; with some input left the moment is sound
-- over that machine, or ended by its next step; and no value is below a call that will still give it
pub record HoldsAnew (plan : Plan) (start : Machine) (written : List Line) (m : Moment) : Type 0 where
  pub at : Machine
  pub count : m.state.retired ≡ start.hart.retired + gained start m.state
  pub level : m.state.retired ≡ at.hart.retired
  pub goes : GoesTo (isa_of plan) start (gained start m.state) at written
  pub rest : List ℕ
  pub held : HoldsAfter plan at (finding rest m)
  pub clear : IsClear m.state
  pub tidy : IsTidy plan m.state
