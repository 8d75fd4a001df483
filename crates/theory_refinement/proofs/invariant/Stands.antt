-- Where an instruction may be, and what holds of it there.
use Rattle.std.specs.Prelude.{◌≡◌, ℕ, ◌≤◌, List, [], ◌∷◌, Option, Some, None, true, false, ◌||◌}
use Rattle.rv_inst.specs.declared.classes.Class.{Class}
use Rattle.cf_layout.specs.Layout.{Plan, siding_of, launch_stage, recover_stage, last_stage, is_homed}
use Rattle.cf_bind.specs.declared.binding.Binding.{Binding}
use Rattle.cf_bind.specs.declared.passenger.Guess.TheVariants.{Next}
use Rattle.cf_bind.specs.declared.passenger.Passenger.{Passenger}
use Rattle.cf_semantics.specs.state.Options.{is_some, Where}
use Rattle.cf_layout.specs.Accepted.{is_control}
use Rattle.cf_semantics.specs.moves.Instructions.{is_memory, is_serial, is_free}
use Rattle.cf_semantics.specs.state.Column.{Item, Up, Down}
use Rattle.cf_semantics.specs.state.Passengers.{kind, missing}
use Rattle.cf_semantics.specs.claims.Ahead.{has_served}
use Rattle.theory_refinement.proofs.invariant.Suited.{is_plain}

-- at or below the last stage with a unit, or the siding's launch stage
abbrev pub Low : Plan → Class → ℕ → Type 0
Low plan c i = Where (siding_of plan c) (i ≤ last_stage plan c) (λ k. i ≤ launch_stage plan k)

-- from the siding's launch stage to its recovery stage
abbrev pub Between : Plan → Class → ℕ → Type 0
Between plan c i = Where (siding_of plan c) ⊥ (λ k. (launch_stage plan k ≤ i) × (i ≤ recover_stage plan k))

-- at or above the siding's recovery stage
abbrev pub Behind : Plan → Class → ℕ → Type 0
Behind plan c i = Where (siding_of plan c) ⊥ (λ k. recover_stage plan k ≤ i)

-- it has no value
abbrev pub Blank : Option Binding → Type 0
Blank None = Unit {0}
Blank (Some b) = b.value ≡ None

-- what holds of an instruction in stage i
pub record Stands (plan : Plan) (i : ℕ) (p : Passenger) : Type 0 where
  pub low : p.dead ≡ false → p.done ≡ false → p.launched ≡ false → Low plan (kind p) i
  pub out : p.launched ≡ true → p.recovered ≡ false → Between plan (kind p) i
  pub back : p.recovered ≡ true → Behind plan (kind p) i
  pub back_done : p.recovered ≡ true → p.dead ≡ false → p.done ≡ true
  pub back_launched : p.recovered ≡ true → p.launched ≡ true
  pub owes_live : is_some p.owes ≡ true → p.dead ≡ false
  pub owes_done : is_some p.owes ≡ true → p.done ≡ true
  pub owes_quiet : is_some p.owes ≡ true → is_some p.ending ≡ true → (is_free (kind p) || is_serial (kind p)) ≡ false
  pub guess : is_control (kind p) ≡ false → p.guess ≡ Next
  pub served : has_served p ≡ true → i ≡ plan.stages
  pub unended : p.done ≡ false → p.ending ≡ None
  pub blank : p.done ≡ false → Blank p.dst
  pub free_done : is_free (kind p) ≡ true → p.done ≡ true
  pub out_undone : p.dead ≡ false → p.launched ≡ true → p.recovered ≡ false → p.done ≡ false
  pub faulted : p.dead ≡ false → is_memory (kind p) ≡ true → p.done ≡ true → p.launched ≡ false → is_some p.ending ≡ true
  pub sourced1 : p.launched ≡ true → missing p.src1 ≡ None
  pub sourced2 : p.launched ≡ true → missing p.src2 ≡ None
  pub homed : is_plain (kind p) ≡ true → is_homed plan (kind p) ≡ true

-- each instruction of the items
abbrev pub Each : Plan → List Item → Type 0
Each plan [] = Unit {0}
Each plan (Up i p ∷ xs) = Stands plan i p × Each plan xs
Each plan (Down i k ∷ xs) = Each plan xs
