-- When a list of moves is wrong at its last move: by the first of the tests that holds, the tests of a move before
-- those of the moment that it leads to. The machine is the sequential machine after as many steps as instructions have
-- retired.
use Rattle.std.specs.Prelude.{◌≡◌, ℕ, List, [], ◌∷◌, Option, Some, ◌⊎◌}
use Rattle.std.specs.Option.{option_to_list}
use Rattle.rv_machine.specs.Machine.{Machine}
use Rattle.rv_machine.specs.After.{after}
use Rattle.cf_layout.specs.Layout.{Plan}
use Rattle.cf_bind.specs.declared.moves.Move.{Move}
use Rattle.cf_semantics.specs.claims.Refines.{gained}
use Rattle.cf_semantics.specs.state.Layouts.{isa_of}
use Rattle.cf_semantics.specs.state.State.{Moment}
use Rattle.theory_orders.specs.Wrong.{RetiresWrongly, EndsWrongly, ServesWrongly, IsStuckWrongly, RestsWrongly}
use Rattle.order_rules.specs.declared.rule.Rule.{Rule}
use Rattle.order_model.specs.RuleMoves.{next_without, retires_without}
use Rattle.order_claims.specs.declared.wrong_kind.WrongKind.{WrongKind}
use Rattle.order_claims.specs.declared.wrong_kind.WrongKind.TheVariants.{Retired, Ended, Output, Stuck, Memory}
use Rattle.order_claims.specs.MoveLists.{moves_on, issued_with, IsOrder}

-- what the move retires is not the line of the machine x's next step
abbrev pub FailsToRetire : Option Rule → Plan → Machine → Moment → Move → Type 0
FailsToRetire away plan x m mv = RetiresWrongly (isa_of plan) x (option_to_list (retires_without away plan m.state mv))

-- the move ends the program in another way than that step
abbrev pub FailsToEnd : Option Rule → Plan → Machine → Moment → Move → Type 0
FailsToEnd away plan x m mv = EndsWrongly (isa_of plan) x (next_without away plan m mv).state

-- the move fails this test, and none before it
abbrev pub FailsAs : Option Rule → Plan → Machine → Moment → Move → WrongKind → Type 0
FailsAs away plan x m mv Retired = FailsToRetire away plan x m mv
FailsAs away plan x m mv Ended = (FailsToRetire away plan x m mv → ⊥) × FailsToEnd away plan x m mv
FailsAs away plan x m mv Output =
    (FailsToRetire away plan x m mv → ⊥) × (FailsToEnd away plan x m mv → ⊥) × ServesWrongly plan x m mv
FailsAs away plan x m mv Stuck = ⊥
FailsAs away plan x m mv Memory = ⊥

-- the machine is there after as many steps as instructions have retired, and the move fails
pub record IsWrongMove (away : Option Rule) (plan : Plan) (start : Machine) (m : Moment) (mv : Move) (kind : WrongKind) : Type 0 where
  pub at : Machine
  pub count : after (isa_of plan) start (gained start m.state) ≡ Some at
  pub fails : FailsAs away plan at m mv kind

-- the moment fails this test, and none before it
abbrev pub RestsWronglyAs : List Move → Machine → Moment → WrongKind → Type 0
RestsWronglyAs moves x m Retired = ⊥
RestsWronglyAs moves x m Ended = ⊥
RestsWronglyAs moves x m Output = ⊥
RestsWronglyAs moves x m Stuck = IsStuckWrongly moves m.state
RestsWronglyAs moves x m Memory = (IsStuckWrongly moves m.state → ⊥) × RestsWrongly x m.state

-- the same for a moment, from which these moves lead on
pub record IsWrongMoment (plan : Plan) (start : Machine) (moves : List Move) (m : Moment) (kind : WrongKind) : Type 0 where
  pub at : Machine
  pub count : after (isa_of plan) start (gained start m.state) ≡ Some at
  pub fails : RestsWronglyAs moves at m kind

-- the last move of the list is wrong, or otherwise the moment that it leads to
unfoldable pub HasWrongEnd : Option Rule → Plan → ℕ → Machine → Moment → ℕ → List Move → WrongKind → Type 0
HasWrongEnd away plan most start m issued [] kind = ⊥
HasWrongEnd away plan most start m issued (mv ∷ []) kind =
    IsWrongMove away plan start m mv kind ⊎
    (((other : WrongKind) → IsWrongMove away plan start m mv other → ⊥) ×
    (let n = next_without away plan m mv in
    IsWrongMoment plan start (moves_on away plan most n.state (issued_with issued mv)) n kind))
HasWrongEnd away plan most start m issued (mv ∷ other ∷ moves) kind =
    HasWrongEnd away plan most start (next_without away plan m mv) (issued_with issued mv) (other ∷ moves) kind

-- the list is one of moves that lead on, and wrong in this way
pub record IsWrongOrder (away : Option Rule) (plan : Plan) (most : ℕ) (start : Machine) (m : Moment) (moves : List Move) (kind : WrongKind) : Type 0 where
  pub allowed : IsOrder away plan most m 0 moves
  pub wrong : HasWrongEnd away plan most start m 0 moves kind
