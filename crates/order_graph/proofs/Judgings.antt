-- The first of the tests that holds determines in which way a move, or a moment, is wrong.
use Rattle.std.proofs.Common.{◌≡◌, List, [], ◌∷◌, Option, Some, None, refl, sym, subst}
use Rattle.std.specs.Option.{option_to_list}
use Rattle.rv_machine.specs.After.{after}
use Rattle.rv_machine.specs.Machine.{Machine}
use Rattle.cf_layout.specs.Layout.{Plan}
use Rattle.cf_bind.specs.declared.moves.Move.{Move}
use Rattle.cf_semantics.specs.claims.Refines.{gained}
use Rattle.cf_semantics.specs.runs.Lines.{Line}
use Rattle.cf_semantics.specs.state.Layouts.{isa_of}
use Rattle.cf_semantics.specs.state.Options.{on}
use Rattle.cf_semantics.specs.state.State.{State}
use Rattle.theory_orders.specs.Wrong.{RetiresWrongly}
use Rattle.order_rules.specs.declared.rule.Rule.{Rule}
use Rattle.order_model.specs.RuleMoves.{retires_without}
use Rattle.order_model.specs.Situations.{lone_moment}
use Rattle.order_claims.specs.declared.wrong_kind.WrongKind.{WrongKind}
use Rattle.order_claims.specs.declared.wrong_kind.WrongKind.TheVariants.{Retired, Ended, Output, Stuck, Memory}
use Rattle.order_claims.specs.WrongLists.{FailsAs, FailsToRetire, IsWrongMove, IsWrongMoment, RestsWronglyAs}
use Rattle.order_judging.specs.declared.judging.FailedTest.{FailedTest}
use Rattle.order_judging.specs.declared.judging.FailedTest.TheVariants as test
use Rattle.order_judging.specs.FirstTests.{IsMoveJudged, IsStateJudged}
use Rattle.order_judging.specs.Judgements.{lines_without}
use Rattle.order_search.specs.Views.{TellsFault}
use Rattle.order_graph.specs.Kinds.{kind_by, wrong_kind_told}

same_machine : (x y : Machine) (o : Option Machine) → o ≡ Some x → o ≡ Some y → x ≡ y
same_machine x y o e f = cc

lines_are : (o : Option Line) → on o [] (λ l. l ∷ []) ≡ option_to_list o
lines_are None = refl
lines_are (Some line) = refl

module _ (away : Option Rule) (plan : Plan) (start x : Machine) (s : State) (mv : Move) (there : after (isa_of plan) start (gained start s) ≡ Some x) where
  to_test : FailsToRetire away plan x (lone_moment s) mv → RetiresWrongly (isa_of plan) x (lines_without away plan s mv)
  to_test h = subst (RetiresWrongly (isa_of plan) x) (sym (lines_are (retires_without away plan s mv))) h

  of_test : RetiresWrongly (isa_of plan) x (lines_without away plan s mv) → FailsToRetire away plan x (lone_moment s) mv
  of_test h = subst (RetiresWrongly (isa_of plan) x) (lines_are (retires_without away plan s mv)) h

  fails : (found : FailedTest) → IsMoveJudged away plan x s mv (Some found) → FailsAs away plan x (lone_moment s) mv (kind_by found)
  fails test.Retired h = of_test h
  fails test.Ended h = (λ r. h.0 (to_test r), h.1)
  fails test.Output h = (λ r. h.0 (to_test r), h.1, h.2)
  fails test.Stuck h = h
  fails test.Memory h = h

  fails_not : (kind : WrongKind) → IsMoveJudged away plan x s mv None → FailsAs away plan x (lone_moment s) mv kind → ⊥
  fails_not Retired h f = h.0 (to_test f)
  fails_not Ended h f = h.1 f.1
  fails_not Output h f = h.2 f.2
  fails_not Stuck h f = f
  fails_not Memory h f = f

  pub move_told : (found : Option FailedTest) → IsMoveJudged away plan x s mv found →
      TellsFault (IsWrongMove away plan start (lone_moment s) mv) (wrong_kind_told found)
  move_told (Some failed) h = record { at = x; count = there; fails = fails failed h }
  move_told None h = λ kind w. fails_not kind h
      (subst (λ (y : Machine). FailsAs away plan y (lone_moment s) mv kind) (same_machine w.at x (after (isa_of plan) start (gained start s)) w.count there)
      w.fails)

module _ (plan : Plan) (start x : Machine) (moves : List Move) (s : State) (there : after (isa_of plan) start (gained start s) ≡ Some x) where
  rests : (found : FailedTest) → IsStateJudged x moves s (Some found) → RestsWronglyAs moves x (lone_moment s) (kind_by found)
  rests test.Retired h = h
  rests test.Ended h = h
  rests test.Output h = h
  rests test.Stuck h = h
  rests test.Memory h = h

  rests_not : (kind : WrongKind) → IsStateJudged x moves s None → RestsWronglyAs moves x (lone_moment s) kind → ⊥
  rests_not Retired h f = f
  rests_not Ended h f = f
  rests_not Output h f = f
  rests_not Stuck h f = h.0 f
  rests_not Memory h f = h.1 f.1

  pub moment_told : (found : Option FailedTest) → IsStateJudged x moves s found →
      TellsFault (IsWrongMoment plan start moves (lone_moment s)) (wrong_kind_told found)
  moment_told (Some failed) h = record { at = x; count = there; fails = rests failed h }
  moment_told None h = λ kind w. rests_not kind h
      (subst (λ (y : Machine). RestsWronglyAs moves y (lone_moment s) kind) (same_machine w.at x (after (isa_of plan) start (gained start s)) w.count there)
      w.fails)
