-- After moves of which none is wrong, the machine is there after as many steps as instructions have retired.
use Rattle.std.proofs.Common.{◌≡◌, ◌≢◌, ℕ, zero, suc, ◌+◌, ◌<◌, ◌≤◌, List, [], ◌∷◌, Option, Some, None, true, length, refl, sym, ap, subst, ◌∙◌, arith, inl, inr, ◌⊎◌}
use Rattle.std.specs.Prelude.{IsTrue, replicate}
use Rattle.std.specs.Option.{option_to_list}
use Rattle.rv_inst.specs.declared.isa.Isa.{Isa}
use Rattle.mem_regions.specs.Memory.{Memory}
use Rattle.rv_machine.specs.After.{after, next_machine}
use Rattle.rv_machine.specs.Machine.{Machine}
use Rattle.rv_machine.specs.Outcome.{Outcome, Next, Trap, Exit}
use Rattle.rv_machine.specs.Step.{step}
use Rattle.cf_bind.specs.declared.moves.Move.{Move}
use Rattle.cf_bind.specs.declared.passenger.End.{End}
use Rattle.cf_semantics.specs.claims.Refines.{gained}
use Rattle.cf_semantics.specs.claims.Weight.{issues}
use Rattle.cf_semantics.specs.moves.Instructions.{Stops, step_at, step_here, stepped}
use Rattle.cf_semantics.specs.runs.Lines.{Line, lines_in}
use Rattle.cf_semantics.specs.runs.Runs.{empty_cell, opened}
use Rattle.cf_semantics.specs.state.Layouts.{isa_of}
use Rattle.cf_semantics.specs.state.State.{Moment}
use Rattle.theory_orders.specs.Wrong.{RetiresWrongly}
use Rattle.order_model.specs.RuleMoves.{retires_without}
use Rattle.order_machine.specs.declared.stepping.NextStep.{NextStep}
use Rattle.order_machine.specs.declared.stepping.NextStep.TheVariants.{Retires, Ends}
use Rattle.order_machine.specs.Waypoints.{MachinePlace, AreWaypoints, IsStepOf, ends_at_last, is_end}
use Rattle.order_claims.specs.declared.wrong_kind.WrongKind.{WrongKind}
use Rattle.order_claims.specs.declared.wrong_kind.WrongKind.TheVariants.{Retired}
use Rattle.order_claims.specs.Claims.{instructions_held}
use Rattle.order_claims.specs.MoveLists.{moment_after_without}
use Rattle.order_claims.specs.WrongLists.{IsWrongMove}
use Rattle.order_graph.specs.OrderTrial.{OrderTrial, first_moment, moment_next, IsTrialOrder}
use Rattle.order_graph.specs.TrialParts.{HasPlace, IsSoundTrial}
use Rattle.order_graph.specs.KeyGraph.{AreRightMoves}
use Rattle.order_graph.proofs.Leading.{few_issues}
use Rattle.order_graph.proofs.Still.{goes_on}

-- the machine is there
record IsThere (t : OrderTrial) (m : Moment) : Type 0 where
  pub at : Machine
  pub count : after (isa_of t.plan) t.machine (gained t.machine m.state) ≡ Some at
  pub rises : t.machine.hart.retired ≤ m.state.retired
  pub rest : m.rest ≡ []

-- an outcome whose line is this one goes on
goes : (isa : Isa) (o : Outcome Machine) (line : Line) → ((lines_in isa o ≢ line ∷ []) → ⊥) → (y : Machine) × (next_machine o ≡ Some y)
goes isa (Next y own) line h = (y, refl)
goes isa (Trap cause pc detail) line h = absurd (h (λ e. cc))
goes isa (Exit status) line h = absurd (h (λ e. cc))

after_more : (isa : Isa) (start x y : Machine) (k : ℕ) → after isa start k ≡ Some x → next_machine (step isa x) ≡ Some y → after isa start (suc k) ≡ Some y
unfolding after
after_more isa start x y k e f = rw e f

-- after a move that is not wrong it is there too
there_next : (t : OrderTrial) (m : Moment) (mv : Move) → IsThere t m → ((kind : WrongKind) → IsWrongMove t.away t.plan t.machine m mv kind → ⊥) →
    IsThere t (moment_next t m mv)
there_next t m mv h right = go (retires_without t.away t.plan m.state mv) refl where
  go : (o : Option Line) → retires_without t.away t.plan m.state mv ≡ o → IsThere t (moment_next t m mv)
  go None e =
      let g = goes_on t.away t.plan m mv h.rest in
      let kept : (moment_next t m mv).state.retired ≡ m.state.retired + 0 = g.retired
      ∙ ap (λ (l : Option Line). m.state.retired + length (option_to_list l)) e in
      let same : gained t.machine m.state ≡ gained t.machine (moment_next t m mv).state = let r = h.rises in omega arith in
      let low = h.rises in
      record {
        at = h.at;
        count = subst (λ (n : ℕ). after (isa_of t.plan) t.machine n ≡ Some h.at) same h.count;
        rises = omega arith;
        rest = g.rest;
      }
  go (Some line) e =
      let g = goes_on t.away t.plan m mv h.rest in
      let more : (moment_next t m mv).state.retired ≡ m.state.retired + 1 = g.retired
      ∙ ap (λ (l : Option Line). m.state.retired + length (option_to_list l)) e in
      let low = h.rises in
      let one : suc (gained t.machine m.state) ≡ gained t.machine (moment_next t m mv).state = omega arith in
      let y = goes (isa_of t.plan) (step (isa_of t.plan) h.at) line
      (λ f. right Retired (record {
        at = h.at;
        count = h.count;
        fails = subst (λ (l : Option Line). RetiresWrongly (isa_of t.plan) h.at (option_to_list l)) (sym e) f;
      })) in
      record {
        at = y.0;
        count = subst (λ (n : ℕ). after (isa_of t.plan) t.machine n ≡ Some y.0) one
            (after_more (isa_of t.plan) t.machine h.at y.0 (gained t.machine m.state) h.count y.1);
        rises = omega arith;
        rest = g.rest;
      }

there_after : (t : OrderTrial) (m : Moment) (moves : List Move) → IsThere t m → AreRightMoves t m moves → IsThere t (moment_after_without t.away t.plan m moves)
unfolding AreRightMoves moment_after_without
there_after t m [] h right = h
there_after t m (mv ∷ moves) h right = there_after t (moment_next t m mv) moves (there_next t m mv h right.0) right.1

none_held : (n : ℕ) → instructions_held (replicate n empty_cell) ≡ 0
none_held zero = refl
none_held (suc n) = none_held n

there_first : (t : OrderTrial) → IsSoundTrial t → IsThere t (first_moment t)
unfolding opened after
there_first t is =
    let none : gained t.machine (first_moment t).state ≡ 0 = omega arith in
    record {
      at = t.machine;
      count = subst (λ (n : ℕ). after (isa_of t.plan) t.machine n ≡ Some t.machine) (sym none) refl;
      rises = omega arith;
      rest = is.rest;
    }

retired_few : (t : OrderTrial) (moves : List Move) → IsSoundTrial t →
    (moment_after_without t.away t.plan (first_moment t) moves).state.retired ≤ t.machine.hart.retired + issues moves
unfolding opened
retired_few t moves is = let most = is.law t.away t.plan (first_moment t) moves in let none = none_held t.plan.stages in omega arith

pub place_after : (t : OrderTrial) (moves : List Move) → IsSoundTrial t → IsTrialOrder t moves → AreRightMoves t (first_moment t) moves →
    HasPlace t (moment_after_without t.away t.plan (first_moment t) moves).state
place_after t moves is allowed right =
    let h = there_after t (first_moment t) moves (there_first t is) right in
    let few = few_issues t (first_moment t) 0 moves allowed (omega arith) in
    let less = retired_few t moves is in
    record { at = h.at; count = h.count; rises = h.rises; few = omega arith }

pub count_fits : (t : OrderTrial) (moves : List Move) → IsSoundTrial t → IsTrialOrder t moves →
    (moment_after_without t.away t.plan (first_moment t) moves).state.retired ≤ t.machine.hart.retired + t.most
count_fits t moves is allowed =
    let few = few_issues t (first_moment t) 0 moves allowed (omega arith) in
    let less = retired_few t moves is in omega arith

-- there is a place for each count at which the machine is
no_next : (isa : Isa) (x : Machine) (e : End) → step_here isa x ≡ Stops e → next_machine (step isa x) ≡ None
unfolding step_at
no_next isa x e s = by (step isa x) s where
  by : (o : Outcome Machine) → stepped o ≡ Stops e → next_machine o ≡ None
  by (Next n own) f = absurd (cc)
  by (Trap cause pc detail) f = refl
  by (Exit status) f = refl

ended_at : (isa : Isa) (x : Machine) (next : NextStep) → is_end next ≡ true → IsStepOf isa x next → next_machine (step isa x) ≡ None
ended_at isa x (Retires line) e s = absurd (cc)
ended_at isa x (Ends f) e s = no_next isa x f s

none_later : (isa : Isa) (start : Machine) (k i : ℕ) → after isa start k ≡ None → after isa start (k + i) ≡ None
unfolding after
none_later isa start k zero e = let same : k + 0 ≡ k = omega arith in subst (λ (n : ℕ). after isa start n ≡ None) (sym same) e
none_later isa start k (suc i) e =
    let same : k + suc i ≡ suc (k + i) = omega arith in
    subst (λ (n : ℕ). after isa start n ≡ None) (sym same) (rw (none_later isa start k i e) refl)

pub within_ended : (isa : Isa) (loaded : Memory) (start x : Machine) (k i : ℕ) (places : List MachinePlace) → AreWaypoints isa loaded start k places →
    ends_at_last places ≡ true → after isa start (k + i) ≡ Some x → i < length places
unfolding after
within_ended isa loaded start x k i [] a e f = absurd (cc)
within_ended isa loaded start x k zero (p ∷ places) a e f = omega arith
within_ended isa loaded start x k (suc i) (p ∷ []) a e f =
    let stops = ended_at isa a.0.at p.next e a.0.next in
    let none : after isa start (suc k) ≡ None = rw a.0.count stops in
    let further : suc k + i ≡ k + suc i = omega arith in
    let gone : after isa start (k + suc i) ≡ None = subst (λ (n : ℕ). after isa start n ≡ None) further (none_later isa start (suc k) i none) in
    absurd (cc)
within_ended isa loaded start x k (suc i) (p ∷ q ∷ places) a e f =
    let further : k + suc i ≡ suc k + i = omega arith in
    let later = within_ended isa loaded start x (suc k) i (q ∷ places) a.1 e (subst (λ (n : ℕ). after isa start n ≡ Some x) further f) in
    omega arith

pub within : (isa : Isa) (loaded : Memory) (start x : Machine) (i most : ℕ) (places : List MachinePlace) → AreWaypoints isa loaded start 0 places →
    (length places ≡ most + 1) ⊎ IsTrue (ends_at_last places) → after isa start i ≡ Some x → i ≤ most → i < length places
within isa loaded start x i most places a (inl e) f few = omega arith
within isa loaded start x i most places a (inr e) f few =
    let same : i ≡ 0 + i = omega arith in within_ended isa loaded start x 0 i places a e (subst (λ (n : ℕ). after isa start n ≡ Some x) same f)
