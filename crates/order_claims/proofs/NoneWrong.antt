-- In the table itself no list of moves is wrong.
use Rattle.std.proofs.Common.{◌≡◌, ℕ, zero, suc, ◌<◌, List, [], ◌∷◌, ◌++◌, get_or, Option, Some, None, Bool, true, false, ◌&&◌, ◌||◌, not, cond, refl, sym, ap, subst, ◌∙◌, arith, length, Contains, inl, inr}
use Rattle.std.specs.Prelude.{nat_lt}
use Rattle.std.specs.Option.{option_to_list}
use Rattle.rv_machine.specs.Machine.{Machine}
use Rattle.cf_layout.specs.Layout.{Plan}
use Rattle.cf_layout.specs.Accepted.{IsAccepted}
use Rattle.cf_bind.specs.declared.cell.Cell.{Cell}
use Rattle.cf_bind.specs.declared.moves.Bar.{Bar}
use Rattle.cf_bind.specs.declared.moves.Move.{Move}
use Rattle.cf_bind.specs.declared.moves.Move.TheVariants as mv
use Rattle.cf_bind.specs.declared.passenger.End.{End}
use Rattle.cf_bind.specs.declared.passenger.Passenger.{Passenger}
use Rattle.cf_semantics.specs.claims.Weight.{is_issue}
use Rattle.cf_semantics.specs.moves.Bars.{bar}
use Rattle.cf_semantics.specs.moves.Candidates.{all_moves}
use Rattle.cf_semantics.specs.moves.Moves.{next}
use Rattle.cf_semantics.specs.runs.Lines.{line_of, retired_by, retires}
use Rattle.cf_semantics.specs.runs.Runs.{IsReached, IsRun, run, start}
use Rattle.cf_semantics.specs.state.Layouts.{isa_of}
use Rattle.cf_semantics.specs.state.Options.{is_some, on}
use Rattle.cf_semantics.specs.state.State.{State, Moment, cell_at}
use Rattle.theory_orders.specs.Wrong.{IsRightMove, IsRightMoment, IsStuckWrongly, RetiresWrongly, EndsWrongly, leading}
use Rattle.theory_orders.proofs.Moves.{right_move}
use Rattle.theory_orders.proofs.Moments.{right_moment}
use Rattle.order_rules.specs.Rules.{rule_holds}
use Rattle.order_model.specs.RuleBars.{bar_without}
use Rattle.order_model.specs.RuleMoves.{next_without, retires_without, line_without, leaving_without}
use Rattle.order_model.proofs.Unchanged.{bars_unchanged, moves_unchanged}
use Rattle.order_claims.specs.declared.wrong_kind.WrongKind.{WrongKind}
use Rattle.order_claims.specs.declared.wrong_kind.WrongKind.TheVariants.{Retired, Ended, Output, Stuck, Memory}
use Rattle.order_claims.specs.MoveLists.{moves_on, issued_with, IsOrder}
use Rattle.order_claims.specs.WrongLists.{IsWrongMove, IsWrongMoment, HasWrongEnd, FailsAs, RestsWronglyAs}
use Rattle.order_claims.specs.Claims.{NoneIsWrong}

-- a move that leads on is allowed
leads_allowed : (bars : Move → Option Bar) (may_issue : Bool) (moves : List Move) (m : Move) → Contains (leading bars may_issue moves) m → bars m ≡ None
unfolding leading
leads_allowed bars may_issue [] m (k, within, is) = absurd (omega (arith, within))
leads_allowed bars may_issue (n ∷ moves) m there =
    by (leads_allowed bars may_issue moves m) (bars n) refl (may_issue || not (is_issue n)) there
  where
    here : (k : ℕ) → k < length (n ∷ leading bars may_issue moves) → get_or (n ∷ leading bars may_issue moves) k m ≡ m → bars n ≡ None →
        (Contains (leading bars may_issue moves) m → bars m ≡ None) → bars m ≡ None
    here zero within is none rest = ap bars (sym is) ∙ none
    here (suc k) within is none rest = rest (k, omega (arith, within), is)

    by : (Contains (leading bars may_issue moves) m → bars m ≡ None) → (b : Option Bar) → bars n ≡ b → (t : Bool) →
        Contains (cond (not (is_some b) && t) (n ∷ leading bars may_issue moves) (leading bars may_issue moves)) m → bars m ≡ None
    by rest (Some b) is t there = rest there
    by rest None is false there = rest there
    by rest None is true (k, within, same) = here k within same is rest

-- the moves that lead on depend only on the bars
leading_alike : (bars other : Move → Option Bar) → ((m : Move) → bars m ≡ other m) → (may_issue : Bool) (moves : List Move) →
    leading bars may_issue moves ≡ leading other may_issue moves
unfolding leading
leading_alike bars other same may_issue [] = refl
leading_alike bars other same may_issue (m ∷ moves) =
    ap (λ b. cond (not (is_some b) && (may_issue || not (is_issue m))) (m ∷ leading bars may_issue moves) (leading bars may_issue moves)) (same m)
    ∙ ap (λ l. cond (not (is_some (other m)) && (may_issue || not (is_issue m))) (m ∷ l) l) (leading_alike bars other same may_issue moves)

-- a move retires the same as in the table
line_unchanged : (p : Passenger) → option_to_list (line_without None p) ≡ retired_by p
unfolding rule_holds
line_unchanged p = by p.dead p.ending
  where
    by : (d : Bool) (e : Option End) → option_to_list (cond d None (on e (Some (line_of (leaving_without None p))) (λ x. None))) ≡ cond d [] (on e
        (line_of p ∷ []) (λ x. []))
    by true e = refl
    by false None = refl
    by false (Some e) = refl

leaving_unchanged : (o : Option Passenger) → option_to_list (on o None (line_without None)) ≡ on o [] retired_by
leaving_unchanged None = refl
leaving_unchanged (Some p) = line_unchanged p

standing_unchanged : (o : Option Cell) →
    option_to_list (on o None (λ c. on c.passenger None (line_without None))) ≡ on o [] (λ c. on c.passenger [] retired_by)
standing_unchanged None = refl
standing_unchanged (Some c) = leaving_unchanged c.passenger

lines_unchanged : (plan : Plan) (s : State) (m : Move) → option_to_list (retires_without None plan s m) ≡ retires plan s m
unfolding retires_without
lines_unchanged plan s mv.Leave = standing_unchanged (cell_at s.cells plan.stages)
lines_unchanged plan s m = refl

-- a run and one more move
allowed_push : (plan : Plan) (m : Moment) (moves : List Move) (last : Move) → IsRun plan m moves → bar plan (run plan m moves).state last ≡ None →
    IsRun plan m (moves ++ last ∷ [])
unfolding IsRun run
allowed_push plan m [] last all here = (here, tt)
allowed_push plan m (first ∷ moves) last all here = (all.0, allowed_push plan (next plan m first) moves last all.1 here)

run_push : (plan : Plan) (m : Moment) (moves : List Move) (last : Move) → run plan m (moves ++ last ∷ []) ≡ next plan (run plan m moves) last
unfolding run
run_push plan m [] last = refl
run_push plan m (first ∷ moves) last = run_push plan (next plan m first) moves last

reached_next : (plan : Plan) (x : Machine) (m : Moment) (last : Move) → IsReached plan x m → bar plan m.state last ≡ None → IsReached plan x (next plan m last)
reached_next plan x m last r here = record {
  moves = r.moves ++ last ∷ [];
  allowed = allowed_push plan (start plan x) r.moves last r.allowed (ap (λ (n : Moment). bar plan n.state last) (sym r.is) ∙ here);
  is = ap (λ (n : Moment). next plan n last) r.is ∙ sym (run_push plan (start plan x) r.moves last);
}

-- the machine after a given number of steps is unique
same_machine : {o : Option Machine} (a b : Machine) → o ≡ Some a → o ≡ Some b → b ≡ a
same_machine a b e f = cc

no_wrong_move : (plan : Plan) (x : Machine) (m : Moment) (last : Move) (kind : WrongKind) → IsRightMove plan x m last → IsWrongMove None plan x m last kind → ⊥
no_wrong_move plan x m last kind r w = by kind (subst (λ (a : Machine). FailsAs None plan a m last kind) (same_machine r.at w.at r.count w.count) w.fails)
  where
    by : (k : WrongKind) → FailsAs None plan r.at m last k → ⊥
    by Retired f = r.retires (subst (RetiresWrongly (isa_of plan) r.at) (lines_unchanged plan m.state last) f)
    by Ended f = r.ends (subst (λ (n : Moment). EndsWrongly (isa_of plan) r.at n.state) (moves_unchanged plan m last) f.1)
    by Output f = r.serves f.2
    by Stuck f = f
    by Memory f = f

no_wrong_moment : (plan : Plan) (x : Machine) (m : Moment) (may_issue : Bool) (kind : WrongKind) → IsRightMoment plan x m →
    IsWrongMoment plan x (leading (bar_without None plan m.state) may_issue (all_moves plan)) m kind → ⊥
no_wrong_moment plan x m may_issue kind r w =
    by kind (subst (λ (a : Machine). RestsWronglyAs (leading (bar_without None plan m.state) may_issue (all_moves plan)) a m kind)
    (same_machine r.at w.at r.count w.count) w.fails)
  where
    by : (k : WrongKind) → RestsWronglyAs (leading (bar_without None plan m.state) may_issue (all_moves plan)) r.at m k → ⊥
    by Retired f = f
    by Ended f = f
    by Output f = f
    by Stuck f = r.stuck may_issue (subst (λ l. IsStuckWrongly l m.state)
        (leading_alike (bar_without None plan m.state) (bar plan m.state) (λ n. bars_unchanged plan m.state n) may_issue (all_moves plan)) f)
    by Memory f = r.rests f.1

module _ (plan : Plan) (x : Machine) (most : ℕ) (kind : WrongKind) (accepted : IsAccepted plan) (wide : length x.hart.regs ≡ 32) where
  -- a move that leads on is allowed by the table
  allowed_here : (m : Moment) (issued : ℕ) (first : Move) → Contains (moves_on None plan most m.state issued) first → bar plan m.state first ≡ None
  allowed_here m issued first there =
      sym (bars_unchanged plan m.state first) ∙ leads_allowed (bar_without None plan m.state) (nat_lt issued most) (all_moves plan) first there

  reached_on : (m : Moment) (issued : ℕ) (first : Move) → IsReached plan x m → Contains (moves_on None plan most m.state issued) first →
      IsReached plan x (next_without None plan m first)
  reached_on m issued first r there =
      subst (IsReached plan x) (sym (moves_unchanged plan m first)) (reached_next plan x m first r (allowed_here m issued first there))

  none_from : (m : Moment) (issued : ℕ) (moves : List Move) → IsReached plan x m → IsOrder None plan most m issued moves →
      HasWrongEnd None plan most x m issued moves kind → ⊥
  unfolding IsOrder HasWrongEnd
  none_from m issued [] r all wrong = wrong
  none_from m issued (last ∷ []) r all (inl w) =
      no_wrong_move plan x m last kind (right_move plan x m last accepted wide r (allowed_here m issued last all.0)) w
  none_from m issued (last ∷ []) r all (inr (none, w)) =
      no_wrong_moment plan x (next_without None plan m last) (nat_lt (issued_with issued last) most) kind
      (right_moment plan x (next_without None plan m last) accepted wide (reached_on m issued last r all.0)) w
  none_from m issued (first ∷ other ∷ moves) r all wrong =
      none_from (next_without None plan m first) (issued_with issued first) (other ∷ moves) (reached_on m issued first r all.0) all.1 wrong

pub none_wrong : NoneIsWrong
unfolding IsRun run
none_wrong plan x most moves kind accepted wide w =
    none_from plan x most kind accepted wide (start plan x) 0 moves (record { moves = []; allowed = tt; is = refl }) w.allowed w.wrong

pub ruleset judging = (none_wrong)
