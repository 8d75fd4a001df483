-- Lists of moves end: each move lowers the weight of the state plus what the remaining Issue moves may add to it.
use Rattle.std.proofs.Common.{◌≡◌, ℕ, zero, suc, ◌+◌, ◌-◌, ◌<◌, ◌≤◌, List, [], ◌∷◌, Option, Some, None, Bool, true, false, cond, get_or, refl, ap, subst, arith, length, Contains}
use Rattle.std.specs.Prelude.{nat_lt, not, ◌&&◌, ◌||◌}
use Rattle.std.proofs.lemmas.Bool.Decides.{nat_tests}
use Rattle.cf_layout.specs.Layout.{Plan}
use Rattle.cf_bind.specs.declared.cell.Op.{Op}
use Rattle.cf_bind.specs.declared.moves.Bar.{Bar}
use Rattle.cf_bind.specs.declared.moves.Move.{Move}
use Rattle.cf_semantics.specs.claims.Weight.{counts, is_issue}
use Rattle.cf_semantics.specs.moves.Candidates.{all_moves}
use Rattle.cf_semantics.specs.state.Options.{is_some}
use Rattle.cf_semantics.specs.state.State.{Moment}
use Rattle.theory_orders.specs.Wrong.{leading}
use Rattle.order_rules.specs.declared.rule.Rule.{Rule}
use Rattle.order_model.specs.RuleBars.{bar_without}
use Rattle.order_model.specs.RuleMoves.{next_without}
use Rattle.order_claims.specs.MoveLists.{IsOrder, issued_with}
use Rattle.order_claims.proofs.ending.OrderWeight.{AreShort, issue_weight, issues_weight, order_weight}
use Rattle.order_claims.proofs.ending.Moves.{lowers}
use Rattle.order_claims.specs.Claims.{OrdersEnd}

-- a move that leads on is allowed, and may be issued
record IsLeading (bars : Move → Option Bar) (may_issue : Bool) (mv : Move) : Type 0 where
  pub allowed : bars mv ≡ None
  pub issue : (may_issue || not (is_issue mv)) ≡ true

leads : (bars : Move → Option Bar) (may_issue : Bool) (moves : List Move) (mv : Move) → Contains (leading bars may_issue moves) mv → IsLeading bars may_issue mv
unfolding leading
leads bars may_issue [] mv (k, within, is) = absurd (omega (arith, within))
leads bars may_issue (x ∷ moves) mv there = by (leads bars may_issue moves mv) (bars x) refl (may_issue || not (is_issue x)) refl there
  where
    here : (k : ℕ) → k < length (x ∷ leading bars may_issue moves) → get_or (x ∷ leading bars may_issue moves) k mv ≡ mv → IsLeading bars may_issue x →
        (Contains (leading bars may_issue moves) mv → IsLeading bars may_issue mv) → IsLeading bars may_issue mv
    here zero within is own rest = subst (IsLeading bars may_issue) is own
    here (suc k) within is own rest = rest (k, omega (arith, within), is)

    by : (Contains (leading bars may_issue moves) mv → IsLeading bars may_issue mv) → (b : Option Bar) → bars x ≡ b → (t : Bool) →
        (may_issue || not (is_issue x)) ≡ t →
        Contains (cond (not (is_some b) && t) (x ∷ leading bars may_issue moves) (leading bars may_issue moves)) mv → IsLeading bars may_issue mv
    by rest (Some b) is t may there = rest there
    by rest None is false may there = rest there
    by rest None is true may (k, within, same) = here k within same (record { allowed = is; issue = may }) rest

-- the Issue moves that remain after a move
one_less : (n d issued most : ℕ) (b : Bool) → (nat_lt issued most || not b) ≡ true →
    counts b (issue_weight n d) + issues_weight n d (most - (issued + counts b 1)) ≡ issues_weight n d (most - issued)
one_less n d issued most false h = let same : issued + 0 ≡ issued = omega arith in
    let kept = ap (λ (i : ℕ). issues_weight n d (most - i)) same in omega (arith, kept)
one_less n d issued most true h = by (nat_lt issued most) refl h
  where
    by : (c : Bool) → nat_lt issued most ≡ c → (c || false) ≡ true →
        issue_weight n d + issues_weight n d (most - (issued + 1)) ≡ issues_weight n d (most - issued)
    by true e g =
        let below : issued < most = grind (arith, nat_tests) in
        let next : suc (most - (issued + 1)) ≡ most - issued = omega (arith, below) in
        ap (issues_weight n d) next
    by false e g = absurd (cc)

module _ (away : Option Rule) (plan : Plan) (most n d : ℕ) where
  pub bounded : (m : Moment) (issued : ℕ) (moves : List Move) → length m.state.cells ≤ n → AreShort d m.state.sidings →
      IsOrder away plan most m issued moves → length moves ≤ order_weight n d m.state + issues_weight n d (most - issued)
  unfolding IsOrder
  bounded m issued [] few short o = omega arith
  bounded m issued (mv ∷ moves) few short o =
      let h = leads (bar_without away plan m.state) (nat_lt issued most) (all_moves plan) mv o.0 in
      let less = lowers away plan n d m few short mv h.allowed in
      let later = bounded (next_without away plan m mv) (issued_with issued mv) moves (omega (arith, less.cells, few)) less.sidings o.1 in
      let budget = one_less n d issued most (is_issue mv) h.issue in
      omega (arith, less.weight, later, budget)

-- the sidings of a state
abbrev all_cells : List (List (Option Op)) → ℕ
all_cells [] = 0
all_cells (ops ∷ sidings) = length ops + all_cells sidings

shorter : (d e : ℕ) (sidings : List (List (Option Op))) → d ≤ e → AreShort d sidings → AreShort e sidings
shorter d e [] less h = tt
shorter d e (ops ∷ sidings) less h = (omega (arith, less, h.0), shorter d e sidings less h.1)

short : (sidings : List (List (Option Op))) → AreShort (all_cells sidings) sidings
short [] = tt
short (ops ∷ sidings) = (omega arith, shorter (all_cells sidings) (length ops + all_cells sidings) sidings (omega arith) (short sidings))

pub ending_all : OrdersEnd
ending_all away plan most m =
    let n : ℕ = length m.state.cells in
    let d : ℕ = all_cells m.state.sidings in
    (order_weight n d m.state + issues_weight n d (most - 0), λ moves o. bounded away plan most n d m 0 moves (omega arith) (short m.state.sidings) o)

pub ruleset ending = (ending_all)
