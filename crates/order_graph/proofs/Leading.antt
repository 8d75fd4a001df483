-- What holds for a move that leads on, and how many Issue moves a list has.
use Rattle.std.proofs.Common.{◌≡◌, ℕ, zero, suc, ◌+◌, ◌-◌, ◌*◌, ◌^◌, ◌<◌, ◌≤◌, List, [], ◌∷◌, length-append, map, Option, Some, None, Bool, true, false, cond, filter, length, get_or, refl, sym, ap, ◌∙◌, arith}
use Rattle.std.specs.Prelude.{◌&&◌, ◌||◌, not, nat_lt}
use Rattle.std.specs.List.{All, Contains}
use Rattle.std.proofs.lemmas.List.{length-map}
use Rattle.std.proofs.lemmas.Bool.Decides.{nat_tests}
use Rattle.cf_bind.specs.declared.moves.Bar.{Bar}
use Rattle.cf_bind.specs.declared.moves.Move.{Move}
use Rattle.cf_bind.specs.declared.moves.Move.TheVariants.{Climb, Fall, Meet, Execute, Send, Launch, Slide, Recover}
use Rattle.cf_layout.specs.Accepted.{IsEquipped, IsSiding}
use Rattle.cf_layout.specs.Layout.{Plan, SidingPlan}
use Rattle.cf_semantics.specs.claims.Weight.{counts, is_issue, issues}
use Rattle.cf_semantics.specs.moves.Candidates.{all_moves, at_stages, counted_from, slides_from}
use Rattle.cf_semantics.specs.state.Options.{is_some}
use Rattle.cf_semantics.specs.state.State.{Moment, State}
use Rattle.theory_orders.specs.Wrong.{leading}
use Rattle.order_model.specs.RuleBars.{bar_without}
use Rattle.order_claims.specs.MoveLists.{issued_with, IsOrder}
use Rattle.order_graph.specs.OrderTrial.{OrderTrial, leads_on, moment_next}

-- what is in a filtered list passes the test
passes : {A : Type 0} (test : A → Bool) (xs : List A) (x : A) → Contains (filter test xs) x → test x ≡ true
passes test [] x (k, within, is) = absurd (omega (arith, within))
passes test (y ∷ xs) x there = go (test y) refl there (passes test xs x) where
  here : (k : ℕ) → k < length (y ∷ filter test xs) → get_or (y ∷ filter test xs) k x ≡ x → test y ≡ true → (Contains (filter test xs) x → test x ≡ true) →
      test x ≡ true
  here zero within is e later = ap test (sym is) ∙ e
  here (suc k) within is e later = later (k, omega (arith, within), is)

  go : (b : Bool) → test y ≡ b → Contains (cond b (y ∷ filter test xs) (filter test xs)) x → (Contains (filter test xs) x → test x ≡ true) → test x ≡ true
  go true e (k, within, is) later = here k within is e later
  go false e there later = later there

-- it is allowed, and it is Issue only if Issue may be made
record MayBeMade (b : Option Bar) (may_issue issuing : Bool) : Type 0 where
  pub allowed : b ≡ None
  pub issue : issuing ≡ true → may_issue ≡ true

may_be : (b : Option Bar) (may_issue issuing : Bool) → (not (is_some b) && (may_issue || not issuing)) ≡ true → MayBeMade b may_issue issuing
may_be (Some bar) may_issue issuing e = absurd (cc)
may_be None true issuing e = record { allowed = refl; issue = λ f. refl }
may_be None false true e = absurd (cc)
may_be None false false e = record { allowed = refl; issue = λ f. absurd (cc) }

leads : (t : OrderTrial) (s : State) (issued : ℕ) (mv : Move) → Contains (leads_on t s issued) mv →
    MayBeMade (bar_without t.away t.plan s mv) (nat_lt issued t.most) (is_issue mv)
unfolding leading
leads t s issued mv there = may_be (bar_without t.away t.plan s mv) (nat_lt issued t.most) (is_issue mv)
    (passes (λ m. not (is_some (bar_without t.away t.plan s m)) && (nat_lt issued t.most || not (is_issue m))) (all_moves t.plan) mv there)

pub is_allowed : (t : OrderTrial) (s : State) (issued : ℕ) (mv : Move) → Contains (leads_on t s issued) mv → bar_without t.away t.plan s mv ≡ None
is_allowed t s issued mv there = (leads t s issued mv there).allowed

-- so no more Issue moves are made than permitted
pub still_few : (t : OrderTrial) (s : State) (issued : ℕ) (mv : Move) → Contains (leads_on t s issued) mv → issued ≤ t.most → issued_with issued mv ≤ t.most
still_few t s issued mv there few = go (is_issue mv) refl where
  go : (b : Bool) → is_issue mv ≡ b → issued + counts b 1 ≤ t.most
  go true e = let room : nat_lt issued t.most ≡ true = (leads t s issued mv there).issue e in grind (arith, nat_tests)
  go false e = omega arith

pub few_issues : (t : OrderTrial) (m : Moment) (issued : ℕ) (moves : List Move) → IsOrder t.away t.plan t.most m issued moves → issued ≤ t.most →
    issued + issues moves ≤ t.most
unfolding IsOrder
few_issues t m issued [] o few = omega arith
few_issues t m issued (mv ∷ moves) o few =
    let later = few_issues t (moment_next t m mv) (issued_with issued mv) moves o.1 (still_few t m.state issued mv o.0 few) in omega arith

-- how many moves there are
length_counted : (first n : ℕ) → length (counted_from first n) ≡ n
length_counted first zero = refl
length_counted first (suc n) = ap (λ (i : ℕ). suc i) (length_counted (suc first) n)

length_stages : (plan : Plan) (kind : ℕ → Move) → length (at_stages plan kind) ≡ plan.stages
length_stages plan kind = length-map (counted_from 1 plan.stages) kind ∙ length_counted 1 plan.stages

length_slides : (plan : Plan) (k : ℕ) (sidings : List SidingPlan) → All (IsSiding plan) sidings → length (slides_from k sidings) ≤ 8 * length sidings
length_slides plan k [] all = omega arith
length_slides plan k (siding ∷ sidings) all =
    let cells = (all 0 siding (omega arith)).cells.1 in
    let later = length_slides plan (suc k) sidings (λ i d within. all (suc i) d (omega (arith, within))) in
    let here : length (map (Slide k) (counted_from 0 (siding.cells - 1))) ≡ siding.cells - 1
    = length-map (counted_from 0 (siding.cells - 1)) (Slide k) ∙ length_counted 0 (siding.cells - 1) in
    simp length-append (omega (arith, cells, later, here))

pub few_moves : (plan : Plan) → IsEquipped plan → length (all_moves plan) < 2 ^ 32
unfolding all_moves
few_moves plan a =
    let slides = length_slides plan 0 plan.sidings a.sidings in
    let stages = a.stages.1 in
    let sidings = a.few_sidings in
    let one = length_stages plan Climb in
    let two = length_stages plan Fall in
    let three = length_stages plan Meet in
    let four = length_stages plan Execute in
    let five = length_stages plan Send in
    let six = length_stages plan Launch in
    let seven = length_stages plan Recover in
    simp length-append (omega (arith, slides, stages, sidings, one, two, three, four, five, six, seven))

length_filtered : {A : Type 0} (test : A → Bool) (xs : List A) → length (filter test xs) ≤ length xs
length_filtered test [] = omega arith
length_filtered test (x ∷ xs) = go (test x) (length_filtered test xs) where
  go : (b : Bool) → length (filter test xs) ≤ length xs → length (cond b (x ∷ filter test xs) (filter test xs)) ≤ length (x ∷ xs)
  go true h = omega arith
  go false h = omega arith

pub few_leading : (t : OrderTrial) (s : State) (issued : ℕ) → length (leads_on t s issued) ≤ length (all_moves t.plan)
unfolding leading
few_leading t s issued = length_filtered (λ m. not (is_some (bar_without t.away t.plan s m)) && (nat_lt issued t.most || not (is_issue m))) (all_moves t.plan)
