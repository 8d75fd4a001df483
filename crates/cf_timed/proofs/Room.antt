-- The clock has room for the sites of every candidate.
use Rattle.std.proofs.Common.{◌≡◌, subst, ℕ, zero, suc, ◌+◌, ◌-◌, ◌<◌, ◌≤◌, List, [], ◌∷◌, ◌++◌, length, map, All, Bool, true, false, cond, Some, nat_lt, arith}
use Rattle.std.specs.Prelude.{filter, slice_get, not, ◌==◌}
use Rattle.std.specs.List.{AllByRecursion}
use Rattle.rv_inst.specs.declared.classes.Class.TheVariants.{Memory as MemoryClass}
use Rattle.run_options.specs.declared.guess_rule.GuessRule.{GuessRule}
use Rattle.cf_layout.specs.Layout.{Plan, SidingPlan, launch_stage, recover_stage}
use Rattle.cf_layout.specs.Accepted.{IsAccepted, IsSiding}
use Rattle.cf_layout.proofs.Facts.{memory_siding, siding_found}
use Rattle.cf_bind.specs.declared.passenger.Guess.TheVariants as guess
use Rattle.cf_bind.specs.declared.moves.Move.{Move}
use Rattle.cf_bind.specs.declared.moves.Move.TheVariants.{Issue, Emit, Climb, Fall, Meet, Execute, Send, Launch, Slide, Access, Recover, Leave, Exit, Serve}
use Rattle.cf_semantics.specs.moves.Bars.{bar}
use Rattle.cf_semantics.specs.state.Options.{is_some}
use Rattle.cf_semantics.specs.moves.Candidates.{all_moves, at_stages, candidates, counted_from, held_back, other_moves, slides_from}
use Rattle.cf_semantics.specs.moves.Holding.{is_held}
use Rattle.cf_index.specs.GuessRules.{guided, keeps_move}
use Rattle.cf_sched.specs.Paces.{offered_by}
use Rattle.cf_semantics.specs.state.Layouts.{port}
use Rattle.cf_semantics.specs.moves.Sites.{Site}
use Rattle.cf_semantics.specs.state.State.{State}
use Rattle.cf_semantics.specs.claims.Weight.{is_issue}
use Rattle.cf_index.specs.Sites.{sidings_where, way_in, way_out, ways_in, ways_out}
use Rattle.cf_index.proofs.SiteWords.{siding_within}
use Rattle.cf_timed.specs.Clocks.{AreKept, IsKept}

-- what holds of the elements of two lists holds of those of both together
pub all_both : {X : Type 0} (P : X → Type 0) (xs ys : List X) → AllByRecursion P xs → AllByRecursion P ys → AllByRecursion P (xs ++ ys)
all_both P [] ys h g = g
all_both P (x ∷ xs) ys h g = (h.0, all_both P xs ys h.1 g)

-- and of those that pass a test
pub all_passed : {X : Type 0} (P : X → Type 0) (test : X → Bool) (xs : List X) → AllByRecursion P xs → AllByRecursion P (filter test xs)
all_passed P test [] h = tt
all_passed P test (x ∷ xs) h = by (test x) (all_passed P test xs h.1)
  where
    by : (b : Bool) → AllByRecursion P (filter test xs) → AllByRecursion P (cond b (x ∷ filter test xs) (filter test xs))
    by true r = (h.0, r)
    by false r = r

-- and of the element at an index
pub one_of_all : {X : Type 0} (P : X → Type 0) (xs : List X) (k : ℕ) (x : X) → AllByRecursion P xs → slice_get xs k ≡ Some x → P x
one_of_all P [] k x h e = absurd (cc)
one_of_all P (y ∷ ys) zero x h e = let q : y ≡ x = cc in subst P q h.0
one_of_all P (y ∷ ys) (suc k) x h e = one_of_all P ys k x h.1 e

-- the numbers from a given one on
all_counted : {X : Type 0} (P : X → Type 0) (make : ℕ → X) (first n : ℕ) → ((i : ℕ) → first ≤ i → i < first + n → P (make i)) →
    AllByRecursion P (map make (counted_from first n))
all_counted P make first zero h = tt
all_counted P make first (suc n) h = (h first (omega arith) (omega arith), all_counted P make (suc first) n (λ i low high. h i (omega arith) (omega arith)))

numbers : (P : ℕ → Type 0) (first n : ℕ) → ((i : ℕ) → first ≤ i → i < first + n → P i) → AllByRecursion P (counted_from first n)
numbers P first zero h = tt
numbers P first (suc n) h = (h first (omega arith) (omega arith), numbers P (suc first) n (λ i low high. h i (omega arith) (omega arith)))

mapped : (place : ℕ → Site) (ks : List ℕ) → AllByRecursion (λ k. IsKept (place k)) ks → AllByRecursion IsKept (map place ks)
mapped place [] h = tt
mapped place (k ∷ ks) h = (h.0, mapped place ks h.1)

-- the first and last cells of sidings
ways_kept : (plan : Plan) (place : ℕ → Site) (test : ℕ → Bool) → ((k : ℕ) → k < length plan.sidings → IsKept (place k)) →
    AllByRecursion IsKept (map place (sidings_where plan test))
ways_kept plan place test each =
    mapped place (sidings_where plan test) (all_passed (λ k. IsKept (place k)) test (counted_from 0 (length plan.sidings))
    (numbers (λ k. IsKept (place k)) 0 (length plan.sidings) (λ k low high. each k (omega arith))))

in_kept : (plan : Plan) (i : ℕ) → IsAccepted plan → AllByRecursion IsKept (ways_in plan i)
unfolding ways_in
in_kept plan i a = ways_kept plan way_in (λ k. launch_stage plan k == i) (λ k within. let w = siding_within plan k a within in (w.2, omega arith))

out_kept : (plan : Plan) (i : ℕ) → IsAccepted plan → AllByRecursion IsKept (ways_out plan i)
unfolding ways_out
out_kept plan i a = ways_kept plan (way_out plan) (λ k. recover_stage plan k == i) (λ k within. let w = siding_within plan k a within in
    (w.2, omega (arith, w.1)))

port_kept : (plan : Plan) → IsAccepted plan → IsKept (way_out plan (port plan))
unfolding port
port_kept plan a =
    let m = memory_siding plan a in
    let f = siding_found plan MemoryClass m.0 m.1 in
    let w = siding_within plan m.0 a f.0 in
    let e = m.1 in
    rw e (w.2, omega (arith, w.1))

-- one kind of move at each stage
stages_kept : (plan : Plan) (kind : ℕ → Move) → IsAccepted plan → ((i : ℕ) → i < 33 → AreKept plan (kind i)) →
    AllByRecursion (AreKept plan) (at_stages plan kind)
stages_kept plan kind a each = let s = a.stages.1 in all_counted (AreKept plan) kind 1 plan.stages (λ i low high. each i (omega (arith, s)))

-- the moves within the sidings
slides_kept : (plan : Plan) (k : ℕ) (sidings : List SidingPlan) → k + length sidings ≤ 8 → All (IsSiding plan) sidings →
    AllByRecursion (AreKept plan) (slides_from k sidings)
slides_kept plan k [] few each = tt
slides_kept plan k (siding ∷ sidings) few each =
    let s : siding.cells ≤ 8 = (each 0 siding (omega arith)).cells.1 in
    all_both (AreKept plan) (map (Slide k) (counted_from 0 (siding.cells - 1))) (slides_from (suc k) sidings)
    (all_counted (AreKept plan) (Slide k) 0 (siding.cells - 1) (λ c low high. ((omega arith, omega (arith, s)), ((omega arith, omega (arith, s)), tt))))
    (slides_kept plan (suc k) sidings (omega (arith, few)) (λ i d within. each (suc i) d (omega (arith, within))))

pub all_moves_kept : (plan : Plan) → IsAccepted plan → AllByRecursion (AreKept plan) (all_moves plan)
unfolding all_moves
all_moves_kept plan a =
    let s = a.stages.1 in
    let top : plan.stages < 34 = omega (arith, s) in
    let one : 1 < 34 = omega arith in
    let issue : AreKept plan (Issue guess.Next) = (one, (tt, (tt, (tt, tt)))) in
    let climbs = stages_kept plan Climb a (λ i low. (omega arith, (omega arith, tt))) in
    let falls = stages_kept plan Fall a (λ i low. (omega arith, (omega arith, tt))) in
    let meets = stages_kept plan Meet a (λ i low. (omega arith, tt)) in
    let executes = stages_kept plan Execute a (λ i low. (omega arith, tt)) in
    let sends = stages_kept plan Send a (λ i low. (omega arith, tt)) in
    let launches = stages_kept plan Launch a (λ i low. (omega arith, in_kept plan i a)) in
    let slides = slides_kept plan 0 plan.sidings (let f = a.few_sidings in omega (arith, f)) a.sidings in
    let recovers = stages_kept plan Recover a (λ i low. (omega arith, out_kept plan i a)) in
    let entering : AllByRecursion (AreKept plan) (Issue guess.Next ∷ Issue guess.Taken ∷ Issue guess.Wait ∷ Emit ∷ at_stages plan Climb) =
    (issue, (issue, (issue, ((top, (tt, tt)), climbs)))) in
    let access : AllByRecursion (AreKept plan) (Access ∷ at_stages plan Recover) = ((port_kept plan a, (tt, tt)), recovers) in
    let leaving : AllByRecursion (AreKept plan) (Leave ∷ Exit ∷ Serve ∷ []) = ((top, tt), ((one, (tt, tt)), ((top, (tt, (tt, tt))), tt))) in
    let K = AreKept plan in
    let first = Issue guess.Next ∷ Issue guess.Taken ∷ Issue guess.Wait ∷ Emit ∷ at_stages plan Climb in
    let F = at_stages plan Fall in
    let M = at_stages plan Meet in
    let E = at_stages plan Execute in
    let S = at_stages plan Send in
    let L = at_stages plan Launch in
    let W = slides_from 0 plan.sidings in
    let A = Access ∷ at_stages plan Recover in
    let Z = Leave ∷ Exit ∷ Serve ∷ [] in
    all_both K (first ++ F ++ M ++ E ++ S ++ L ++ W ++ A) Z (
    all_both K (first ++ F ++ M ++ E ++ S ++ L ++ W) A (
    all_both K (first ++ F ++ M ++ E ++ S ++ L) W (
    all_both K (first ++ F ++ M ++ E ++ S) L (
    all_both K (first ++ F ++ M ++ E) S (
    all_both K (first ++ F ++ M) E (
    all_both K (first ++ F) M (
    all_both K first F entering falls) meets) executes) sends) launches) slides) access) leaving

-- what is offered
pub offered_kept : (r : GuessRule) (plan : Plan) (count : ℕ) (s : State) → IsAccepted plan → AllByRecursion (AreKept plan) (offered_by r plan count s)
unfolding offered_by guided candidates held_back
offered_kept r plan count s a = by (is_held plan count)
  where
    all : AllByRecursion (AreKept plan) (candidates plan s)
    all = all_passed (AreKept plan) (λ mv. not (is_some (bar plan s mv))) (all_moves plan) (all_moves_kept plan a)

    there : AllByRecursion (AreKept plan) (guided r plan s)
    there = all_passed (AreKept plan) (keeps_move r plan s) (candidates plan s) all

    others : AllByRecursion (AreKept plan) (other_moves (guided r plan s))
    others = all_passed (AreKept plan) (λ mv. not (is_issue mv)) (guided r plan s) there

    held : (b : Bool) → AllByRecursion (AreKept plan) (cond b (other_moves (guided r plan s)) (guided r plan s))
    held true = others
    held false = there

    by : (b : Bool) → AllByRecursion (AreKept plan) (cond b (held_back (guided r plan s)) (guided r plan s))
    by true = held (nat_lt 0 (length (other_moves (guided r plan s))))
    by false = there
