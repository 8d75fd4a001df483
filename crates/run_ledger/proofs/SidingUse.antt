-- Which sidings a move uses.
use Rattle.std.proofs.Common.{◌≡◌, ◌∙◌, refl, ap, ℕ, zero, suc, ◌+◌, ◌-◌, List, ◌∷◌, map, Bool, true, false, cond, length, nat_eq, nat_lt, arith}
use Rattle.std.specs.Prelude.{◌&&◌, ◌||◌, ◌==◌, filter, nat_le}
use Rattle.std.specs.List.{list_any}
use Rattle.std.proofs.lemmas.Bool.Decides.{nat_tests}
use Rattle.cf_layout.specs.Layout.{Plan, cells_of, launch_stage, recover_stage}
use Rattle.cf_bind.specs.declared.moves.Move.{Move}
use Rattle.cf_bind.specs.declared.moves.Move.TheVariants.{Issue, Emit, Climb, Fall, Meet, Execute, Send, Launch, Slide, Access, Recover, Leave, Exit, Serve}
use Rattle.cf_semantics.specs.moves.Candidates.{counted_from}
use Rattle.cf_semantics.specs.state.Layouts.{port}
use Rattle.cf_semantics.specs.moves.Sites.{Site, SidingCell}
use Rattle.cf_index.proofs.Counted.{map_choice}
use Rattle.cf_index.specs.Sites.{ways_in, ways_out}
use Rattle.run_ledger.specs.Using.{is_cell_of, uses_siding}

-- the first of a list that may begin with one more cell
chosen : (a k c : ℕ) (set : Bool) (xs : List Site) → list_any (is_cell_of a) (cond set (SidingCell k c ∷ xs) xs)
    ≡ ((nat_eq a k && set) || list_any (is_cell_of a) xs)
chosen a k c true xs = by (nat_eq a k)
  where
    by : (b : Bool) → (b || list_any (is_cell_of a) xs) ≡ ((b && true) || list_any (is_cell_of a) xs)
    by true = refl
    by false = refl
chosen a k c false xs = by (nat_eq a k)
  where
    by : (b : Bool) → list_any (is_cell_of a) xs ≡ ((b && false) || list_any (is_cell_of a) xs)
    by true = refl
    by false = refl

-- one of the cells with the numbers f of the sidings from m on, n of them, that pass the test is one of the siding
any_numbered : (test : ℕ → Bool) (f : ℕ → ℕ) (a m n : ℕ) → list_any (is_cell_of a) (map (λ k. SidingCell k (f k)) (filter test (counted_from m n)))
    ≡ ((nat_le m a && nat_lt a (m + n)) && test a)
any_numbered test f a m zero = let e : (nat_le m a && nat_lt a (m + 0)) ≡ false = grind (arith, nat_tests) in rw e refl
any_numbered test f a m (suc n) =
    let r = any_numbered test f a (suc m) n in
    ap (list_any (is_cell_of a)) (map_choice (λ k. SidingCell k (f k)) (test m) m (filter test (counted_from (suc m) n)))
    ∙ chosen a m (f m) (test m) (map (λ k. SidingCell k (f k)) (filter test (counted_from (suc m) n)))
    ∙ ap (λ (o : Bool). (nat_eq a m && test m) || o) r
    ∙ by (nat_eq a m) refl
  where
    here : (t : Bool) → ((true && t) || (false && t)) ≡ (true && t)
    here true = refl
    here false = refl

    by : (same : Bool) → nat_eq a m ≡ same → ((nat_eq a m && test m) || ((nat_le (suc m) a && nat_lt a (suc m + n)) && test a))
        ≡ ((nat_le m a && nat_lt a (m + suc n)) && test a)
    by true e =
        let q : a ≡ m = grind (arith, nat_tests) in
        let t : nat_eq m m ≡ true = grind (arith, nat_tests) in
        let low : (nat_le (suc m) m && nat_lt m (suc m + n)) ≡ false = grind (arith, nat_tests) in
        let now : (nat_le m m && nat_lt m (m + suc n)) ≡ true = grind (arith, nat_tests) in
        rw (q, t, low, now) (here (test m))
    by false e =
        let now : (nat_le m a && nat_lt a (m + suc n)) ≡ (nat_le (suc m) a && nat_lt a (suc m + n)) = grind (arith, nat_tests) in
        rw (e, now) refl

from_first : (a n : ℕ) (b : Bool) → ((nat_le 0 a && nat_lt a (0 + n)) && b) ≡ (nat_lt a n && b)
from_first a n b = let e : (nat_le 0 a && nat_lt a (0 + n)) ≡ nat_lt a n = grind (arith, nat_tests) in rw e refl

any_way_in : (plan : Plan) (i a : ℕ) → list_any (is_cell_of a) (ways_in plan i) ≡ (nat_lt a (length plan.sidings) && nat_eq (launch_stage plan a) i)
unfolding ways_in
any_way_in plan i a =
    any_numbered (λ k. launch_stage plan k == i) (λ k. 0) a 0 (length plan.sidings)
    ∙ from_first a (length plan.sidings) (nat_eq (launch_stage plan a) i)

any_way_out : (plan : Plan) (i a : ℕ) → list_any (is_cell_of a) (ways_out plan i) ≡ (nat_lt a (length plan.sidings) && nat_eq (recover_stage plan a) i)
unfolding ways_out
any_way_out plan i a =
    any_numbered (λ k. recover_stage plan k == i) (λ k. cells_of plan k - 1) a 0 (length plan.sidings)
    ∙ from_first a (length plan.sidings) (nat_eq (recover_stage plan a) i)

-- the sidings that a move uses
abbrev pub at_siding : Plan → ℕ → Move → Bool
at_siding plan k (Launch i) = nat_lt k (length plan.sidings) && nat_eq (launch_stage plan k) i
at_siding plan k (Slide j c) = nat_eq k j
at_siding plan k Access = nat_eq k (port plan)
at_siding plan k (Recover i) = nat_lt k (length plan.sidings) && nat_eq (recover_stage plan k) i
at_siding plan k _ = false

twice : (b : Bool) → (b || (b || false)) ≡ b
twice true = refl
twice false = refl

once : (b : Bool) → (b || false) ≡ b
once true = refl
once false = refl

pub siding_used : (plan : Plan) (k : ℕ) (mv : Move) → uses_siding plan k mv ≡ at_siding plan k mv
unfolding uses_siding
siding_used plan k (Issue g) = refl
siding_used plan k Emit = refl
siding_used plan k (Climb i) = refl
siding_used plan k (Fall i) = refl
siding_used plan k (Meet i) = refl
siding_used plan k (Execute i) = refl
siding_used plan k (Send i) = refl
siding_used plan k (Launch i) = any_way_in plan i k
siding_used plan k (Slide j c) = twice (nat_eq k j)
siding_used plan k Access = once (nat_eq k (port plan))
siding_used plan k (Recover i) = any_way_out plan i k
siding_used plan k Leave = refl
siding_used plan k Exit = refl
siding_used plan k Serve = refl
