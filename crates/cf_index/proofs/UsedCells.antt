-- Which cells of sidings a move uses.
use Rattle.std.proofs.Common.{◌≡◌, ◌∙◌, sym, refl, ap, ℕ, zero, suc, ◌+◌, ◌-◌, ◌/◌, ◌%◌, List, ◌∷◌, map, Bool, true, false, cond, length, nat_eq, nat_lt, arith}
use Rattle.std.specs.Prelude.{◌&&◌, ◌||◌, ◌==◌, filter, nat_le}
use Rattle.std.proofs.lemmas.Bool.Decides.{nat_tests}
use Rattle.cf_layout.specs.Layout.{Plan, cells_of, launch_stage, recover_stage}
use Rattle.cf_layout.specs.Words.{has_bit}
use Rattle.cf_layout.proofs.Words.{no_bits}
use Rattle.cf_bind.specs.declared.moves.Move.{Move}
use Rattle.cf_bind.specs.declared.moves.Move.TheVariants.{Issue, Emit, Climb, Fall, Meet, Execute, Send, Launch, Slide, Access, Recover, Leave, Exit, Serve}
use Rattle.cf_semantics.specs.moves.Candidates.{counted_from}
use Rattle.cf_semantics.specs.state.Layouts.{port}
use Rattle.cf_semantics.specs.moves.Sites.{Site, SidingCell, among}
use Rattle.cf_index.proofs.Counted.{map_choice}
use Rattle.cf_index.proofs.UsedSites.{alone}
use Rattle.cf_index.specs.Sites.{uses_place, ways_in, ways_out}

-- whether the cell of a siding is in a list that may begin with one more cell
chosen : (a b k c : ℕ) (set : Bool) (xs : List Site) → among (SidingCell a b) (cond set (SidingCell k c ∷ xs) xs)
    ≡ (((nat_eq a k && nat_eq b c) && set) || among (SidingCell a b) xs)
chosen a b k c true xs = grind arith
chosen a b k c false xs = grind arith

-- whether the cell is one of the cells f of the n sidings from m on that pass the test
among_numbered : (test : ℕ → Bool) (f : ℕ → ℕ) (a b m n : ℕ) → among (SidingCell a b) (map (λ k. SidingCell k (f k)) (filter test (counted_from m n)))
    ≡ ((nat_le m a && nat_lt a (m + n)) && (test a && nat_eq b (f a)))
among_numbered test f a b m zero = let e : (nat_le m a && nat_lt a (m + 0)) ≡ false = grind (arith, nat_tests) in rw e refl
among_numbered test f a b m (suc n) =
    let r = among_numbered test f a b (suc m) n in
    ap (among (SidingCell a b)) (map_choice (λ k. SidingCell k (f k)) (test m) m (filter test (counted_from (suc m) n)))
    ∙ chosen a b m (f m) (test m) (map (λ k. SidingCell k (f k)) (filter test (counted_from (suc m) n)))
    ∙ ap (λ (o : Bool). ((nat_eq a m && nat_eq b (f m)) && test m) || o) r
    ∙ by (nat_eq a m) refl
  where
    here : (b t : Bool) → (((true && b) && t) || (false && (t && b))) ≡ (true && (t && b))
    here b t = grind arith

    by : (same : Bool) → nat_eq a m ≡ same → (((nat_eq a m && nat_eq b (f m)) && test m) || ((nat_le (suc m) a && nat_lt a (suc m + n))
        && (test a && nat_eq b (f a)))) ≡ ((nat_le m a && nat_lt a (m + suc n)) && (test a && nat_eq b (f a)))
    by true e =
        let q : a ≡ m = grind (arith, nat_tests) in
        let t : nat_eq m m ≡ true = grind (arith, nat_tests) in
        let low : (nat_le (suc m) m && nat_lt m (suc m + n)) ≡ false = grind (arith, nat_tests) in
        let now : (nat_le m m && nat_lt m (m + suc n)) ≡ true = grind (arith, nat_tests) in
        rw (q, t, low, now) (here (nat_eq b (f m)) (test m))
    by false e =
        let now : (nat_le m a && nat_lt a (m + suc n)) ≡ (nat_le (suc m) a && nat_lt a (suc m + n)) = grind (arith, nat_tests) in
        rw (e, now) refl

from_first : (a n : ℕ) (b : Bool) → ((nat_le 0 a && nat_lt a (0 + n)) && b) ≡ (nat_lt a n && b)
from_first a n b = let e : (nat_le 0 a && nat_lt a (0 + n)) ≡ nat_lt a n = grind (arith, nat_tests) in rw e refl

-- the first cells of the sidings that launch at a stage
pub among_ways_in : (plan : Plan) (i a b : ℕ) → among (SidingCell a b) (ways_in plan i) ≡ (nat_lt a (length plan.sidings)
    && (nat_eq (launch_stage plan a) i && nat_eq b 0))
unfolding ways_in
among_ways_in plan i a b =
    among_numbered (λ k. launch_stage plan k == i) (λ k. 0) a b 0 (length plan.sidings)
    ∙ from_first a (length plan.sidings) (nat_eq (launch_stage plan a) i && nat_eq b 0)

-- and the last cells of those that recover there
pub among_ways_out : (plan : Plan) (i a b : ℕ) → among (SidingCell a b) (ways_out plan i) ≡ (nat_lt a (length plan.sidings)
    && (nat_eq (recover_stage plan a) i && nat_eq b (cells_of plan a - 1)))
unfolding ways_out
among_ways_out plan i a b =
    among_numbered (λ k. recover_stage plan k == i) (λ k. cells_of plan k - 1) a b 0 (length plan.sidings)
    ∙ from_first a (length plan.sidings) (nat_eq (recover_stage plan a) i && nat_eq b (cells_of plan a - 1))

-- the cells that a move uses
abbrev pub at_cell : Plan → Move → ℕ → ℕ → Bool
at_cell plan (Launch i) a b = among (SidingCell a b) (ways_in plan i)
at_cell plan (Slide k c) a b = nat_eq a k && (nat_eq b c || nat_eq b (c + 1))
at_cell plan Access a b = nat_eq a (port plan) && nat_eq b (cells_of plan (port plan) - 1)
at_cell plan (Recover i) a b = among (SidingCell a b) (ways_out plan i)
at_cell plan _ a b = false

two : (s a b : Bool) → ((s && a) || ((s && b) || false)) ≡ (s && (a || b))
two s a b = grind arith

pub cell_used : (plan : Plan) (mv : Move) (a b : ℕ) → uses_place plan mv (SidingCell a b) ≡ at_cell plan mv a b
unfolding uses_place
cell_used plan (Issue g) a b = refl
cell_used plan Emit a b = refl
cell_used plan (Climb i) a b = refl
cell_used plan (Fall i) a b = refl
cell_used plan (Meet i) a b = refl
cell_used plan (Execute i) a b = refl
cell_used plan (Send i) a b = refl
cell_used plan (Launch i) a b = refl
cell_used plan (Slide k c) a b = two (nat_eq a k) (nat_eq b c) (nat_eq b (c + 1))
cell_used plan Access a b = alone (nat_eq a (port plan) && nat_eq b (cells_of plan (port plan) - 1))
cell_used plan (Recover i) a b = refl
cell_used plan Leave a b = refl
cell_used plan Exit a b = refl
cell_used plan Serve a b = refl

-- the moves that use no cell
pub no_cell_used : (plan : Plan) (mv : Move) → ((i : ℕ) → mv ≡ Launch i → ⊥) → ((k c : ℕ) → mv ≡ Slide k c → ⊥) → (mv ≡ Access → ⊥) →
    ((i : ℕ) → mv ≡ Recover i → ⊥) → (j : ℕ) → has_bit 0 j ≡ uses_place plan mv (SidingCell (j / 8) (j % 8))
no_cell_used plan mv launch slide access recover j = no_bits j ∙ sym (cell_used plan mv (j / 8) (j % 8) ∙ none mv launch slide access recover)
  where
    none : (m : Move) → ((i : ℕ) → m ≡ Launch i → ⊥) → ((k c : ℕ) → m ≡ Slide k c → ⊥) → (m ≡ Access → ⊥) → ((i : ℕ) → m ≡ Recover i → ⊥) →
        at_cell plan m (j / 8) (j % 8) ≡ false
    none (Launch i) launch slide access recover = absurd (launch i refl)
    none (Slide k c) launch slide access recover = absurd (slide k c refl)
    none Access launch slide access recover = absurd (access refl)
    none (Recover i) launch slide access recover = absurd (recover i refl)
    none (Issue g) launch slide access recover = refl
    none Emit launch slide access recover = refl
    none (Climb i) launch slide access recover = refl
    none (Fall i) launch slide access recover = refl
    none (Meet i) launch slide access recover = refl
    none (Execute i) launch slide access recover = refl
    none (Send i) launch slide access recover = refl
    none Leave launch slide access recover = refl
    none Exit launch slide access recover = refl
    none Serve launch slide access recover = refl
