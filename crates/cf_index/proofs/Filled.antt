-- The words that are filled bit by bit, and the moves that they list.
use Rattle.std.proofs.Common.{◌≡◌, ◌∙◌, sym, refl, ap, ℕ, zero, suc, ◌+◌, ◌-◌, ◌*◌, ◌/◌, ◌%◌, ◌<◌, ◌≤◌, List, [], ◌∷◌, ◌++◌, length, map, All, Option, None, Bool, true, false, nat_lt, arith}
use Rattle.std.specs.Prelude.{◌&&◌, filter, slice_get, unwrap_or}
use Rattle.std.proofs.lemmas.Bool.Decides.{nat_tests}
use Rattle.std.proofs.lemmas.List.{map-append, append_assoc}
use Rattle.std.proofs.lemmas.List.Elements.{filter-append, All-tail}
use Rattle.std.proofs.lemmas.Option.{slice_get_past}
use Rattle.cf_layout.specs.Layout.{Plan, SidingPlan, no_siding, cells_of}
use Rattle.cf_layout.specs.Words.{has_bit}
use Rattle.cf_bind.specs.declared.cell.Op.{Op}
use Rattle.cf_bind.specs.declared.moves.Move.{Move}
use Rattle.cf_bind.specs.declared.moves.Move.TheVariants.{Climb, Fall, Meet, Execute, Send, Launch, Slide, Access, Recover, Leave, Exit, Serve}
use Rattle.cf_semantics.specs.moves.Bars.{bar, slide_bar}
use Rattle.cf_semantics.specs.state.Options.{is_some}
use Rattle.cf_semantics.specs.state.State.{State, siding_at}
use Rattle.cf_semantics.specs.moves.Candidates.{counted_from, at_stages, slides_from, all_moves, candidates}
use Rattle.cf_core.specs.Processors.{IsProcessor}
use Rattle.cf_core.proofs.Berths.{length-siding}
use Rattle.cf_index.specs.Places.{set_places}
use Rattle.cf_index.specs.declared.passing.Passing.{Passing}
use Rattle.cf_index.specs.declared.leaving.Leaving.{Leaving}
use Rattle.cf_index.specs.Listed.{flagged, at_word, slide_at, slides_of, passing_moves, leaving_moves}
use Rattle.cf_index.specs.Allowed.{is_allowed, HasStages, all_entering, all_passing, all_leaving}
use Rattle.cf_index.proofs.EmptySidings.{barred_by}
use Rattle.cf_index.proofs.Counted.{counted_split, filter_none, filter_chosen}

-- the moves of a word over the stages
pub stages_chosen : (plan : Plan) (s : State) (kind : ℕ → Move) (w : ℕ) → plan.stages ≤ 32 → HasStages plan s kind w →
    at_word kind w ≡ filter (is_allowed plan s) (at_stages plan kind)
unfolding at_word set_places
stages_chosen plan s kind w few has = sym (filter_chosen (is_allowed plan s) kind (λ k. kind (k + 1)) (has_bit w) 1 0 plan.stages 64 (omega arith)
    (λ c below. let e : 0 + c ≡ c = omega arith in let f : 1 + c ≡ c + 1 = omega arith in rw (e, f) (has c))
    (λ c below. let e : 0 + c + 1 ≡ 1 + c = omega arith in rw e refl))

-- the move of a flag
flag_chosen : (p : Move → Bool) (b : Bool) (mv : Move) → b ≡ p mv → flagged b mv ≡ filter p (mv ∷ [])
flag_chosen p true mv e = rw (← e) refl
flag_chosen p false mv e = rw (← e) refl

-- the parts are filtered one by one
parts_chosen : (p : Move → Bool) (xs ys us vs : List Move) → xs ≡ filter p us → ys ≡ filter p vs → xs ++ ys ≡ filter p (us ++ vs)
parts_chosen p xs ys us vs e f = rw (e, f) (sym (filter-append p us vs))

-- what is allowed in the stages
pub passing_chosen : (plan : Plan) (s : State) (p : Passing) → plan.stages ≤ 32 →
    HasStages plan s Climb p.climb → HasStages plan s Fall p.fall → HasStages plan s Meet p.meet →
    HasStages plan s Execute p.execute → HasStages plan s Send p.send → HasStages plan s Launch p.launch →
    passing_moves p ≡ filter (is_allowed plan s) (all_passing plan)
unfolding passing_moves
passing_chosen plan s p few climb fall meet execute send launch =
    parts_chosen (is_allowed plan s) _ _ _ _ (stages_chosen plan s Climb p.climb few climb) (
    parts_chosen (is_allowed plan s) _ _ _ _ (stages_chosen plan s Fall p.fall few fall) (
    parts_chosen (is_allowed plan s) _ _ _ _ (stages_chosen plan s Meet p.meet few meet) (
    parts_chosen (is_allowed plan s) _ _ _ _ (stages_chosen plan s Execute p.execute few execute) (
    parts_chosen (is_allowed plan s) _ _ _ _ (stages_chosen plan s Send p.send few send) (stages_chosen plan s Launch p.launch few launch)))))

-- what is allowed to leave
pub leaving_chosen : (plan : Plan) (s : State) (l : Leaving) → plan.stages ≤ 32 →
    l.access ≡ is_allowed plan s Access → HasStages plan s Recover l.recover → l.leave ≡ is_allowed plan s Leave →
    l.exit ≡ is_allowed plan s Exit → l.serve ≡ is_allowed plan s Serve →
    leaving_moves l ≡ filter (is_allowed plan s) (all_leaving plan)
unfolding leaving_moves
leaving_chosen plan s l few access recover leave exit serve =
    parts_chosen (is_allowed plan s) _ _ (Access ∷ []) (at_stages plan Recover ++ Leave ∷ Exit ∷ Serve ∷ [])
    (flag_chosen (is_allowed plan s) l.access Access access) (
    parts_chosen (is_allowed plan s) _ _ (at_stages plan Recover) (Leave ∷ Exit ∷ Serve ∷ []) (stages_chosen plan s Recover l.recover few recover) (
    parts_chosen (is_allowed plan s) _ _ (Leave ∷ []) (Exit ∷ Serve ∷ []) (flag_chosen (is_allowed plan s) l.leave Leave leave) (
    parts_chosen (is_allowed plan s) _ _ (Exit ∷ []) (Serve ∷ []) (flag_chosen (is_allowed plan s) l.exit Exit exit)
    (flag_chosen (is_allowed plan s) l.serve Serve serve))))

-- how many cells the m-th of these sidings has
cells_in : List SidingPlan → ℕ → ℕ
cells_in sidings m = (unwrap_or (slice_get sidings m) no_siding).cells

-- the moves within these sidings, by a word that has, for each of them, the cells at which the test holds
within : (p : Move → Bool) (w k n : ℕ) (sidings : List SidingPlan) → length sidings ≤ n → All (λ siding. siding.cells ≤ 8) sidings →
    ((m c : ℕ) → c < 8 → has_bit w (8 * (k + m) + c) ≡ (nat_lt c (cells_in sidings m - 1) && p (Slide (k + m) c))) →
    filter p (slides_from k sidings) ≡ map slide_at (filter (has_bit w) (counted_from (8 * k) (8 * n)))
unfolding cells_in
within p w k n [] few small has = rw (filter_none (has_bit w) (8 * k) (8 * n) (λ i low high.
    let e : 8 * (k + (i / 8 - k)) + i % 8 ≡ i = omega arith in
    let off : nat_lt (i % 8) (0 - 1) ≡ false = grind (arith, nat_tests) in
    rw (e, off) at (has (i / 8 - k) (i % 8) (omega arith)))) refl
within p w k zero (siding ∷ sidings) few small has = absurd (omega arith)
within p w k (suc n) (siding ∷ sidings) few small has =
    let e : 8 * suc n ≡ 8 + 8 * n = omega arith in
    let f : 8 * k + 8 ≡ 8 * suc k = omega arith in
    let first = filter_chosen p (Slide k) slide_at (has_bit w) 0 (8 * k) (siding.cells - 1) 8 (omega (arith, small 0 siding (omega arith)))
    (λ c below. let z : k + 0 ≡ k = omega arith in let h = rw z at (has 0 c below) in let y : 0 + c ≡ c = omega arith in rw y h)
    (λ c below. let q : (8 * k + c) / 8 ≡ k = omega (arith, small 0 siding (omega arith)) in
    let r : (8 * k + c) % 8 ≡ 0 + c = omega (arith, small 0 siding (omega arith)) in rw (q, r) refl) in
    let rest = within p w (suc k) n sidings (omega arith) (All-tail (λ (s : SidingPlan). s.cells ≤ 8) siding sidings small)
    (λ m c below. let g : k + suc m ≡ suc k + m = omega arith in rw g at (has (suc m) c below)) in
    let low = filter (has_bit w) (counted_from (8 * k) 8) in
    let high = filter (has_bit w) (counted_from (8 * suc k) (8 * n)) in
    let split = rw f at (counted_split (8 * k) 8 (8 * n)) in
    let right = ap (filter (has_bit w)) split ∙ filter-append (has_bit w) (counted_from (8 * k) 8) (counted_from (8 * suc k) (8 * n)) in
    rw e (filter-append p (map (Slide k) (counted_from 0 (siding.cells - 1))) (slides_from (suc k) sidings)
    ∙ rw (first, rest) (sym (ap (map slide_at) right ∙ map-append slide_at low high)))

-- no operation moves on from the last cell of a siding
past_row : (ops : List (Option Op)) (c : ℕ) → slice_get ops (c + 1) ≡ None → is_some (slide_bar ops c) ≡ true
past_row ops c e = rw e refl

slide_within : (plan : Plan) (s : State) (k c : ℕ) (there : Bool) → nat_lt c (cells_of plan k - 1) ≡ there → IsProcessor plan s →
    is_allowed plan s (Slide k c) ≡ (there && is_allowed plan s (Slide k c))
unfolding bar
slide_within plan s k c true e p = refl
slide_within plan s k c false e p =
    let n = length-siding plan s k p in
    let past : length (siding_at s k) ≤ c + 1 = grind (arith, nat_tests) in
    barred_by (is_some s.ending) s.failed _ (past_row (siding_at s k) c (slice_get_past (siding_at s k) (c + 1) past))

-- the cells of a word, at the sidings of a layout
cells_there : (plan : Plan) (s : State) (w m c : ℕ) → IsProcessor plan s → c < 8 → ((j : ℕ) → has_bit w j ≡ is_allowed plan s (slide_at j)) →
    has_bit w (8 * (0 + m) + c) ≡ (nat_lt c (cells_in plan.sidings m - 1) && is_allowed plan s (Slide (0 + m) c))
unfolding cells_in cells_of
cells_there plan s w m c p small has =
    let z : 0 + m ≡ m = omega arith in
    let q : (8 * m + c) / 8 ≡ m = omega arith in
    let r : (8 * m + c) % 8 ≡ c = omega arith in
    let h = rw (q, r) at (has (8 * m + c)) in
    rw z (h ∙ slide_within plan s m c (nat_lt c (cells_of plan m - 1)) refl p)

-- what is allowed within the sidings
pub slides_chosen : (plan : Plan) (s : State) (w : ℕ) → IsProcessor plan s → ((j : ℕ) → has_bit w j ≡ is_allowed plan s (slide_at j)) →
    slides_of w ≡ filter (is_allowed plan s) (slides_from 0 plan.sidings)
unfolding slides_of set_places
slides_chosen plan s w p has =
    let a = p.accepted in
    sym (within (is_allowed plan s) w 0 8 plan.sidings a.few_sidings (λ k d inside. (a.sidings k d inside).cells.1)
    (λ m c small. cells_there plan s w m c p small has))

-- the list of all moves, by its parts
all_parts : (plan : Plan) → all_moves plan ≡ all_entering ++ (all_passing plan ++ (slides_from 0 plan.sidings ++ all_leaving plan))
unfolding all_moves
all_parts plan = simp append_assoc

-- the candidates, by their parts
pub all_chosen : (plan : Plan) (s : State) (es ps ss ls : List Move) →
    es ≡ filter (is_allowed plan s) all_entering → ps ≡ filter (is_allowed plan s) (all_passing plan) →
    ss ≡ filter (is_allowed plan s) (slides_from 0 plan.sidings) → ls ≡ filter (is_allowed plan s) (all_leaving plan) →
    es ++ (ps ++ (ss ++ ls)) ≡ candidates plan s
unfolding candidates
all_chosen plan s es ps ss ls e p sl l =
    parts_chosen (is_allowed plan s) es _ all_entering (all_passing plan ++ (slides_from 0 plan.sidings ++ all_leaving plan)) e (
    parts_chosen (is_allowed plan s) ps _ (all_passing plan) (slides_from 0 plan.sidings ++ all_leaving plan) p (
    parts_chosen (is_allowed plan s) ss ls (slides_from 0 plan.sidings) (all_leaving plan) sl l))
    ∙ ap (filter (is_allowed plan s)) (sym (all_parts plan))
