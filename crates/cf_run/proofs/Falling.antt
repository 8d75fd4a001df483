-- The Falls of a sweep that are made at once: each is the rule's next pick, since each is the first past the one before in the order
-- of all moves.
use Rattle.std.proofs.Common.{◌≡◌, ◌≢◌, ◌∙◌, sym, refl, ap, subst, ℕ, ◌+◌, ◌-◌, ◌<◌, ◌^◌, List, [], ◌∷◌, ◌++◌, length, Bool, true, false, nat_lt, Option, Some, None, arith}
use Rattle.std.specs.Prelude.{◌&&◌}
use Rattle.std.proofs.Math.Bool.{and-false, and-true}
use Rattle.std.proofs.lemmas.Bool.Decides.{nat_tests}
use Rattle.cf_layout.specs.Layout.{Plan}
use Rattle.cf_layout.specs.Words.{has_bit}
use Rattle.cf_layout.proofs.Words.{no_bits}
use Rattle.cf_bind.specs.declared.cell.Cell.{Cell}
use Rattle.cf_bind.specs.declared.moves.Move.{Move}
use Rattle.cf_bind.specs.declared.moves.Move.TheVariants.{Fall}
use Rattle.cf_semantics.specs.declared.event.Event.TheVariants as event
use Rattle.cf_semantics.specs.moves.Holding.{is_held}
use Rattle.cf_semantics.specs.moves.Moves.{moved, without_packet}
use Rattle.cf_semantics.specs.state.Options.{on}
use Rattle.cf_semantics.specs.state.State.{State, cell_at, put_cell}
use Rattle.theory_refinement.proofs.moves.Rows.{put_size}
use Rattle.cf_stages.specs.Changes.{cells_fallen, falls, with_new_packet}
use Rattle.cf_stages.specs.Falling.{AreFalls, FallInTurn, FallsOn, IsNextFall, all_fallen, last_of}
use Rattle.cf_stages.proofs.Bits.{same-words}
use Rattle.cf_core.specs.Falling.{FallsTo, fallen}
use Rattle.cf_core.specs.Processors.{Processor, after_move}
use Rattle.cf_core.proofs.FallMarks.{fallen-cells, moved-fall}
use Rattle.cf_index.specs.Allowed.{passing_of, word_allowed}
use Rattle.cf_index.specs.Left.{AreLeft}
use Rattle.cf_index.specs.PickedFrom.{from_fall, from_meet, left_then}
use Rattle.cf_index.specs.Words.{goes_on}
use Rattle.cf_index.proofs.FallsInTurn.{left-falls, next-left, no-falls, none-left}
use Rattle.cf_index.proofs.PickedFrom.{all_falls, fallen_on, picked_on, same_listed}
use Rattle.cf_sched.specs.Paces.{PaceCount}
use Rattle.cf_report.specs.declared.tally.Tally.{Tally}
use Rattle.cf_run.specs.Sweeps.{IsSweeping, PicksFrom, PicksNext, SweepsTo, rule_at, silent}
use Rattle.cf_run.proofs.Climbing.{with_moves}
use Rattle.cf_run.proofs.Turning.{after_keeps, come-counts, few-stages, goes_on_so, no_turns, picked_here, sweeping-kept, sweeps_on, within-sweeps}

-- One Fall after another --

-- the last pick of the rule after these Falls
abbrev last_fall : Option Move → List ℕ → Option Move
last_fall last [] = last
last_fall last (i ∷ stages) = Some (Fall i)

-- whatever word has the Falls that are left above stage a, the rule picks the first of these, or of the kinds after them
abbrev PicksAbove : PaceCount → Processor → Option Move → (a : ℕ) → Type 0
PicksAbove pace p last a = (w : ℕ) → AreLeft p.plan p.state a Fall w → PicksFrom pace p last (left_then Fall w from_meet)

-- where they lead
record FallsBy (limit : ℕ) (p : Processor) (last : Option Move) (pace : PaceCount) (tally : Tally) (a : ℕ) (stages : List ℕ) : Type 0 where
  swept : SweepsTo limit silent (rule_at p last pace tally) (rule_at (fallen p stages) (last_fall last stages) pace (with_moves tally (length stages)))
  ready : IsSweeping limit (rule_at (fallen p stages) (last_fall last stages) pace (with_moves tally (length stages)))
  picked : PicksAbove pace (fallen p stages) (last_fall last stages) (last_of a stages)
  plan : (fallen p stages).plan ≡ p.plan
  size : length (fallen p stages).state.cells ≡ p.plan.stages

length_fallen : (cells : List Cell) (i : ℕ) → length (cells_fallen cells i) ≡ length cells
unfolding cells_fallen
length_fallen cells i = by (cell_at cells i) (cell_at cells (i - 1))
  where
    by : (o q : Option Cell) →
        length (on o cells (λ c. on q cells (λ d. put_cell (put_cell cells i (without_packet c)) (i - 1) (with_new_packet c.packet d)))) ≡ length cells
    by None q = refl
    by (Some c) None = refl
    by (Some c) (Some d) =
        put_size (put_cell cells i (without_packet c)) (i - 1) (with_new_packet c.packet d) ∙ put_size cells i (without_packet c)

keeps_size : (plan : Plan) (s : State) (i : ℕ) → length (moved plan s (Fall i)).cells ≡ length s.cells
keeps_size plan s i = ap (λ (t : State). length t.cells) (moved-fall plan s i) ∙ length_fallen s.cells i

falls_by : (limit : ℕ) (p : Processor) (last : Option Move) (pace : PaceCount) (tally : Tally) (a : ℕ) (stages : List ℕ) →
    IsSweeping limit (rule_at p last pace tally) → PicksAbove pace p last a → length p.state.cells ≡ p.plan.stages →
    FallInTurn p.state.cells a stages → FallsBy limit p last pace tally a stages
unfolding fallen FallInTurn
falls_by limit p last pace tally a [] ready picked size turns = record {
  swept = subst (λ (t : Tally). SweepsTo limit silent (rule_at p last pace tally) (rule_at p last pace t)) (none_more tally)
      (no_turns limit silent (rule_at p last pace tally));
  ready = subst (λ (t : Tally). IsSweeping limit (rule_at p last pace t)) (none_more tally) ready;
  picked = picked;
  plan = refl;
  size = size;
}
  where
    none_more : (t : Tally) → t ≡ with_moves t 0
    none_more t = ap (λ (n : ℕ). record t { moves = n }) (omega arith)
falls_by limit p last pace tally a (i ∷ stages) ready picked size turns =
    let so_far = falls_by limit p last pace tally a stages ready picked size turns.0 in
    let q = fallen p stages in
    let count = length stages in
    let before = rule_at q (last_fall last stages) pace (with_moves tally count) in
    let held = is_held q.plan pace.count in
    let few = few-stages limit before so_far.ready in
    let sized : length q.state.cells ≡ q.plan.stages = so_far.size ∙ ap (λ (l : Plan). l.stages) (sym so_far.plan) in
    let next = subst (λ (x : Processor). IsNextFall x.state.cells (last_of a stages) i) (sym (fallen-cells p stages)) turns.1 in
    let first = next-left q.plan q.state (last_of a stages) i (goes_on_so limit before so_far.ready) sized few next in
    let pick : PicksNext pace q (last_fall last stages) (Fall i) =
    picked_here pace.rule held q.plan q.state (last_fall last stages) (left_then Fall first.word from_meet q.plan q.state) (Fall i)
    (so_far.picked first.word first.left) first.first in
    let new = after_move q (Fall i) in
    let turn : SweepsTo limit silent before (rule_at new (Some (Fall i)) pace (with_moves tally (count + 1))) =
    subst (λ (t : Tally). SweepsTo limit silent before (rule_at new (Some (Fall i)) pace t)) (one_more count)
    (within-sweeps limit before new (Fall i) _ event.Plain (omega arith) (omega arith) so_far.ready pick refl refl refl) in
    let here = sweeping-kept limit before _ so_far.ready turn (after_keeps q new (Fall i) (λ e. absurd (omega (arith, e))) refl) in
    let z : count + 1 ≡ length (i ∷ stages) = omega arith in
    record {
      swept = subst (λ (n : ℕ). SweepsTo limit silent (rule_at p last pace tally) (rule_at new (Some (Fall i)) pace (with_moves tally n))) z
          (sweeps_on limit silent _ before _ so_far.swept turn);
      ready = subst (λ (n : ℕ). IsSweeping limit (rule_at new (Some (Fall i)) pace (with_moves tally n))) z here;
      picked = λ w left. fallen_on pace.rule (is_held new.plan pace.count) new.plan new.state i w few left;
      plan = so_far.plan;
      size = keeps_size q.plan q.state i ∙ so_far.size;
    }
  where
    one_more : (n : ℕ) → with_moves (with_moves tally n) 1 ≡ with_moves tally (n + 1)
    one_more n = ap (λ (m : ℕ). record tally { moves = m }) (omega arith)

-- All of them --

-- where results have fallen in turn, and the last of them from stage i
pub record FallsOnward (limit : ℕ) (p new : Processor) (last : Option Move) (pace : PaceCount) (tally : Tally) (count i : ℕ) : Type 0 where
  pub swept : SweepsTo limit silent (rule_at p last pace tally) (rule_at new (Some (Fall i)) pace (with_moves tally count))
  pub ready : IsSweeping limit (rule_at new (Some (Fall i)) pace (with_moves tally count))
  pub picked : PicksFrom pace new (Some (Fall i)) from_meet
  pub counts : tally.moves + count < 2 ^ 64

-- one fell if the word has a stage
some_fell : (cells new : List Cell) (w count i : ℕ) (f : FallsOn cells w new count i) → w < 2 ^ 32 → w ≢ 0 → (stages : List ℕ) → f.stages ≡ stages →
    (last : Option Move) → (last_fall last stages ≡ Some (Fall i)) × (last_of f.start stages ≡ i)
unfolding AreFalls all_fallen
some_fell cells new w count i f small some [] is last = absurd (some (same-words w 0 small (omega arith) (λ k below. f.word k ∙ none k)))
  where
    new_is : new ≡ cells
    new_is = f.new_is ∙ ap (all_fallen cells) is

    none : (k : ℕ) → (falls cells (k + 1) && nat_lt f.start (k + 1)) ≡ has_bit 0 k
    none k = by (nat_lt f.start (k + 1)) refl ∙ sym (no_bits k)
      where
        by : (above : Bool) → nat_lt f.start (k + 1) ≡ above → (falls cells (k + 1) && above) ≡ false
        by true e =
            let over : last_of f.start f.stages < k + 1 = rw is (grind (arith, nat_tests)) in
            let off : falls cells (k + 1) ≡ false = ap (λ (cs : List Cell). falls cs (k + 1)) (sym new_is) ∙ f.ends (k + 1) over in
            rw off refl
        by false e = and-false (falls cells (k + 1))
some_fell cells new w count i f small some (j ∷ stages) is last =
    let e : i ≡ j = f.last_is ∙ ap (last_of 0) is in
    rw e (refl, refl)

-- above the stage where the Falls start are all Falls that are allowed
starts_above : (p : Processor) (pace : PaceCount) (last : Option Move) (w a : ℕ) → goes_on p.state ≡ true → length p.state.cells ≡ p.plan.stages →
    PicksFrom pace p last from_fall → AreLeft p.plan p.state 0 Fall w → AreFalls p.state.cells a w → PicksAbove pace p last a
unfolding AreFalls AreLeft passing_of
starts_above p pace last w a on size picked all word v left =
    picked_on pace.rule (is_held p.plan pace.count) p.plan p.state last (from_fall p.plan p.state) (left_then Fall v from_meet p.plan p.state)
    (ap (λ (l : List Move). l ++ from_meet p.plan p.state) (same_listed Fall v (word_allowed p.plan p.state Fall) same)
    ∙ all_falls p.plan p.state (word_allowed p.plan p.state Fall) refl) picked
  where
    same : (k : ℕ) → has_bit v k ≡ has_bit (word_allowed p.plan p.state Fall) k
    same k =
        let above : nat_lt 0 (k + 1) ≡ true = grind (arith, nat_tests) in
        left-falls p.plan p.state a v on size left k ∙ sym (word k) ∙ all k ∙ rw above (and-true (has_bit (word_allowed p.plan p.state Fall) k))

pub falls-onward : (limit : ℕ) (p new : Processor) (last : Option Move) (pace : PaceCount) (tally : Tally) (w count i : ℕ) →
    IsSweeping limit (rule_at p last pace tally) → PicksFrom pace p last from_fall → length p.state.cells ≡ p.plan.stages →
    AreLeft p.plan p.state 0 Fall w → FallsTo p new w count i → w < 2 ^ 32 → w ≢ 0 → FallsOnward limit p new last pace tally count i
falls-onward limit p new last pace tally w count i ready picked size left to small some =
    let f = to.falls in
    let on = goes_on_so limit (rule_at p last pace tally) ready in
    let by = falls_by limit p last pace tally f.start f.stages ready (starts_above p pace last w f.start on size picked left f.word) size f.in_turn in
    let ends = some_fell p.state.cells new.state.cells w count i f small some f.stages refl last in
    let place = λ (q : Processor) (o : Option Move) (n : ℕ). rule_at q o pace (with_moves tally n) in
    let same = ap (λ (q : Processor). place q (last_fall last f.stages) (length f.stages)) (sym to.is)
    ∙ ap (λ (o : Option Move). place new o (length f.stages)) ends.0 ∙ ap (place new (Some (Fall i))) (sym f.count_is) in
    let here = subst (IsSweeping limit) same by.ready in
    let sized : length new.state.cells ≡ new.plan.stages =
    ap (λ (q : Processor). length q.state.cells) to.is ∙ by.size ∙ ap (λ (l : Plan). l.stages) (sym by.plan)
    ∙ ap (λ (q : Processor). q.plan.stages) (sym to.is) in
    let at = (come-counts limit silent _ here.come).moves in
    let held = is_held new.plan pace.count in
    let none = none-left new.plan new.state i (goes_on_so limit _ here) sized (λ k. over (λ j above. f.ends j (rw ends.1 above)) k (nat_lt i k) refl) in
    record {
      swept = subst (SweepsTo limit silent (rule_at p last pace tally)) same by.swept;
      ready = here;
      picked = picked_on pace.rule held new.plan new.state (Some (Fall i)) (left_then Fall 0 from_meet new.plan new.state) (from_meet new.plan new.state)
          (sym (no-falls Fall (from_meet new.plan new.state)))
          (fallen_on pace.rule held new.plan new.state i 0 (few-stages limit _ here) none);
      counts = omega (arith, at);
    }
  where
    over : ((j : ℕ) → i < j → falls new.state.cells j ≡ false) → (k : ℕ) (above : Bool) → nat_lt i k ≡ above → (falls new.state.cells k && above) ≡ false
    over ends k true e = let off = ends k (grind (arith, nat_tests)) in rw off refl
    over ends k false e = and-false (falls new.state.cells k)
