-- The Climbs of one instruction, as far as it can: each is the rule's next pick, since the Climb of a stage comes right after that
-- of the stage below in the order of all moves.
use Rattle.std.proofs.Common.{◌≡◌, ◌∙◌, sym, refl, ap, subst, ℕ, zero, suc, ◌+◌, ◌-◌, ◌≤◌, ◌<◌, ◌^◌, List, length, Bool, true, false, nat_lt, Option, Some, None, arith}
use Rattle.std.specs.Prelude.{◌&&◌}
use Rattle.std.proofs.Math.Bool.{and-false}
use Rattle.std.proofs.lemmas.Bool.Decides.{nat_tests}
use Rattle.std.proofs.lemmas.Option.{slice_get_within}
use Rattle.cf_layout.specs.Layout.{Plan}
use Rattle.cf_layout.specs.Words.{has_bit}
use Rattle.cf_bind.specs.declared.cell.Cell.{Cell}
use Rattle.cf_bind.specs.declared.moves.Move.{Move}
use Rattle.cf_bind.specs.declared.moves.Move.TheVariants.{Climb}
use Rattle.cf_semantics.specs.declared.event.Event.TheVariants as event
use Rattle.cf_semantics.specs.moves.Bars.{bar}
use Rattle.cf_semantics.specs.moves.Holding.{is_held}
use Rattle.cf_semantics.specs.moves.Moves.{moved, without_passenger}
use Rattle.cf_semantics.specs.state.State.{State, cell_at, put_cell}
use Rattle.theory_refinement.proofs.moves.Climb.{climb_ready, next_climb}
use Rattle.theory_refinement.proofs.moves.Rows.{bar_row, put_size}
use Rattle.cf_stages.specs.Words.{word_of}
use Rattle.cf_stages.proofs.Bits.{word-small}
use Rattle.cf_core.specs.Climbing.{ClimbsTo, climbed, climbs_on}
use Rattle.cf_core.specs.Processors.{IsProcessor, Processor, after_move}
use Rattle.cf_index.specs.Allowed.{is_allowed, word_allowed}
use Rattle.cf_index.specs.Left.{AreLeft, IsLowest}
use Rattle.cf_index.specs.PickedFrom.{from_fall, left_then}
use Rattle.cf_index.proofs.LeftStages.{first_lowest}
use Rattle.cf_index.proofs.PickedFrom.{climbed_on}
use Rattle.cf_index.proofs.Rows.{allowed-has, word-has}
use Rattle.cf_sched.specs.Paces.{PaceCount}
use Rattle.cf_report.specs.declared.tally.Tally.{Tally}
use Rattle.cf_run.specs.Sweeps.{IsSweeping, PicksNext, SweepsTo, rule_at, silent}
use Rattle.cf_run.proofs.Turning.{after_keeps, come-counts, few-stages, no_turns, picked_free, picked_here, sweeping-kept, sweeps_on, within-sweeps}

-- The next Climb is picked --

-- the stages above one at which a Climb is allowed, as a word
abbrev above_test : Plan → State → ℕ → ℕ → Bool
above_test plan s a i = is_allowed plan s (Climb i) && nat_lt a i

abbrev above_word : Plan → State → ℕ → ℕ
above_word plan s a = word_of (above_test plan s a) plan.stages

above_has : (plan : Plan) (s : State) (a k : ℕ) → has_bit (above_word plan s a) k ≡ (has_bit (word_allowed plan s Climb) k && nat_lt a (k + 1))
above_has plan s a k =
    word-has (above_test plan s a) plan.stages k ∙ together (nat_lt k plan.stages) (is_allowed plan s (Climb (k + 1))) (nat_lt a (k + 1))
    ∙ ap (λ (b : Bool). b && nat_lt a (k + 1)) (sym (allowed-has plan s Climb k))
  where
    together : (a b c : Bool) → (a && (b && c)) ≡ ((a && b) && c)
    together true b c = refl
    together false b c = refl

numbered : (cells : List Cell) (i : ℕ) (c : Cell) → cell_at cells i ≡ Some c → i ≤ length cells
numbered cells zero c there = omega arith
numbered cells (suc k) c there = let within = slice_get_within cells k c there in omega (arith, within)

-- if the next stage can climb, it is the lowest of them
next_lowest : (plan : Plan) (s : State) (k : ℕ) → length s.cells ≡ plan.stages → bar plan s (Climb (k + 1)) ≡ None → IsLowest (above_word plan s k) (k + 1)
next_lowest plan s k size free =
    let r = climb_ready plan s (k + 1) (bar_row plan s (Climb (k + 1)) free) in
    let within = numbered s.cells (k + 1) r.low r.at_low in
    let z : k + 1 - 1 ≡ k = omega arith in
    let there : nat_lt k plan.stages ≡ true = grind (arith, nat_tests) in
    let past : nat_lt k (k + 1) ≡ true = grind (arith, nat_tests) in
    record {
      numbered = omega arith;
      here = rw z (word-has (above_test plan s k) plan.stages k ∙ rw (there, free, past) refl);
      first = λ j below. above_has plan s k j ∙ lower j below;
    }
  where
    lower : (j : ℕ) → j + 1 < k + 1 → (has_bit (word_allowed plan s Climb) j && nat_lt k (j + 1)) ≡ false
    lower j below =
        let off : nat_lt k (j + 1) ≡ false = grind (arith, nat_tests) in
        rw off (and-false (has_bit (word_allowed plan s Climb) j))

next_picked : (limit : ℕ) (p : Processor) (k : ℕ) (pace : PaceCount) (tally : Tally) → IsSweeping limit (rule_at p (Some (Climb k)) pace tally) →
    length p.state.cells ≡ p.plan.stages → bar p.plan p.state (Climb (k + 1)) ≡ None → PicksNext pace p (Some (Climb k)) (Climb (k + 1))
unfolding AreLeft
next_picked limit p k pace tally ready size free =
    let few = few-stages limit (rule_at p (Some (Climb k)) pace tally) ready in
    let held = is_held p.plan pace.count in
    let w = above_word p.plan p.state k in
    picked_here pace.rule held p.plan p.state (Some (Climb k)) (left_then Climb w from_fall p.plan p.state) (Climb (k + 1))
    (climbed_on pace.rule held p.plan p.state k w few (above_has p.plan p.state k))
    (first_lowest Climb w (k + 1) (from_fall p.plan p.state) (word-small (above_test p.plan p.state k) p.plan.stages few)
    (next_lowest p.plan p.state k size free))

-- Climb after Climb --

-- the count with this many more moves
abbrev pub with_moves : Tally → ℕ → Tally
with_moves tally n = record tally { moves = tally.moves + n }

-- the last pick of the rule after this many Climbs from stage i
abbrev last_climb : Option Move → (i n : ℕ) → Option Move
last_climb last i zero = last
last_climb last i (suc n) = Some (Climb (i + n))

-- where they lead
record ClimbsBy (limit : ℕ) (p : Processor) (last : Option Move) (pace : PaceCount) (tally : Tally) (i n : ℕ) : Type 0 where
  swept : SweepsTo limit silent (rule_at p last pace tally) (rule_at (climbed p i n) (last_climb last i n) pace (with_moves tally n))
  ready : IsSweeping limit (rule_at (climbed p i n) (last_climb last i n) pace (with_moves tally n))
  picked : climbs_on p i n → PicksNext pace (climbed p i n) (last_climb last i n) (Climb (i + n))
  plan : (climbed p i n).plan ≡ p.plan
  size : length (climbed p i n).state.cells ≡ p.plan.stages

keeps_size : (plan : Plan) (s : State) (i : ℕ) → bar plan s (Climb i) ≡ None → length (moved plan s (Climb i)).cells ≡ length s.cells
keeps_size plan s i free =
    let r = climb_ready plan s i (bar_row plan s (Climb i) free) in
    ap (λ (t : State). length t.cells) (next_climb plan s i r.low r.high r.at_low r.at_high)
    ∙ put_size (put_cell s.cells i (without_passenger r.low)) (i + 1) _ ∙ put_size s.cells i (without_passenger r.low)

climbs_by : (limit : ℕ) (p : Processor) (last : Option Move) (pace : PaceCount) (tally : Tally) (i most : ℕ) →
    IsSweeping limit (rule_at p last pace tally) → PicksNext pace p last (Climb i) → length p.state.cells ≡ p.plan.stages →
    ((n : ℕ) → n < most → climbs_on p i n) → (n : ℕ) → n ≤ most → ClimbsBy limit p last pace tally i n
unfolding climbed
climbs_by limit p last pace tally i most ready picked size all zero within = record {
  swept = subst (λ (t : Tally). SweepsTo limit silent (rule_at p last pace tally) (rule_at p last pace t)) (none_more tally)
      (no_turns limit silent (rule_at p last pace tally));
  ready = subst (λ (t : Tally). IsSweeping limit (rule_at p last pace t)) (none_more tally) ready;
  picked = λ free. subst (λ (k : ℕ). PicksNext pace p last (Climb k)) (omega arith) picked;
  plan = refl;
  size = size;
}
  where
    none_more : (t : Tally) → t ≡ with_moves t 0
    none_more t = ap (λ (n : ℕ). record t { moves = n }) (omega arith)
climbs_by limit p last pace tally i most ready picked size all (suc n) within =
    let so_far = climbs_by limit p last pace tally i most ready picked size all n (omega (arith, within)) in
    let q = climbed p i n in
    let before = rule_at q (last_climb last i n) pace (with_moves tally n) in
    let pick = so_far.picked (all n (omega (arith, within))) in
    let free = picked_free pace.rule q.plan pace.count q.state (last_climb last i n) (Climb (i + n)) pick in
    let new = after_move q (Climb (i + n)) in
    let turn : SweepsTo limit silent before (rule_at new (Some (Climb (i + n))) pace (with_moves tally (suc n))) =
    subst (λ (t : Tally). SweepsTo limit silent before (rule_at new (Some (Climb (i + n))) pace t)) (one_more n)
    (within-sweeps limit before new (Climb (i + n)) _ event.Plain (omega arith) (omega arith) so_far.ready pick refl refl refl) in
    let here = sweeping-kept limit before _ so_far.ready turn (after_keeps q new (Climb (i + n)) (λ e. absurd (omega (arith, e))) refl) in
    let sized = keeps_size q.plan q.state (i + n) free ∙ so_far.size in
    record {
      swept = sweeps_on limit silent _ before _ so_far.swept turn;
      ready = here;
      picked = λ next. subst (λ (k : ℕ). PicksNext pace new (Some (Climb (i + n))) (Climb k)) (onward n)
          (next_picked limit new (i + n) pace (with_moves tally (suc n)) here (sized ∙ ap (λ (l : Plan). l.stages) (sym so_far.plan))
          (subst (λ (l : Plan). bar l new.state (Climb (i + n + 1)) ≡ None) (sym so_far.plan)
          (subst (λ (k : ℕ). bar p.plan new.state (Climb k) ≡ None) (sym (onward n)) next)));
      plan = so_far.plan;
      size = sized;
    }
  where
    one_more : (n : ℕ) → with_moves (with_moves tally n) 1 ≡ with_moves tally (suc n)
    one_more n = ap (λ (m : ℕ). record tally { moves = m }) (omega arith)

    onward : (n : ℕ) → i + n + 1 ≡ i + suc n
    onward n = omega arith

-- where an instruction has climbed as far as it can
pub record ClimbsOn (limit : ℕ) (p new : Processor) (last : Option Move) (pace : PaceCount) (tally : Tally) (i j : ℕ) : Type 0 where
  pub swept : SweepsTo limit silent (rule_at p last pace tally) (rule_at new (Some (Climb (j - 1))) pace (with_moves tally (j - i)))
  pub ready : IsSweeping limit (rule_at new (Some (Climb (j - 1))) pace (with_moves tally (j - i)))
  pub counts : tally.moves + (j - i) < 2 ^ 64
  pub more : tally.moves < tally.moves + (j - i)

pub climbs-on : (limit : ℕ) (p new : Processor) (last : Option Move) (pace : PaceCount) (tally : Tally) (i j : ℕ) →
    IsSweeping limit (rule_at p last pace tally) → PicksNext pace p last (Climb i) → length p.state.cells ≡ p.plan.stages → ClimbsTo p i j →
    new ≡ climbed p i (j - i) → ClimbsOn limit p new last pace tally i j
climbs-on limit p new last pace tally i j ready picked size to is =
    let by = climbs_by limit p last pace tally i (j - i) ready picked size to.each (j - i) (omega arith) in
    let at = (come-counts limit silent _ by.ready.come).moves in
    let higher = to.higher in
    let highest : last_climb last i (j - i) ≡ Some (Climb (j - 1)) = last_is (j - i) refl higher in
    let place = λ (q : Processor) (o : Option Move). rule_at q o pace (with_moves tally (j - i)) in
    let same = ap (λ (q : Processor). place q (last_climb last i (j - i))) (sym is) ∙ ap (place new) highest in
    record {
      swept = subst (SweepsTo limit silent (rule_at p last pace tally)) same by.swept;
      ready = subst (IsSweeping limit) same by.ready;
      counts = omega (arith, at);
      more = omega (arith, higher);
    }
  where
    last_is : (n : ℕ) → j - i ≡ n → i < j → last_climb last i n ≡ Some (Climb (j - 1))
    last_is zero e higher = absurd (omega (arith, e, higher))
    last_is (suc n) e higher = let k : i + n ≡ j - 1 = omega (arith, e, higher) in ap (λ (m : ℕ). Some (Climb m)) k

climbed_plan : (p : Processor) (i n : ℕ) → (climbed p i n).plan ≡ p.plan
unfolding climbed
climbed_plan p i zero = refl
climbed_plan p i (suc n) = climbed_plan p i n

-- the word of the stages from which a Climb is left after it
pub climbs-left : (old new : Processor) (a w after i j : ℕ) → new ≡ climbed old i (j - i) → IsProcessor old.plan old.state →
    AreLeft old.plan old.state a Climb w → ClimbsTo old i j →
    ((p : Processor) (j a : ℕ) → AreLeft p.plan p.state a Climb w → IsProcessor p.plan p.state → ClimbsTo p i j →
    AreLeft p.plan (climbed p i (j - i)).state (j - 1) Climb after) →
    AreLeft new.plan new.state (j - 1) Climb after
climbs-left old new a w after i j made facts left to so =
    let there = subst (λ (l : Plan). AreLeft l (climbed old i (j - i)).state (j - 1) Climb after) (sym (climbed_plan old i (j - i)))
    (so old j a left facts to) in
    subst (λ (p : Processor). AreLeft p.plan p.state (j - 1) Climb after) (sym made) there
