-- The gaps that are counted are the gaps of the run.
use Rattle.std.proofs.Common.{◌≡◌, ◌∙◌, refl, ap, ℕ, zero, suc, ◌+◌, ◌-◌, ◌^◌, ◌<◌, List, [], ◌∷◌, map, Bool, true, false, cond, arith}
use Rattle.std.specs.Prelude.{filter, not}
use Rattle.cf_layout.specs.Layout.{Plan}
use Rattle.cf_semantics.specs.moves.Candidates.{counted_from}
use Rattle.cf_timed.proofs.Numbered.{numbered_length}
use Rattle.run_ledger.specs.GapCounts.{after_use, gaps_after, gaps_at, gaps_noted, with_gap}
use Rattle.run_ledger.specs.Gaps.{Gap, gap, gaps_from, holds_any, gap_total, users}
use Rattle.run_ledger.specs.Ledgers.{plus, plus_if}
use Rattle.run_ledger.specs.SeenMoves.{SeenMove, move_start}
use Rattle.run_ledger.specs.Using.{uses_stage}
use Rattle.run_ledger.specs.declared.gaps.StageGaps.{StageGaps}
use Rattle.run_ledger.proofs.Numbered.{numbered_same}

-- the gaps of a stage, taken from those of all stages
at_from : (f : ℕ → StageGaps) (m n i : ℕ) → i < n → gaps_at (map f (counted_from m n)) i ≡ f (m + i)
at_from f m zero i within = absurd (omega arith)
at_from f m (suc n) zero within = ap f (omega arith)
at_from f m (suc n) (suc i) within = at_from f (suc m) n i (omega arith) ∙ ap f (omega arith)

pub at_number : (f : ℕ → StageGaps) (n i : ℕ) → i < n → gaps_at (map f (counted_from 0 n)) i ≡ f i
at_number f n i within = at_from f 0 n i within ∙ ap f (omega arith)

-- the counted gaps of a stage, after some moves
abbrev pub gaps_over : Plan → ℕ → List SeenMove → StageGaps → StageGaps
gaps_over plan i [] g = g
gaps_over plan i (m ∷ moves) g = gaps_over plan i moves (gaps_after plan m.done m.state i g)

-- and those of all stages
abbrev pub all_over : Plan → List SeenMove → List StageGaps → List StageGaps
all_over plan [] all = all
all_over plan (m ∷ moves) all = all_over plan moves (gaps_noted plan m.done m.state all)

pub over_each : (plan : Plan) (n : ℕ) (moves : List SeenMove) (f : ℕ → StageGaps) →
    all_over plan moves (map f (counted_from 0 n)) ≡ map (λ i. gaps_over plan i moves (f i)) (counted_from 0 n)
over_each plan n [] f = refl
over_each plan n (m ∷ moves) f =
    ap (all_over plan moves) (ap (λ (k : ℕ). map (λ i. gaps_after plan m.done m.state i (gaps_at (map f (counted_from 0 n)) i)) (counted_from 0 k))
    (numbered_length f 0 n)
    ∙ numbered_same (λ i. gaps_after plan m.done m.state i (gaps_at (map f (counted_from 0 n)) i)) (λ i. gaps_after plan m.done m.state i (f i)) n
    (λ i within. ap (gaps_after plan m.done m.state i) (at_number f n i within)))
    ∙ over_each plan n moves (λ i. gaps_after plan m.done m.state i (f i))

-- the last gap, and a gap before others
last_held : (b : Bool) (number begin end : ℕ) → number < 2 ^ 64 →
    plus_if b number (end - begin) ≡ plus number (gap_total (filter (λ g. g.is_held) (gap begin end b ∷ [])))
last_held true number begin end small = omega arith
last_held false number begin end small = omega (arith, small)

first_held : (b : Bool) (number begin end : ℕ) (gaps : List Gap) →
    plus (plus_if b number (end - begin)) (gap_total (filter (λ g. g.is_held) gaps))
    ≡ plus number (gap_total (filter (λ g. g.is_held) (gap begin end b ∷ gaps)))
first_held true number begin end gaps = omega arith
first_held false number begin end gaps = refl

still_small : (b : Bool) (number more : ℕ) → number < 2 ^ 64 → plus_if b number more < 2 ^ 64
still_small true number more small = omega arith
still_small false number more small = small

-- so the gaps that are counted as waiting are those in which something is held
pub waiting-over : (plan : Plan) (i : ℕ) (moves : List SeenMove) (g : StageGaps) (end : ℕ) → g.waiting < 2 ^ 64 →
    (with_gap (gaps_over plan i moves g) end).waiting
    ≡ plus g.waiting (gap_total (filter (λ x. x.is_held) (gaps_from i g.until g.is_held (users plan i moves) end)))
unfolding gaps_after
waiting-over plan i [] g end small = last_held g.is_held g.waiting g.until end small
waiting-over plan i (m ∷ moves) g end small =
    by (uses_stage plan i m.done.mv)
    (waiting-over plan i moves (after_use g m.done (holds_any m.state i)) end (still_small g.is_held g.waiting (move_start m.done - g.until) small))
    (waiting-over plan i moves g end small)
  where
    by : (b : Bool) →
        (with_gap (gaps_over plan i moves (after_use g m.done (holds_any m.state i))) end).waiting
        ≡ plus (with_gap g (move_start m.done)).waiting
        (gap_total (filter (λ x. x.is_held) (gaps_from i m.done.time (holds_any m.state i) (users plan i moves) end))) →
        (with_gap (gaps_over plan i moves g) end).waiting ≡ plus g.waiting
        (gap_total (filter (λ x. x.is_held) (gaps_from i g.until g.is_held (users plan i moves) end))) →
        (with_gap (gaps_over plan i moves (cond b (after_use g m.done (holds_any m.state i)) g)) end).waiting
        ≡ plus g.waiting (gap_total (filter (λ x. x.is_held) (gaps_from i g.until g.is_held (cond b (m ∷ users plan i moves) (users plan i moves)) end)))
    by true used unused =
        used ∙ first_held g.is_held g.waiting g.until (move_start m.done) (gaps_from i m.done.time (holds_any m.state i) (users plan i moves) end)
    by false used unused = unused

-- and those that are counted as empty are the others
last_empty : (b : Bool) (number begin end : ℕ) → number < 2 ^ 64 →
    plus_if (not b) number (end - begin) ≡ plus number (gap_total (filter (λ g. not g.is_held) (gap begin end b ∷ [])))
last_empty true number begin end small = omega (arith, small)
last_empty false number begin end small = omega arith

first_empty : (b : Bool) (number begin end : ℕ) (gaps : List Gap) →
    plus (plus_if (not b) number (end - begin)) (gap_total (filter (λ g. not g.is_held) gaps))
    ≡ plus number (gap_total (filter (λ g. not g.is_held) (gap begin end b ∷ gaps)))
first_empty true number begin end gaps = refl
first_empty false number begin end gaps = omega arith

pub empty-over : (plan : Plan) (i : ℕ) (moves : List SeenMove) (g : StageGaps) (end : ℕ) → g.empty < 2 ^ 64 →
    (with_gap (gaps_over plan i moves g) end).empty
    ≡ plus g.empty (gap_total (filter (λ x. not x.is_held) (gaps_from i g.until g.is_held (users plan i moves) end)))
unfolding gaps_after
empty-over plan i [] g end small = last_empty g.is_held g.empty g.until end small
empty-over plan i (m ∷ moves) g end small =
    by (uses_stage plan i m.done.mv)
    (empty-over plan i moves (after_use g m.done (holds_any m.state i)) end (still_small (not g.is_held) g.empty (move_start m.done - g.until) small))
    (empty-over plan i moves g end small)
  where
    by : (b : Bool) →
        (with_gap (gaps_over plan i moves (after_use g m.done (holds_any m.state i))) end).empty
        ≡ plus (with_gap g (move_start m.done)).empty
        (gap_total (filter (λ x. not x.is_held) (gaps_from i m.done.time (holds_any m.state i) (users plan i moves) end))) →
        (with_gap (gaps_over plan i moves g) end).empty ≡ plus g.empty (gap_total
        (filter (λ x. not x.is_held) (gaps_from i g.until g.is_held (users plan i moves) end))) →
        (with_gap (gaps_over plan i moves (cond b (after_use g m.done (holds_any m.state i)) g)) end).empty
        ≡ plus g.empty (gap_total (filter (λ x. not x.is_held) (gaps_from i g.until g.is_held (cond b (m ∷ users plan i moves) (users plan i moves)) end)))
    by true used unused =
        used ∙ first_empty g.is_held g.empty g.until (move_start m.done) (gaps_from i m.done.time (holds_any m.state i) (users plan i moves) end)
    by false used unused = unused
